-- The entry's answer as the numbers that C is handed: accepted or not, the listing's length, the refusal's number and line.
use Rattle.std.specs.Prelude.{ℕ, zero, suc, ◌≤◌, ◌≡◌, Bool, true, false, ◌⊎◌, List, length, take}
use Rattle.spec.specs.Answer.{Answer, refused, accepted, left_in}

abbrev pub told : Bool → ℕ → ℕ → ℕ → List ℕ → Answer
told true k n l buffer = accepted (take k buffer)
told false k n l buffer = refused n l

-- what does not apply is 0: number and line of an accepted ticket, the length of a refused one
abbrev pub Unused : Bool → ℕ → ℕ → ℕ → Type 0
Unused true k n l = (n ≡ 0) × (l ≡ 0)
Unused false k n l = k ≡ 0

-- the answer is a, and every number and every byte of the buffer is settled
pub record Tells (a : Answer) (buffer buffer' : List ℕ) (r : Bool) (k n l : ℕ) : Type 0 where
  pub answer : told r k n l buffer' ≡ a
  pub left : buffer' ≡ left_in a buffer
  pub within : k ≤ length buffer'
  pub rest : Unused r k n l

-- the same by a number: refused or accepted, and S does not hold; or S holds, or M, and the buffer is as it was
abbrev pub CaseIn : Answer → Type 0 → Type 0 → List ℕ → List ℕ → ℕ → ℕ → ℕ → ℕ → Type 0
CaseIn a S M buffer buffer' zero k n l = (S → ⊥) × Tells a buffer buffer' false k n l
CaseIn a S M buffer buffer' (suc zero) k n l = (S → ⊥) × Tells a buffer buffer' true k n l
CaseIn a S M buffer buffer' (suc (suc zero)) k n l = (M ⊎ S) × (buffer' ≡ buffer) × (k ≡ 0) × (n ≡ 0) × (l ≡ 0)
CaseIn a S M buffer buffer' (suc (suc (suc r))) k n l = ⊥

pub record TellsIn (a : Answer) (S M : Type 0) (buffer buffer' : List ℕ) (r k n l : ℕ) : Type 0 where
  pub shown : CaseIn a S M buffer buffer' r k n l
