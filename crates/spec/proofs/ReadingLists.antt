-- Facts of lists: what holds of every element, and sums.
use Prim.Native.Nat.{ℕ, zero, suc, ◌+◌, ◌≤◌, ◌<◌}
use mathlib.Core.List.{List, [], ◌∷◌, ◌++◌}
use Rattle.std.specs.Prelude.{Some}
use Rattle.std.proofs.lemmas.Option.{none-some}
use mathlib.Core.Path.{◌≡◌, refl, ap₂}
use native.Mathlib.Omega.{arith}
use Rattle.spec.specs.Ticket.{sum}
use Rattle.spec.specs.Operands.{nth}
use Rattle.spec.specs.Readable.{All, All_below}

pub All_of : {A : Type 0} (P : A → Type 0) (xs : List A) → ((x : A) → P x) → All P xs
unfolding All
All_of P [] f = tt
All_of P (x ∷ xs) f = (f x, All_of P xs f)

pub All_map : {A : Type 0} {P Q : A → Type 0} (xs : List A) → ((x : A) → P x → Q x) → All P xs → All Q xs
unfolding All
All_map [] f h = tt
All_map (x ∷ xs) f h = (f x h.0, All_map xs f h.1)

pub All_append : {A : Type 0} (P : A → Type 0) (xs : List A) (y : A) → All P xs → P y → All P (xs ++ (y ∷ []))
unfolding All
All_append P [] y h p = (p, tt)
All_append P (x ∷ xs) y h p = (h.0, All_append P xs y h.1 p)

-- what holds of every element holds of the one at a number
pub All_nth : {A : Type 0} (P : A → Type 0) (xs : List A) (k : ℕ) (x : A) → All P xs → nth xs k ≡ Some x → P x
unfolding All nth
All_nth P [] k x h e = absurd (none-some _ e)
All_nth P (y ∷ xs) zero x h e = let g : y ≡ x = cc in rw (← g) h.0
All_nth P (y ∷ xs) (suc k) x h e = All_nth P xs k x h.1 e

pub below_all : (n : ℕ) (P : ℕ → Type 0) (xs : List ℕ) → ((i : ℕ) → i < n → P i) → All_below n xs → All P xs
unfolding All All_below
below_all n P [] f h = tt
below_all n P (x ∷ xs) f h = (f x h.0, below_all n P xs f h.1)

pub All_both : {A : Type 0} {P Q R : A → Type 0} (xs : List A) → ((x : A) → P x → Q x → R x) → All P xs → All Q xs → All R xs
unfolding All
All_both [] f h k = tt
All_both (x ∷ xs) f h k = (f x h.0 k.0, All_both xs f h.1 k.1)

pub sum_same : (f g : ℕ → ℕ) (xs : List ℕ) → All (λ i. f i ≡ g i) xs → sum f xs ≡ sum g xs
unfolding All
sum_same f g [] h = refl
sum_same f g (x ∷ xs) h = ap₂ (λ (a b : ℕ). a + b) h.0 (sum_same f g xs h.1)

pub sum_le : (f g : ℕ → ℕ) (xs : List ℕ) → All (λ i. f i ≤ g i) xs → sum f xs ≤ sum g xs
unfolding All
sum_le f g [] h = omega arith
sum_le f g (x ∷ xs) h = let a = h.0 in let b = sum_le f g xs h.1 in omega arith
