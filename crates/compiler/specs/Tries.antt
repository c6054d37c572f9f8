-- An answer, or that the words lent were too few.
use Rattle.std.specs.Prelude.{ℕ, ◌≡◌, ◌⊎◌, List, Result, Ok, Err}
use Rattle.spec.specs.Answer.{Answer}
use Rattle.answers.specs.Answers.{Answers}
use Rattle.ticket.specs.declared.ReadError.{ReadError}

-- the same, and S does not hold; or S holds, or M, and the buffer is as it was. So where M does not hold, there is no room exactly if S holds
abbrev pub CaseTried : Answer → Type 0 → Type 0 → List ℕ → List ℕ → Result ℕ ReadError → Type 0
CaseTried a S M buffer buffer' (Ok k) = (S → ⊥) × Answers a buffer buffer' (Ok k)
CaseTried a S M buffer buffer' (Err (ReadError.Refused e)) = (S → ⊥) × Answers a buffer buffer' (Err e)
CaseTried a S M buffer buffer' (Err ReadError.NoRoom) = (M ⊎ S) × (buffer' ≡ buffer)

pub record Tries (a : Answer) (S M : Type 0) (buffer buffer' : List ℕ) (r : Result ℕ ReadError) : Type 0 where
  pub shown : CaseTried a S M buffer buffer' r
