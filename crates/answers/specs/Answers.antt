-- The code's answer as the definitions': what is accepted is as many bytes as it says, of what the buffer then holds.
use Rattle.std.specs.Prelude.{ℕ, ◌≤◌, ◌≡◌, List, length, take}
use Rattle.std.specs.Prelude.{Result, Ok, Err}
use Rattle.spec.specs.Answer.{Answer, refused, accepted, left_in}
use Rattle.answers.specs.declared.Refusal.{Refusal}
use Rattle.answers.specs.declared.Refused.{Refused}
use Rattle.answers.specs.Refusals.{refusal_number}

-- ---------------------------------------------------------------- for any refusals, each with a number

-- the number and the line in the place of the refusal
abbrev pub told_by : {R X : Type 0} → (R → ℕ) → Result X (Refused R) → Result X (ℕ × ℕ)
told_by number (Ok x) = Ok x
told_by number (Err e) = Err (number e.refusal, e.line)

abbrev pub shown_by : {R : Type 0} → (R → ℕ) → Result ℕ (Refused R) → List ℕ → Answer
shown_by number (Err e) buffer = refused (number e.refusal) e.line
shown_by number (Ok k) buffer = accepted (take k buffer)

-- the buffer has as many bytes as that
abbrev pub Within : {R : Type 0} → Result ℕ (Refused R) → List ℕ → Type 0
Within (Err e) buffer = Unit {0}
Within (Ok k) buffer = k ≤ length buffer

-- the answer is a, its length with it, and every byte of the buffer is settled
pub record AnswersBy {R : Type 0} (number : R → ℕ) (a : Answer) (buffer buffer' : List ℕ) (r : Result ℕ (Refused R)) : Type 0 where
  pub answer : shown_by number r buffer' ≡ a
  pub left : buffer' ≡ left_in a buffer
  pub within : Within r buffer'

-- ---------------------------------------------------------------- for a ticket's

abbrev pub shown : Result ℕ (Refused Refusal) → List ℕ → Answer
shown = shown_by refusal_number

abbrev pub Answers : Answer → List ℕ → List ℕ → Result ℕ (Refused Refusal) → Type 0
Answers = AnswersBy refusal_number
