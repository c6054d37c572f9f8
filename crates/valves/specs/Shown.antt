-- The code's answer as the definitions': an accepted ticket is as many bytes as it says, of what the buffer then holds.
use Rattle.std.specs.Prelude.{ℕ, ◌≤◌, ◌<◌, ◌≡◌, List, length, Result, Ok, Err}
use Rattle.spec.specs.Answer.{Answer, accepted, left_in}
use Rattle.answers.specs.declared.Refused.{Refused}
use Rattle.answers.specs.Answers.{AnswersBy}
use Rattle.valves.specs.Refusals.{refusal_number}
use Rattle.valves.specs.declared.refusal.Refusal.{Refusal}

abbrev pub Answers : Answer → List ℕ → List ℕ → Result ℕ (Refused Refusal) → Type 0
Answers = AnswersBy refusal_number

-- a text stands in front of the buffer, or is too long for it, and the buffer is as it was
abbrev pub Written : List ℕ → List ℕ → List ℕ → Result ℕ Refusal → Type 0
Written s buffer buffer' (Err e) = (e ≡ Refusal.LongTicket) × (length buffer < length s) × (buffer' ≡ buffer)
Written s buffer buffer' (Ok k) = (k ≡ length s) × (length s ≤ length buffer) × (buffer' ≡ left_in (accepted s) buffer)
