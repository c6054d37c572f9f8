-- The code's answer as the definitions': an accepted annex is as many bytes as it says, of what the buffer then holds.
use Rattle.std.specs.Prelude.{ℕ, List, Result}
use Rattle.spec.specs.Answer as spec-answer
use Rattle.answers.specs.Answers.{told_by, AnswersBy}
use Rattle.answers.specs.declared.Refused.{Refused}
use Rattle.figures.specs.declared.Columns.{Columns}
use Rattle.figures.specs.declared.Refusal.{Refusal}

abbrev pub refusal_number : Refusal → ℕ
refusal_number Refusal.NoLines = 41
refusal_number Refusal.ManyLines = 41
refusal_number Refusal.BadLine = 42
refusal_number Refusal.LongAnnex = 28

abbrev pub told : Result Columns (Refused Refusal) → Result Columns (ℕ × ℕ)
told = told_by refusal_number

abbrev pub Answers : spec-answer.Answer → List ℕ → List ℕ → Result ℕ (Refused Refusal) → Type 0
Answers = AnswersBy refusal_number
