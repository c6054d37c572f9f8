-- The answer to every input and every lent output, and what the output then holds.
use Rattle.std.specs.Prelude.{ℕ, ◌%◌, ◌≤◌, ◌≡◌, Bool, true, false, List, eqb, leb, length}
use Rattle.std.specs.Prelude.{Result, Ok, Err, OnOk, IfErr}
use Rattle.spec.specs.Answer.{Answer, refused, accepted}
use Rattle.answers.specs.Answers.{told_by, AnswersBy}
use Rattle.answers.specs.declared.Refused.{Refused}
use Rattle.blocks.specs.Blocks.{block_length, transposed, transposed_back}
use Rattle.blocks.specs.declared.Refusal.{Refusal}
use Rattle.blocks.specs.declared.Refusal.TheVariants.{Uneven, Short}
use Rattle.blocks.specs.declared.Direction.{Direction}
use Rattle.blocks.specs.declared.Direction.TheVariants.{ToValves, ToDays}

-- 39: no whole number of blocks; then 40: longer than the output
unfoldable pub of_tests : Bool → Bool → List ℕ → Answer
of_tests false fits ys = refused 39 0
of_tests true false ys = refused 40 0
of_tests true true ys = accepted ys

-- the answer where f is what the input becomes, given the length of the lent output
unfoldable pub answer : (List ℕ → List ℕ) → List ℕ → ℕ → Answer
answer f input room = of_tests (eqb (length input % block_length) 0) (leb (length input) room) (f input)

-- the number of each refusal, as the request has it
abbrev pub refusal_number : Refusal → ℕ
refusal_number Uneven = 39
refusal_number Short = 40

-- the code's answer: a length, or a refusal's number and line
abbrev pub outcome : Result ℕ (Refused Refusal) → Result ℕ (ℕ × ℕ)
outcome = told_by refusal_number

-- of what is accepted the code tells the length
abbrev pub told : Answer → Result ℕ (ℕ × ℕ)
told (refused n l) = Err (n, l)
told (accepted ys) = Ok (length ys)

-- the answer is settled, and so is every byte of the output
abbrev pub Answers : (List ℕ → List ℕ) → List ℕ → List ℕ → List ℕ → Result ℕ (Refused Refusal) → Type 0
Answers f input output = AnswersBy refusal_number (answer f input (length output)) output

-- what each way makes of an input
abbrev pub turned : Direction → List ℕ → List ℕ
turned ToValves = transposed
turned ToDays = transposed_back

-- the two lengths decide: what is refused is refused whatever the bytes
pub record Judged (n room : ℕ) (r : Result (Unit {0}) (Refused Refusal)) : Type 0 where
  pub fits : OnOk r ((n % block_length ≡ 0) × (n ≤ room))
  pub refuses : IfErr r (λ e. (ys : List ℕ) → of_tests (eqb (n % block_length) 0) (leb n room) ys ≡ refused (refusal_number e.refusal) e.line)
