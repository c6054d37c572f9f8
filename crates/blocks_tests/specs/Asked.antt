-- What a case asks: a call by its number, the answer, and every byte of the output.
use Rattle.std.specs.Prelude.{ℕ, ◌≡◌, Bool, true, ◌&&◌, List, ◌==◌, if◌then◌else◌, Result, Ok, Err, length}
use Rattle.spec.specs.Answer.{left_in}
use Rattle.cases.specs.Cases.{filling}
use Rattle.blocks.specs.Blocks.{transposed, transposed_back, all_mirrored}
use Rattle.blocks.specs.Shown.{answer, told}

-- what the call makes of its input
abbrev pub turned : ℕ → List ℕ → List ℕ
turned call = if call == 0 then transposed else (if call == 1 then transposed_back else all_mirrored)

-- the refusal of that number and line, or for number 0 the length
abbrev pub fits : ℕ → ℕ → ℕ → Result ℕ (ℕ × ℕ) → Bool
fits number line n (Err e) = (e.0 == number) && (e.1 == line)
fits number line n (Ok m) = (number == 0) && (m == n)

-- a case that holds says what the definitions answer, and leave in a filled output
pub record Holds (call number line : ℕ) (input : List ℕ) (room : ℕ) (expected : List ℕ) (r : Bool) : Type 0 where
  pub answers : r ≡ true → fits number line (length input) (told (answer (turned call) input room)) ≡ true
  pub leaves : r ≡ true → left_in (answer (turned call) input room) (filling room) ≡ expected
