-- The fields behind a value's type, one line a record of the value.
use Rattle.std.specs.Prelude.{ℕ, List, ◌∷◌, []}
use Rattle.spec.specs.Text as text
use Rattle.spec.specs.Lir as lir
use Rattle.spec.specs.Text.{digits}
use Rattle.spec.specs.Print.{listed, bit_operand, byte_operand}

abbrev pub unit_fields : List (List ℕ)
unit_fields = text.bytes "unit" ∷ []

abbrev pub bit_fields : lir.BitOperand → List (List ℕ)
bit_fields b = text.bytes "bit" ∷ bit_operand b ∷ []

abbrev pub bytes_fields : List lir.ByteOperand → List (List ℕ)
bytes_fields bs = text.bytes "bytes" ∷ listed byte_operand bs

abbrev pub aggregate_fields : ℕ → List (List ℕ)
aggregate_fields parts = text.bytes "aggregate" ∷ digits parts ∷ []
