-- The operands of a value one by one: what is left to go through.
use Rattle.std.specs.Prelude.{List, ◌++◌, ℕ, drop}
use Rattle.spec.specs.Lir.{ValueOperand, bit_operand, byte_operand}
use Rattle.lir.specs.Abstract.{bit_operand_of, byte_operand_of}
use Rattle.values.specs.declared.Value.{Value as Val}
use Rattle.values.specs.Heads.{head_of, Sound_value, head_operands, operands_of}
use Rattle.parts.specs.declared.Operand.{Operand}
use Rattle.parts.specs.Records.{heads_in, AreRecords}

abbrev pub operand_of : Operand → ValueOperand
operand_of (Operand.Bit b) = bit_operand (bit_operand_of b)
operand_of (Operand.Byte b) = byte_operand (byte_operand_of b)

-- a record's own operands
abbrev pub own : Val → List ValueOperand
own v = head_operands (head_of v)

-- those of v from i on, and those of the records ws behind it
unfoldable pub left_operands : Val → ℕ → List ℕ → List ValueOperand
left_operands v i ws = drop i (own v) ++ operands_of (heads_in ws)

pub record Ready (v : Val) (ws : List ℕ) : Type 0 where
  pub sound : Sound_value v
  pub records : AreRecords ws
