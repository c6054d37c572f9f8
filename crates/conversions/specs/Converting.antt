-- Bytes resized, how an operator converts, and a value under another type.
use Rattle.std.specs.Prelude.{◌≡◌, Bool, true, false, List, ℕ, ◌≤◌, eqb, Result, Ok, Err}
use Rattle.answers.specs.declared.Refusal.{Refusal}
use Rattle.answers.specs.declared.Refused.{Refused}
use Rattle.spec.specs.Ticket.{conversion_op}
use Rattle.spec.specs.Operands.{resize}
use Rattle.spec.specs.Operators.{ConversionForm, resizing, extending_sign, reinterpreting, from_boolean, to_boolean, of_float, conversion_form}
use Rattle.lir.specs.Abstract.{bytes_of, Small}
use Rattle.lir.specs.declared.Bytes.{Bytes}
use Rattle.tables.specs.declared.Counts.{Counts}
use Rattle.tables.specs.Tables.{size_at}
use Rattle.values.specs.declared.Value.{Value as Val}
use Rattle.reads.specs.declared.At.{At}
use Rattle.conversions.specs.declared.Form.{Form}

pub record Resizes (b : Bytes) (n : ℕ) (r : Bytes) : Type 0 where
  pub is : bytes_of r ≡ resize n (bytes_of b)
  pub small : Small b → n ≤ 4294967296 → Small r

-- ---------------------------------------------------------------- operators

abbrev pub form_of : Form → ConversionForm
form_of Form.Resizing = resizing
form_of Form.ExtendingSign = extending_sign
form_of Form.Reinterpreting = reinterpreting
form_of Form.FromBoolean = from_boolean
form_of Form.ToBoolean = to_boolean
form_of Form.OfFloat = of_float

-- r says whether the operator op reinterprets
pub record Reinterprets (op : ℕ) (r : Bool) : Type 0 where
  pub when : r ≡ true → conversion_form (conversion_op op) ≡ reinterpreting
  pub otherwise : r ≡ false → conversion_form (conversion_op op) ≡ reinterpreting → ⊥

-- ---------------------------------------------------------------- a value under another type

abbrev pub retyped : ℕ → Val → Val
retyped ty v = record { ty = ty; repr = v.repr }

abbrev pub reinterpreted_by : Bool → Val → At → Result Val (Refused Refusal)
reinterpreted_by true v h = Ok (retyped h.ty v)
reinterpreted_by false v h = Err (record { refusal = Refusal.TypeMismatch; line = h.line })

-- where the sizes are equal
unfoldable pub reinterpreted_of : List ℕ → Counts → Val → At → Result Val (Refused Refusal)
reinterpreted_of rows c v h = reinterpreted_by (eqb (size_at rows c v.ty) (size_at rows c h.ty)) v h
