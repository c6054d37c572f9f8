-- Selecting as the Rust does it, and lowering and the answer with it: before two bits could be chosen for a byte (E3).
use Rattle.std.specs.Prelude.{ℕ, ◌&&◌, List, [], ◌∷◌, eqb, length}
use Rattle.std.specs.Prelude.{Option, None, Some}
use Rattle.spec.specs.Hir.{Expr, boolean, integer, float32, float64, null_pointer, static_address, function_address, read, integer_unary, integer_binary, float_unary, float_binary, compare, convert, select, address_of, pointer_offset, aggregate, extract_element, insert_element, Exprs, no_exprs, ◌∷ᵉ◌}
use Rattle.spec.specs.Ticket.{Tables, nowhere}
use Rattle.spec.specs.Read as reading
use Rattle.spec.specs.Readable.{root}
use Rattle.spec.specs.Lir.{BitOperand, constant, immediate, ValueOperand, bit_operand, byte_operand, ValueStorage, bit_storage, byte_storage, InstructionKind, select_byte, select_bit, Value, value, bit_value, bytes_value, Values, no_values, ◌∷ᵛ◌, flatten_value_operands}
use Rattle.spec.specs.Lir as lir
use Rattle.spec.specs.Monad.{Lower, Outcome, ◌>>=◌, ◌>>◌, pure, refuse, own, emit, or_refuse, require}
use Rattle.spec.specs.Operands.{value_type}
use Rattle.spec.specs.Allocation.{Location, allocate_temporary, location_value_storages}
use Rattle.spec.specs.ReadBytes.{read_location}
use Rattle.spec.specs.Arithmetic.{lower_integer_unary, lower_integer_binary}
use Rattle.spec.specs.Conversions.{lower_compare, lower_conversion}
use Rattle.spec.specs.Select.{lower_address_of, lower_static_address, lower_function_address, lower_pointer_offset}
use Rattle.spec.specs.Lower.{lower_integer, lower_read, lower_extract, lower_insert, as_bit}
use Rattle.spec.specs.Answer.{Answer, refused, of_lowering}

unfoldable pub select_piece : BitOperand → ValueStorage → ValueOperand → ValueOperand → Option InstructionKind
select_piece c (bit_storage d) (bit_operand t) (bit_operand f) = Some (select_bit d c t f)
select_piece c (bit_storage d) (bit_operand t) (byte_operand f) = None
select_piece c (bit_storage d) (byte_operand t) f = None
select_piece c (byte_storage d) (byte_operand t) (byte_operand f) = Some (select_byte d c t f)
select_piece c (byte_storage d) (byte_operand t) (bit_operand f) = None
select_piece c (byte_storage d) (bit_operand t) f = None

unfoldable pub select_pieces : BitOperand → List ValueStorage → List ValueOperand → List ValueOperand → Lower Unit
select_pieces c [] ts fs = pure tt
select_pieces c (d ∷ ds) [] fs = pure tt
select_pieces c (d ∷ ds) (t ∷ ts) [] = pure tt
select_pieces c (d ∷ ds) (t ∷ ts) (f ∷ fs) = do
  i ← or_refuse 24 (select_piece c d t f)
  emit i
  select_pieces c ds ts fs

module _ (T : Tables) where
  unfoldable pub select_to_location : Location → BitOperand → Value → Value → Lower Unit
  select_to_location l c t f = do
    require 22 (eqb (value_type t) (value_type f) && eqb (value_type t) l.ty)
    select_pieces c (location_value_storages T l) (flatten_value_operands t) (flatten_value_operands f)

  unfoldable pub lower_select : BitOperand → Value → Value → ℕ → Lower Value
  lower_select c t f ty = do
    temporary ← allocate_temporary T ty
    select_to_location temporary c t f
    read_location T temporary

  unfoldable mutual
    pub lower_expression : Expr → Lower Value
    lower_expression (boolean h b) = pure (value h.ty (bit_value (constant b)))
    lower_expression (integer h v) = own h (lower_integer T v h.ty)
    lower_expression (float32 h v) = own h (refuse 23)
    lower_expression (float64 h v) = own h (refuse 23)
    lower_expression (null_pointer h) = pure (value h.ty (bytes_value (immediate 0 ∷ immediate 0 ∷ [])))
    lower_expression (static_address h k o) = own h (lower_static_address T k o)
    lower_expression (function_address h f) = own h (lower_function_address T f)
    lower_expression (read h p) = own h (lower_read T p h.ty)
    lower_expression (integer_unary h op e) = do
      operand ← lower_expression e
      own h (lower_integer_unary T op operand h.ty)
    lower_expression (integer_binary h op l r) = do
      left ← lower_expression l
      right ← lower_expression r
      own h (lower_integer_binary T op left right h.ty)
    lower_expression (float_unary h e) = own h (refuse 24)
    lower_expression (float_binary h l r) = own h (refuse 24)
    lower_expression (compare h op l r) = do
      left ← lower_expression l
      right ← lower_expression r
      own h (lower_compare T op left right)
    lower_expression (convert h op e) = do
      operand ← lower_expression e
      own h (lower_conversion T op operand h.ty)
    lower_expression (select h t f c) = do
      when_true ← lower_expression t
      when_false ← lower_expression f
      condition ← as_bit T h (lower_expression c)
      own h (lower_select condition when_true when_false h.ty)
    lower_expression (address_of h p) = own h (lower_address_of T p)
    lower_expression (pointer_offset h b o) = do
      base ← lower_expression b
      offset ← lower_expression o
      own h (lower_pointer_offset T base offset)
    lower_expression (aggregate h es) = do
      vs ← lower_expressions es
      pure (value h.ty (lir.aggregate vs))
    lower_expression (extract_element h e i) = do
      v ← lower_expression e
      own h (lower_extract T v i)
    lower_expression (insert_element h e i w) = do
      v ← lower_expression e
      x ← lower_expression w
      own h (lower_insert T v i x h.ty)

    pub lower_expressions : Exprs → Lower Values
    lower_expressions no_exprs = pure no_values
    lower_expressions (e ∷ᵉ es) = do
      v ← lower_expression e
      vs ← lower_expressions es
      pure (v ∷ᵛ vs)

  unfoldable pub lowered : Outcome Value
  lowered = lower_expression (root T) nowhere (record { storage = length T.storages; temporary = T.next })

unfoldable pub of_reading : ℕ → reading.Read → Answer
of_reading room (reading.refused n l) = refused n l
of_reading room (reading.accepted T) = of_lowering T room (lowered T)

unfoldable pub answer : List ℕ → ℕ → Answer
answer ticket room = of_reading room (reading.read_ticket ticket)
