-- `lower_expression`, `lower_expressions`, `expression_as_bit`.
use Rattle.std.specs.Prelude.{ℕ, [], ◌∷◌, leb, length}
use Rattle.spec.specs.Limits.{constant_limit}
use Rattle.spec.specs.Hir.{At, Expr, boolean, integer, float32, float64, null_pointer, static_address, function_address, read, integer_unary, integer_binary, float_unary, float_binary, compare, convert, select, address_of, pointer_offset, aggregate, extract_element, insert_element, Exprs, no_exprs, ◌∷ᵉ◌, Place}
use Rattle.spec.specs.Ticket.{Tables, nowhere}
use Rattle.spec.specs.Readable.{root}
use Rattle.spec.specs.Lir.{immediate, BitOperand, constant, Value, value, bit_value, bytes_value, Values, no_values, ◌∷ᵛ◌}
use Rattle.spec.specs.Lir as lir
use Rattle.spec.specs.Monad.{Lower, Outcome, ◌>>=◌, ◌>>◌, pure, refuse, own, or_refuse, require}
use Rattle.spec.specs.Operands.{value_repr, repr_parts, integer_bytes, nth_value, set_value}
use Rattle.spec.specs.Allocation.{type_size}
use Rattle.spec.specs.Places.{resolve_place}
use Rattle.spec.specs.ReadBytes.{read_location}
use Rattle.spec.specs.Arithmetic.{lower_integer_unary, lower_integer_binary}
use Rattle.spec.specs.Conversions.{lower_compare, lower_conversion, value_as_bit}
use Rattle.spec.specs.Select.{lower_select, lower_address_of, lower_static_address, lower_function_address, lower_pointer_offset}

module _ (T : Tables) where
  -- 26: the Rust's shift of a 128-bit number overflows
  unfoldable pub lower_integer : ℕ → ℕ → Lower Value
  lower_integer v ty = do
    require 26 (leb (type_size T ty) constant_limit)
    pure (value ty (bytes_value (integer_bytes v (type_size T ty))))

  unfoldable pub lower_read : Place → ℕ → Lower Value
  lower_read p ty = do
    l ← resolve_place T p ty
    read_location T l

  unfoldable pub lower_extract : Value → ℕ → Lower Value
  lower_extract v i = do
    vs ← or_refuse 24 (repr_parts (value_repr v))
    or_refuse 24 (nth_value vs i)

  unfoldable pub lower_insert : Value → ℕ → Value → ℕ → Lower Value
  lower_insert v i w ty = do
    vs ← or_refuse 24 (repr_parts (value_repr v))
    us ← or_refuse 24 (set_value vs i w)
    pure (value ty (lir.aggregate us))

  -- a value as a bit, by the node h's own step
  unfoldable pub as_bit : At → Lower Value → Lower BitOperand
  as_bit h m = do
    v ← m
    own h (value_as_bit T v)

  unfoldable mutual
    pub lower_expression : Expr → Lower Value
    lower_expression (boolean h b) = pure (value h.ty (bit_value (constant b)))
    lower_expression (integer h v) = own h (lower_integer v h.ty)
    lower_expression (float32 h v) = own h (refuse 23)
    lower_expression (float64 h v) = own h (refuse 23)
    lower_expression (null_pointer h) = pure (value h.ty (bytes_value (immediate 0 ∷ immediate 0 ∷ [])))
    lower_expression (static_address h k o) = own h (lower_static_address T k o)
    lower_expression (function_address h f) = own h (lower_function_address T f)
    lower_expression (read h p) = own h (lower_read p h.ty)
    lower_expression (integer_unary h op e) = do
      operand ← lower_expression e
      own h (lower_integer_unary T op operand h.ty)
    lower_expression (integer_binary h op l r) = do
      left ← lower_expression l
      right ← lower_expression r
      own h (lower_integer_binary T op left right h.ty)
    lower_expression (float_unary h e) = own h (refuse 24)
    lower_expression (float_binary h l r) = own h (refuse 24)
    lower_expression (compare h op l r) = do
      left ← lower_expression l
      right ← lower_expression r
      own h (lower_compare T op left right)
    lower_expression (convert h op e) = do
      operand ← lower_expression e
      own h (lower_conversion T op operand h.ty)
    lower_expression (select h t f c) = do
      when_true ← lower_expression t
      when_false ← lower_expression f
      condition ← as_bit h (lower_expression c)
      own h (lower_select T condition when_true when_false h.ty)
    lower_expression (address_of h p) = own h (lower_address_of T p)
    lower_expression (pointer_offset h b o) = do
      base ← lower_expression b
      offset ← lower_expression o
      own h (lower_pointer_offset T base offset)
    lower_expression (aggregate h es) = do
      vs ← lower_expressions es
      pure (value h.ty (lir.aggregate vs))
    lower_expression (extract_element h e i) = do
      v ← lower_expression e
      own h (lower_extract v i)
    lower_expression (insert_element h e i w) = do
      v ← lower_expression e
      x ← lower_expression w
      own h (lower_insert v i x h.ty)

    pub lower_expressions : Exprs → Lower Values
    lower_expressions no_exprs = pure no_values
    lower_expressions (e ∷ᵉ es) = do
      v ← lower_expression e
      vs ← lower_expressions es
      pure (v ∷ᵛ vs)

  unfoldable pub expression_as_bit : At → Expr → Lower BitOperand
  expression_as_bit h e = as_bit h (lower_expression e)

  -- the root, with the storages on from the older ones and the temporaries on from NEXT
  unfoldable pub lowered : Outcome Value
  lowered = lower_expression (root T) nowhere (record { storage = length T.storages; temporary = T.next })
