-- `lower_compare`, `lower_conversion`, `normalized_bytes`, and what `expression_as_bit` does with a value.
use Rattle.std.specs.Prelude.{ℕ, Bool, true, false, List, [], ◌∷◌, map, eqb, length, replicate}
use Rattle.std.specs.Prelude.{Option, None, Some}
use Rattle.spec.specs.Hir.{CompareOp, ConversionOp}
use Rattle.spec.specs.Ticket.{Tables}
use Rattle.spec.specs.Lir.{ByteStorage, ByteOperand, immediate, BitOperand, stored_bit, InstructionKind, copy_byte, compare_bytes, bit_to_byte, sign_extend, Purpose, integer_to_boolean, condition, Value, value, bit_value, bytes_value}
use Rattle.spec.specs.Lir as lir
use Rattle.spec.specs.Monad.{Lower, ◌>>=◌, ◌>>◌, pure, refuse, emit, emits, or_refuse, require}
use Rattle.spec.specs.Operands.{value_type, value_repr, repr_bit, value_bytes, value_bit, resize}
use Rattle.spec.specs.Allocation.{bool_type, type_size, integer_width, odd_bits, allocate_bit_temporary, allocate_temporary, bytes_at, location_bytes}
use Rattle.spec.specs.ReadBytes.{read_location}
use Rattle.spec.specs.Operators.{compare_op, ConversionForm, resizing, extending_sign, reinterpreting, from_boolean, to_boolean, of_float, conversion_form}
use Rattle.spec.specs.Arithmetic.{zip2, mask_location}

-- the first destination gets the bit, the others 0
unfoldable pub bit_to_bytes : List ByteStorage → BitOperand → List InstructionKind
bit_to_bytes [] b = []
bit_to_bytes (d ∷ ds) b = bit_to_byte d b ∷ map (λ e. copy_byte e (immediate 0)) ds

module _ (T : Tables) where
  unfoldable pub lower_compare : CompareOp → Value → Value → Lower Value
  lower_compare op l r = do
    width ← integer_width T (value_type l)
    left ← value_bytes l
    right ← value_bytes r
    destination ← allocate_bit_temporary lir.compare
    op' ← or_refuse 24 (compare_op op)
    emit (compare_bytes op' width destination left right)
    pure (value bool_type (bit_value (stored_bit destination)))

  -- whether a number is not 0, as a new bit
  unfoldable pub not_zero : Purpose → Value → Lower ℕ
  not_zero purpose v = do
    width ← integer_width T (value_type v)
    left ← value_bytes v
    destination ← allocate_bit_temporary purpose
    emit (compare_bytes lir.not_equal width destination left (replicate (length left) (immediate 0)))
    pure destination

  abbrev value_as_bit_by : Value → Option BitOperand → Lower BitOperand
  value_as_bit_by v (Some b) = pure b
  value_as_bit_by v None = do
    d ← not_zero condition v
    pure (stored_bit d)

  unfoldable pub value_as_bit : Value → Lower BitOperand
  value_as_bit v = value_as_bit_by v (repr_bit (value_repr v))

  -- ------------------------------------------------------------ conversions

  abbrev normalized_by : Bool → ℕ → List ByteOperand → Lower Value
  normalized_by true ty bs = pure (value ty (bytes_value bs))
  normalized_by false ty bs = do
    temporary ← allocate_temporary T ty
    emits (zip2 (λ i d b. copy_byte d b) 0 (bytes_at T temporary) bs)
    mask_location T temporary
    read_location T temporary

  unfoldable pub normalized_bytes : ℕ → List ByteOperand → Lower Value
  normalized_bytes ty bs = normalized_by (eqb (odd_bits T ty) 0) ty bs

  unfoldable pub resized : Value → ℕ → Lower Value
  resized operand ty = do
    bs ← value_bytes operand
    normalized_bytes ty (resize (type_size T ty) bs)

  unfoldable pub sign_extended : Value → ℕ → Lower Value
  sign_extended operand ty = do
    source-width ← integer_width T (value_type operand)
    source ← value_bytes operand
    temporary ← allocate_temporary T ty
    destinations ← location_bytes T temporary
    emit (sign_extend source-width destinations source)
    mask_location T temporary
    read_location T temporary

  unfoldable pub boolean_to_integer : Value → ℕ → Lower Value
  boolean_to_integer operand ty = do
    source ← value_bit operand
    temporary ← allocate_temporary T ty
    destinations ← location_bytes T temporary
    emits (bit_to_bytes destinations source)
    read_location T temporary

  unfoldable pub integer_to_bool : Value → Lower Value
  integer_to_bool operand = do
    destination ← not_zero integer_to_boolean operand
    pure (value bool_type (bit_value (stored_bit destination)))

  unfoldable pub reinterpreted : Value → ℕ → Lower Value
  reinterpreted operand ty = do
    require 22 (eqb (type_size T (value_type operand)) (type_size T ty))
    pure (value ty (value_repr operand))

  abbrev conversion_by : ConversionForm → Value → ℕ → Lower Value
  conversion_by resizing v ty = resized v ty
  conversion_by extending_sign v ty = sign_extended v ty
  conversion_by reinterpreting v ty = reinterpreted v ty
  conversion_by from_boolean v ty = boolean_to_integer v ty
  conversion_by to_boolean v ty = integer_to_bool v
  conversion_by of_float v ty = refuse 24

  unfoldable pub lower_conversion : ConversionOp → Value → ℕ → Lower Value
  lower_conversion op v ty = conversion_by (conversion_form op) v ty
