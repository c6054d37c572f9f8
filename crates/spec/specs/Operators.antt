-- From hir.rs's operators to lir.rs's: `compare_op`, `integer_binary_bytes_op`, and the choices that `lower_integer_unary`,
-- `lower_integer_binary` and `lower_conversion` make by a `match`.
use Rattle.std.specs.Prelude.{Option, None, Some}
use Rattle.spec.specs.Hir as hir
use Rattle.spec.specs.Lir as lir

unfoldable pub compare_op : hir.CompareOp → Option lir.CompareOp
compare_op hir.equal = Some lir.equal
compare_op hir.not_equal = Some lir.not_equal
compare_op (hir.less_than hir.unsigned) = Some lir.less_than_unsigned
compare_op (hir.less_than hir.signed) = Some lir.less_than_signed
compare_op (hir.less_than_or_equal hir.unsigned) = Some lir.less_than_or_equal_unsigned
compare_op (hir.less_than_or_equal hir.signed) = Some lir.less_than_or_equal_signed
compare_op (hir.greater_than hir.unsigned) = Some lir.greater_than_unsigned
compare_op (hir.greater_than hir.signed) = Some lir.greater_than_signed
compare_op (hir.greater_than_or_equal hir.unsigned) = Some lir.greater_than_or_equal_unsigned
compare_op (hir.greater_than_or_equal hir.signed) = Some lir.greater_than_or_equal_signed
compare_op hir.float_equal = None
compare_op hir.float_not_equal = None
compare_op hir.float_less_than = None
compare_op hir.float_less_than_or_equal = None
compare_op hir.float_greater_than = None
compare_op hir.float_greater_than_or_equal = None

-- how an operator is lowered: byte by byte with a carry or without, or as one instruction
pub data UnaryForm : Type 0 where
  negating inverting : UnaryForm
  counting : lir.IntegerUnaryBytesOp → UnaryForm

unfoldable pub unary_form : hir.IntegerUnaryOp → UnaryForm
unary_form hir.negate = negating
unary_form hir.not = inverting
unary_form hir.count_leading_zeros = counting lir.count_leading_zeros
unary_form hir.count_trailing_zeros = counting lir.count_trailing_zeros
unary_form hir.population_count = counting lir.population_count

pub data BinaryForm : Type 0 where
  adding subtracting : BinaryForm
  bytewise : lir.ByteBinaryOp → BinaryForm
  shifting : lir.ShiftOp → BinaryForm
  whole : lir.IntegerBinaryBytesOp → BinaryForm

unfoldable pub binary_form : hir.IntegerBinaryOp → BinaryForm
binary_form hir.add = adding
binary_form hir.subtract = subtracting
binary_form hir.multiply = whole lir.multiply
binary_form (hir.divide hir.unsigned) = whole lir.divide_unsigned
binary_form (hir.divide hir.signed) = whole lir.divide_signed
binary_form (hir.remainder hir.unsigned) = whole lir.remainder_unsigned
binary_form (hir.remainder hir.signed) = whole lir.remainder_signed
binary_form hir.and = bytewise lir.and
binary_form hir.or = bytewise lir.or
binary_form hir.xor = bytewise lir.xor
binary_form hir.shift_left = shifting lir.shift_left
binary_form (hir.shift_right hir.unsigned) = shifting lir.shift_right_unsigned
binary_form (hir.shift_right hir.signed) = shifting lir.shift_right_signed
binary_form hir.rotate_left = shifting lir.rotate_left
binary_form hir.rotate_right = shifting lir.rotate_right
binary_form (hir.saturating_add hir.unsigned) = whole lir.saturating_add_unsigned
binary_form (hir.saturating_add hir.signed) = whole lir.saturating_add_signed
binary_form (hir.saturating_subtract hir.unsigned) = whole lir.saturating_subtract_unsigned
binary_form (hir.saturating_subtract hir.signed) = whole lir.saturating_subtract_signed

-- the rotates among the shifts, with their direction
unfoldable pub rotate_direction : lir.ShiftOp → Option lir.RotateDirection
rotate_direction lir.shift_left = None
rotate_direction lir.shift_right_unsigned = None
rotate_direction lir.shift_right_signed = None
rotate_direction lir.rotate_left = Some lir.left
rotate_direction lir.rotate_right = Some lir.right

abbrev pub opposite : lir.RotateDirection → lir.RotateDirection
opposite lir.left = lir.right
opposite lir.right = lir.left

pub data ConversionForm : Type 0 where
  resizing extending_sign reinterpreting from_boolean to_boolean of_float : ConversionForm

unfoldable pub conversion_form : hir.ConversionOp → ConversionForm
conversion_form hir.truncate = resizing
conversion_form hir.zero_extend = resizing
conversion_form hir.sign_extend = extending_sign
conversion_form (hir.integer_to_float s) = of_float
conversion_form (hir.float_to_integer s t) = of_float
conversion_form hir.promote_float = of_float
conversion_form hir.demote_float = of_float
conversion_form hir.reinterpret = reinterpreting
conversion_form hir.boolean_to_integer = from_boolean
conversion_form hir.integer_to_boolean = to_boolean
