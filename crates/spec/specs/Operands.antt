-- Values and operands: `value_bytes`, `value_bit`, `integer_bytes`, `immediate_bytes`, and lists of bytes.
use Rattle.std.specs.Prelude.{ℕ, zero, suc, ◌/◌, ◌%◌, Bool, true, false, List, [], ◌∷◌}
use Rattle.std.specs.Prelude.{Option, None, Some}
use Rattle.spec.specs.Lir.{ByteOperand, immediate, stored, BitOperand, Value, value, Repr, unit, bit_value, bytes_value, aggregate, Values, no_values, ◌∷ᵛ◌}
use Rattle.spec.specs.Monad.{Lower, or_refuse}

abbrev pub value_type : Value → ℕ
value_type (value ty r) = ty

abbrev pub value_repr : Value → Repr
value_repr (value ty r) = r

abbrev pub repr_bytes : Repr → Option (List ByteOperand)
repr_bytes unit = None
repr_bytes (bit_value b) = None
repr_bytes (bytes_value bs) = Some bs
repr_bytes (aggregate vs) = None

abbrev pub repr_bit : Repr → Option BitOperand
repr_bit unit = None
repr_bit (bit_value b) = Some b
repr_bit (bytes_value bs) = None
repr_bit (aggregate vs) = None

abbrev pub repr_parts : Repr → Option Values
repr_parts unit = None
repr_parts (bit_value b) = None
repr_parts (bytes_value bs) = None
repr_parts (aggregate vs) = Some vs

unfoldable pub value_bytes : Value → Lower (List ByteOperand)
value_bytes v = or_refuse 24 (repr_bytes (value_repr v))

unfoldable pub value_bit : Value → Lower BitOperand
value_bit v = or_refuse 24 (repr_bit (value_repr v))

-- the n lowest bytes of a constant
unfoldable pub integer_bytes : ℕ → ℕ → List ByteOperand
integer_bytes bits zero = []
integer_bytes bits (suc n) = immediate (bits % 256) ∷ integer_bytes (bits / 256) n

-- `immediate_bytes(..).is_some()`
unfoldable pub all_immediate : List ByteOperand → Bool
all_immediate [] = true
all_immediate (immediate b ∷ bs) = all_immediate bs
all_immediate (stored s ∷ bs) = false

-- the lowest byte of what `immediate_bytes` gives: 256 is a multiple of 8, so it alone decides a distance modulo 8
unfoldable pub lowest_byte : List ByteOperand → ℕ
lowest_byte [] = 0
lowest_byte (immediate b ∷ bs) = b
lowest_byte (stored s ∷ bs) = 0

-- `Vec::resize` to n bytes, by zeros or by leaving off
unfoldable pub resize : ℕ → List ByteOperand → List ByteOperand
resize zero bs = []
resize (suc n) [] = immediate 0 ∷ resize n []
resize (suc n) (b ∷ bs) = b ∷ resize n bs

-- ---------------------------------------------------------------- lists: `get`, and a vector's element replaced

unfoldable pub nth : {A : Type 0} → List A → ℕ → Option A
nth [] n = None
nth (x ∷ xs) zero = Some x
nth (x ∷ xs) (suc n) = nth xs n

unfoldable pub nth_value : Values → ℕ → Option Value
nth_value no_values n = None
nth_value (v ∷ᵛ vs) zero = Some v
nth_value (v ∷ᵛ vs) (suc n) = nth_value vs n

unfoldable pub set_value : Values → ℕ → Value → Option Values
set_value no_values n w = None
set_value (v ∷ᵛ vs) zero w = Some (w ∷ᵛ vs)
set_value (v ∷ᵛ vs) (suc n) w = elim (set_value vs n w) [ None ↦ None | Some us ↦ Some (v ∷ᵛ us) ]
