-- The numerics' results are numbers below 2 ^ w.
use Prim.Native.Nat.{ℕ, zero, suc, ◌+◌, ◌-◌, ◌*◌, ◌/◌, ◌%◌, ◌^◌, ◌≤◌, ◌<◌, zero-le}
use mathlib.Core.Bool.{Bool, true, false, not}
use Rattle.std.specs.Prelude.{Option, Some}
use mathlib.Core.Path.{◌≡◌}
use native.Mathlib.Omega.{arith}
use native.Mathlib.Nat.{mod-lt, div-le_self, mul-mod_left, mod-le}
use lib.Arith.{digits_lt}
use lib.Pow.{shl-shr, pow_pos, pow-add, pow_mono, mod-pow-add, shr_lt}
use lib.Bits.{and_lt, or_lt, xor_lt}
use lib.Dec.{leb, ltb, eqb}
use lib.IntN.{ℤ, pos, negsuc}
use lib.Signed.{lt_z, le_z, quot_z}
use Rattle.spec.specs.Lir.{ByteBinaryOp, ShiftOp, CompareOp, IntegerUnaryBytesOp, IntegerBinaryBytesOp}
use Rattle.spec.specs.Lir as lir
use Rattle.numerics.specs.Numerics.{truth, undefined_if, signed, unsigned, sat_u, sat_s, iadd, isub, imul, idiv_u, idiv_s, irem_u, irem_s, ineg, iadd_sat_u, iadd_sat_s, isub_sat_u, isub_sat_s, inot, shifted_left, shifted_right, rotated_left, rotated_right, top_bits, sign_bit, ishl, ishr_u, ishr_s, irotl, irotr, trailing, ones, iclz, ictz, ipopcnt, ieq, ine, ilt_u, ilt_s, igt_u, igt_s, ile_u, ile_s, ige_u, ige_s, extend_s, wrap}
use Rattle.spec.specs.Machine.{byte_op, shift_op, compare_op, unary_op, binary_op}

-- ---------------------------------------------------------------- shifts and rotates

left_lt : (w i k : ℕ) → shifted_left w i k < 2 ^ w
unfolding shifted_left
left_lt w i k = mod-lt (i * 2 ^ k) (pow_pos w)

right_lt : (w i k : ℕ) → i < 2 ^ w → shifted_right w i k < 2 ^ w
unfolding shifted_right
right_lt w i k h = omega (arith, div-le_self i (2 ^ k))

-- a number's two parts change places
swap_lt : (j k i : ℕ) → i < 2 ^ (j + k) → (i * 2 ^ k) % 2 ^ (j + k) + i / 2 ^ j < 2 ^ (j + k)
swap_lt j k i h =
    rw (mod-pow-add (i * 2 ^ k) j k, shl-shr i k, mul-mod_left i (2 ^ k), pow-add 2 j k)
    (let d = digits_lt {q = i % 2 ^ j} {m = 2 ^ j} {r = i / 2 ^ j} {c = 2 ^ k} (mod-lt i (pow_pos j))
    (shr_lt k j (rw (let e : k + j ≡ j + k = omega arith in e) h)) in omega arith)

rotl_lt : (w i k : ℕ) → i < 2 ^ w → k ≤ w → rotated_left w i k < 2 ^ w
unfolding rotated_left
rotl_lt w i k h l =
    let e : w ≡ (w - k) + k = omega arith in
    rw (← e) at (swap_lt (w - k) k i (rw (← e) h))

rotr_lt : (w i k : ℕ) → i < 2 ^ w → k ≤ w → rotated_right w i k < 2 ^ w
unfolding rotated_right
rotr_lt w i k h l =
    let e : w ≡ k + (w - k) = omega arith in
    let s : (i * 2 ^ (w - k)) % 2 ^ w + i / 2 ^ k < 2 ^ w = rw (← e) at (swap_lt k (w - k) i (rw (← e) h)) in
    omega arith

-- the sign's copies stand above what is left of the number
signed_right_lt : (w i k : ℕ) → i < 2 ^ w → k ≤ w → shifted_right w i k + sign_bit w i * top_bits w k < 2 ^ w
unfolding shifted_right sign_bit top_bits
signed_right_lt w i k h l = go (leb (2 ^ w) (i * 2))
  where
    small : i / 2 ^ k < 2 ^ (w - k)
    small = shr_lt (w - k) k (rw (let e : w - k + k ≡ w = omega arith in e) h)

    go : (t : Bool) → i / 2 ^ k + truth t * (2 ^ w - 2 ^ (w - k)) < 2 ^ w
    go true = omega (arith, small, pow_mono {i = w - k} {j = w} (omega arith))
    go false = omega (arith, small, pow_mono {i = w - k} {j = w} (omega arith))

pub shift_lt : (op : ShiftOp) (w i j : ℕ) → 0 < w → i < 2 ^ w → shift_op op w i j < 2 ^ w
unfolding shift_op ishl ishr_u ishr_s irotl irotr
shift_lt lir.shift_left w i j p h = left_lt w i (j % w)
shift_lt lir.shift_right_unsigned w i j p h = right_lt w i (j % w) h
shift_lt lir.shift_right_signed w i j p h = signed_right_lt w i (j % w) h (omega (arith, mod-lt j p))
shift_lt lir.rotate_left w i j p h = rotl_lt w i (j % w) h (omega (arith, mod-lt j p))
shift_lt lir.rotate_right w i j p h = rotr_lt w i (j % w) h (omega (arith, mod-lt j p))

-- ---------------------------------------------------------------- the other operations

pub unsigned_lt : (w : ℕ) (z : ℤ) → unsigned w z < 2 ^ w
unfolding unsigned
unsigned_lt w (pos n) = mod-lt n (pow_pos w)
unsigned_lt w (negsuc n) = omega (arith, pow_pos w)

sat_s_lt : (w : ℕ) (z : ℤ) → sat_s w z < 2 ^ w
unfolding sat_s
sat_s_lt w (pos n) = unsigned_lt w _
sat_s_lt w (negsuc n) = unsigned_lt w _

sat_u_lt : (w : ℕ) (z : ℤ) → sat_u w z < 2 ^ w
unfolding sat_u
sat_u_lt w (pos n) = omega (arith, pow_pos w)
sat_u_lt w (negsuc n) = pow_pos w

-- where a result is defined, it is what it says
defined_is : (t : Bool) (r : Option ℕ) {x : ℕ} → undefined_if t r ≡ Some x → r ≡ Some x
defined_is true r e = cc
defined_is false r e = e

some_lt : {y x m : ℕ} → y < m → Some y ≡ Some x → x < m
some_lt {y} {x} h e = let q : y ≡ x = cc in rw (← q) h

-- the numerics' own test of a quotient
abbrev is_number : ℤ → ℕ → Bool
is_number (pos n) m = eqb n m
is_number (negsuc n) m = false

pub whole_lt : (op : IntegerBinaryBytesOp) (w a b : ℕ) {x : ℕ} → a < 2 ^ w → binary_op op w a b ≡ Some x → x < 2 ^ w
unfolding binary_op imul idiv_s idiv_u irem_s irem_u iadd_sat_u iadd_sat_s isub_sat_u isub_sat_s
whole_lt lir.multiply w a b h e = some_lt (mod-lt (a * b) (pow_pos w)) e
whole_lt lir.divide_unsigned w a b h e = some_lt (omega (arith, div-le_self a b)) (defined_is (eqb b 0) _ e)
whole_lt lir.divide_signed w a b h e =
    some_lt (unsigned_lt w (quot_z (signed w a) (signed w b)))
    (defined_is (is_number (quot_z (signed w a) (signed w b)) (2 ^ (w - 1))) _ (defined_is (eqb b 0) _ e))
whole_lt lir.remainder_unsigned w a b h e = some_lt (omega (arith, mod-le a b)) (defined_is (eqb b 0) _ e)
whole_lt lir.remainder_signed w a b h e = some_lt (unsigned_lt w _) (defined_is (eqb b 0) _ e)
whole_lt lir.saturating_add_unsigned w a b h e = some_lt (sat_u_lt w _) e
whole_lt lir.saturating_add_signed w a b h e = some_lt (sat_s_lt w _) e
whole_lt lir.saturating_subtract_unsigned w a b h e = some_lt (sat_u_lt w _) e
whole_lt lir.saturating_subtract_signed w a b h e = some_lt (sat_s_lt w _) e

below_pow : (n : ℕ) → n < 2 ^ n
below_pow zero = omega arith
below_pow (suc n) = let h = below_pow n in omega arith

trailing_le : (w i : ℕ) → trailing w i ≤ w
unfolding trailing
trailing_le zero i = zero-le
trailing_le (suc w) i = go (eqb (i % 2) 0) (trailing_le w (i / 2))
  where
    go : (t : Bool) → trailing w (i / 2) ≤ w → elim t [ true ↦ suc (trailing w (i / 2)) | false ↦ 0 ] ≤ suc w
    go true h = omega arith
    go false h = zero-le

ones-le : (w i : ℕ) → ones w i ≤ w
unfolding ones
ones-le zero i = zero-le
ones-le (suc w) i = let h = ones-le w (i / 2) in omega arith

pub counts_lt : (op : IntegerUnaryBytesOp) (w a : ℕ) → unary_op op w a < 2 ^ w
unfolding unary_op iclz ictz ipopcnt
counts_lt lir.count_leading_zeros w a = omega (arith, below_pow w)
counts_lt lir.count_trailing_zeros w a = omega (arith, below_pow w, trailing_le w a)
counts_lt lir.population_count w a = omega (arith, below_pow w, ones-le w a)

pub add_lt : (w a b : ℕ) → iadd w a b < 2 ^ w
unfolding iadd
add_lt w a b = mod-lt _ (pow_pos w)

pub sub_lt : (w a b : ℕ) → isub w a b < 2 ^ w
unfolding isub
sub_lt w a b = mod-lt _ (pow_pos w)

pub neg_lt : (w a : ℕ) → ineg w a < 2 ^ w
unfolding ineg
neg_lt w a = mod-lt _ (pow_pos w)

pub not_lt : (w a : ℕ) → inot w a < 2 ^ w
unfolding inot
not_lt w a = omega (arith, pow_pos w)

pub bitwise_lt : (op : ByteBinaryOp) (w a b : ℕ) → a < 2 ^ w → b < 2 ^ w → byte_op op a b < 2 ^ w
bitwise_lt lir.and w a b ha hb = and_lt w a b ha hb
bitwise_lt lir.or w a b ha hb = or_lt w a b ha hb
bitwise_lt lir.xor w a b ha hb = xor_lt w a b ha hb

pub wrap_lt : (v w a : ℕ) → wrap v w a < 2 ^ w
unfolding wrap
wrap_lt v w a = mod-lt a (pow_pos w)

pub extend_lt : (v w a : ℕ) → extend_s v w a < 2 ^ w
unfolding extend_s
extend_lt v w a = unsigned_lt w _

-- a truth value is 0 or 1
pub truth_lt : (t : Bool) → truth t < 2
truth_lt true = omega arith
truth_lt false = omega arith

pub compare_lt : (op : CompareOp) (w a b : ℕ) → compare_op op w a b < 2
unfolding compare_op ieq ine ilt_u ilt_s igt_u igt_s ile_u ile_s ige_u ige_s
compare_lt lir.equal w a b = truth_lt (eqb a b)
compare_lt lir.not_equal w a b = truth_lt (not (eqb a b))
compare_lt lir.less_than_unsigned w a b = truth_lt (ltb a b)
compare_lt lir.less_than_signed w a b = truth_lt (lt_z (signed w a) (signed w b))
compare_lt lir.less_than_or_equal_unsigned w a b = truth_lt (leb a b)
compare_lt lir.less_than_or_equal_signed w a b = truth_lt (le_z (signed w a) (signed w b))
compare_lt lir.greater_than_unsigned w a b = truth_lt (ltb b a)
compare_lt lir.greater_than_signed w a b = truth_lt (lt_z (signed w b) (signed w a))
compare_lt lir.greater_than_or_equal_unsigned w a b = truth_lt (leb b a)
compare_lt lir.greater_than_or_equal_signed w a b = truth_lt (le_z (signed w b) (signed w a))
