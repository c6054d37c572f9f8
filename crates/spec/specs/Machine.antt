-- Document 01, 'Meanings when run': memory, what one instruction does, a run.
use Rattle.std.specs.Prelude.{ℕ, zero, suc, ◌+◌, ◌-◌, ◌*◌, ◌/◌, ◌%◌, ◌^◌, ◌<◌, ◌≤◌, Bool, true, false, ◌&&◌, not, List, [], ◌∷◌, eqb, ltb, length}
use Rattle.std.specs.Prelude.{Option, None, Some}
use Rattle.std.specs.Int.Bits.{bit_and, bit_or, bit_xor}
use Rattle.numerics.specs.Numerics.{truth, imul, idiv_u, idiv_s, irem_u, irem_s, iadd_sat_u, iadd_sat_s, isub_sat_u, isub_sat_s, ishl, ishr_u, ishr_s, irotl, irotr, iclz, ictz, ipopcnt, ieq, ine, ilt_u, ilt_s, igt_u, igt_s, ile_u, ile_s, ige_u, ige_s, extend_s}
use Rattle.spec.specs.Lir.{ByteStorage, ByteOperand, immediate, stored, BitOperand, constant, stored_bit, ByteBinaryOp, RotateDirection, left, right, ShiftOp, CompareOp, IntegerUnaryBytesOp, IntegerBinaryBytesOp, InstructionKind, Instruction, copy_byte, not_byte, byte_binary, add, subtract, rotate, address_of, function_address, shift_bytes, compare_bytes, select_byte, select_bit, bit_to_byte, byte_to_bit, sign_extend, integer_unary_bytes, integer_binary_bytes}
use Rattle.spec.specs.Lir as lir

-- ---------------------------------------------------------------- bytes and numbers

-- the number whose bytes stand in a list, the lowest first: a missing byte is 0
unfoldable pub le : List ℕ → ℕ
le [] = 0
le (x ∷ xs) = x + 256 * le xs

-- the k lowest bytes of a number
unfoldable pub bytes_of : ℕ → ℕ → List ℕ
bytes_of zero n = []
bytes_of (suc k) n = n % 256 ∷ bytes_of k (n / 256)

-- ---------------------------------------------------------------- memory

-- the bytes of each storage, and its bit or carry
pub record Memory : Type 0 where
  pub byte : ℕ → ℕ → ℕ
  pub bit : ℕ → ℕ

-- bytes are below 256, bits 0 or 1
pub record Proper (M : Memory) : Type 0 where
  pub bytes : (s o : ℕ) → M.byte s o < 256
  pub bits : (s : ℕ) → M.bit s ≤ 1

-- where older storages lie, and the functions' numbers
pub record Given : Type 0 where
  pub base : ℕ → ℕ
  pub function : ℕ → ℕ

abbrev pub pick : {A : Type 0} → Bool → A → A → A
pick true a b = a
pick false a b = b

unfoldable pub set_byte : ByteStorage → ℕ → Memory → Memory
set_byte d v M = record { byte = λ s o. pick (eqb s d.storage && eqb o d.offset) v (M.byte s o); bit = M.bit }

unfoldable pub set_bit : ℕ → ℕ → Memory → Memory
set_bit d v M = record { byte = M.byte; bit = λ s. pick (eqb s d) v (M.bit s) }

unfoldable pub set_bytes : List ByteStorage → List ℕ → Memory → Memory
set_bytes [] vs M = M
set_bytes (d ∷ ds) [] M = M
set_bytes (d ∷ ds) (v ∷ vs) M = set_bytes ds vs (set_byte d v M)

unfoldable pub set_carry : Option ℕ → ℕ → Memory → Memory
set_carry None v M = M
set_carry (Some c) v M = set_bit c v M

abbrev pub operand : Memory → ByteOperand → ℕ
operand M (immediate n) = n
operand M (stored s) = M.byte s.storage s.offset

abbrev pub operands : Memory → List ByteOperand → List ℕ
operands M [] = []
operands M (b ∷ bs) = operand M b ∷ operands M bs

abbrev pub bit_of : Memory → BitOperand → ℕ
bit_of M (constant n) = n
bit_of M (stored_bit s) = M.bit s

abbrev pub carry_of : Memory → Option ℕ → ℕ
carry_of M None = 0
carry_of M (Some s) = M.bit s

-- an operand list as a number: bits from WIDTH up are not read
abbrev pub number : ℕ → Memory → List ByteOperand → ℕ
number w M bs = le (operands M bs) % 2 ^ w

-- a result's bytes in its destinations
abbrev pub spread : List ByteStorage → ℕ → Memory → Memory
spread ds n M = set_bytes ds (bytes_of (length ds) n) M

-- ---------------------------------------------------------------- operators

-- the number that a shift takes modulo WIDTH: the whole amount, all its bytes
unfoldable pub distance : List ℕ → ℕ
distance bs = le bs

abbrev pub byte_op : ByteBinaryOp → ℕ → ℕ → ℕ
byte_op lir.and x y = bit_and x y
byte_op lir.or x y = bit_or x y
byte_op lir.xor x y = bit_xor x y

-- by one place
abbrev pub rotated : RotateDirection → ℕ → ℕ
rotated left x = (x * 2) % 256 + x / 128
rotated right x = x / 2 + x % 2 * 128

unfoldable pub shift_op : ShiftOp → ℕ → ℕ → ℕ → ℕ
shift_op lir.shift_left = ishl
shift_op lir.shift_right_unsigned = ishr_u
shift_op lir.shift_right_signed = ishr_s
shift_op lir.rotate_left = irotl
shift_op lir.rotate_right = irotr

unfoldable pub compare_op : CompareOp → ℕ → ℕ → ℕ → ℕ
compare_op lir.equal = ieq
compare_op lir.not_equal = ine
compare_op lir.less_than_unsigned = ilt_u
compare_op lir.less_than_signed = ilt_s
compare_op lir.less_than_or_equal_unsigned = ile_u
compare_op lir.less_than_or_equal_signed = ile_s
compare_op lir.greater_than_unsigned = igt_u
compare_op lir.greater_than_signed = igt_s
compare_op lir.greater_than_or_equal_unsigned = ige_u
compare_op lir.greater_than_or_equal_signed = ige_s

unfoldable pub unary_op : IntegerUnaryBytesOp → ℕ → ℕ → ℕ
unary_op lir.count_leading_zeros = iclz
unary_op lir.count_trailing_zeros = ictz
unary_op lir.population_count = ipopcnt

unfoldable pub binary_op : IntegerBinaryBytesOp → ℕ → ℕ → ℕ → Option ℕ
binary_op lir.multiply N i j = Some (imul N i j)
binary_op lir.divide_unsigned N i j = idiv_u N i j
binary_op lir.divide_signed N i j = idiv_s N i j
binary_op lir.remainder_unsigned N i j = irem_u N i j
binary_op lir.remainder_signed N i j = irem_s N i j
binary_op lir.saturating_add_unsigned N i j = Some (iadd_sat_u N i j)
binary_op lir.saturating_add_signed N i j = Some (iadd_sat_s N i j)
binary_op lir.saturating_subtract_unsigned N i j = Some (isub_sat_u N i j)
binary_op lir.saturating_subtract_signed N i j = Some (isub_sat_s N i j)

abbrev pub or_zero : Option ℕ → ℕ
or_zero None = 0
or_zero (Some n) = n

abbrev pub is_some : {A : Type 0} → Option A → Bool
is_some None = false
is_some (Some a) = true

-- ---------------------------------------------------------------- one instruction

-- whether it has a meaning: division that Wasm leaves undefined has none
unfoldable pub defined : InstructionKind → Memory → Bool
defined (copy_byte d s) M = true
defined (not_byte d s) M = true
defined (byte_binary op d l r) M = true
defined (add d l r i o) M = true
defined (subtract d l r i o) M = true
defined (rotate dir d s) M = true
defined (address_of low high s o) M = true
defined (function_address low high f) M = true
defined (shift_bytes op w ds v a) M = true
defined (compare_bytes op w d l r) M = true
defined (select_byte d c t f) M = true
defined (select_bit d c t f) M = true
defined (bit_to_byte d s) M = true
defined (byte_to_bit d s) M = true
defined (sign_extend w ds s) M = true
defined (integer_unary_bytes op w ds s) M = true
defined (integer_binary_bytes op w ds l r) M = is_some (binary_op op w (number w M l) (number w M r))

module _ (G : Given) where
  -- what an instruction that has a meaning leaves: all is read before anything is written
  unfoldable pub effect : InstructionKind → Memory → Memory
  effect (copy_byte d s) M = set_byte d (operand M s) M
  effect (not_byte d s) M = set_byte d (255 - operand M s) M
  effect (byte_binary op d l r) M = set_byte d (byte_op op (operand M l) (operand M r)) M
  effect (add d l r i o) M =
      let n : ℕ = operand M l + operand M r + carry_of M i in
      set_carry o (n / 256) (set_byte d (n % 256) M)
  effect (subtract d l r i o) M =
      let n : ℕ = operand M r + carry_of M i in
      set_carry o (truth (ltb (operand M l) n)) (set_byte d ((operand M l + 256 - n) % 256) M)
  effect (rotate dir d s) M = set_byte d (rotated dir (operand M s)) M
  effect (address_of low high s o) M =
      let n : ℕ = G.base s + o in
      set_byte high (n / 256 % 256) (set_byte low (n % 256) M)
  effect (function_address low high f) M =
      let n : ℕ = G.function f in
      set_byte high (n / 256 % 256) (set_byte low (n % 256) M)
  effect (shift_bytes op w ds v a) M = spread ds (shift_op op w (number w M v) (distance (operands M a))) M
  effect (compare_bytes op w d l r) M = set_bit d (compare_op op w (number w M l) (number w M r)) M
  effect (select_byte d c t f) M = set_byte d (pick (eqb (bit_of M c) 0) (operand M f) (operand M t)) M
  effect (select_bit d c t f) M = set_bit d (pick (eqb (bit_of M c) 0) (bit_of M f) (bit_of M t)) M
  effect (bit_to_byte d s) M = set_byte d (bit_of M s) M
  effect (byte_to_bit d s) M = set_bit d (truth (not (eqb (operand M s) 0))) M
  effect (sign_extend w ds s) M = spread ds (extend_s w (8 * length ds) (number w M s)) M
  effect (integer_unary_bytes op w ds s) M = spread ds (unary_op op w (number w M s)) M
  effect (integer_binary_bytes op w ds l r) M = spread ds (or_zero (binary_op op w (number w M l) (number w M r))) M

  unfoldable pub step : Instruction → Memory → Option Memory
  step i M = elim (defined i.kind M) [ true ↦ Some (effect i.kind M) | false ↦ None ]

  -- from first to last, each once
  unfoldable pub run : List Instruction → Memory → Option Memory
  run [] M = Some M
  run (i ∷ is) M = elim (step i M) [ None ↦ None | Some M' ↦ run is M' ]
