-- Shifts and rotates: how many instructions, where they write, and what a width of 8 leaves over for them.
use Prim.Native.Nat.{ℕ, zero, suc, ◌+◌, ◌/◌, ◌%◌, ◌≤◌, ◌<◌, min}
use mathlib.Core.Bool.{Bool, true, false, ◌&&◌, cond}
use mathlib.Core.List.{List, [], ◌∷◌}
use Rattle.std.specs.Prelude.{Option, None, Some}
use mathlib.Core.Path.{◌≡◌, refl}
use native.Mathlib.Omega.{arith}
use lib.Dec.{eqb, leb, T, leb→le}
use borrow.Author.Tests.{eqb-true}
use lib.ListN.{length}
use Rattle.spec.specs.Ticket.{TypeWord, t_unit, t_bool, t_bits, t_float, t_pointer, t_array, t_struct, t_tuple, t_opaque, Tables, type_at, arg, type_size_by}
use Rattle.spec.specs.Readable.{TypesRight}
use Rattle.spec.specs.Lir.{Storage, ByteStorage, ByteOperand, InstructionKind, RotateDirection, ShiftOp, shift_bytes}
use Rattle.spec.specs.Lir as lir
use Rattle.spec.specs.Operands.{all_immediate, lowest_byte}
use Rattle.spec.specs.Allocation.{width_of, bits_of, odd_bits}
use Rattle.spec.specs.Operators.{rotate_direction}
use Rattle.spec.specs.Arithmetic.{rotates, byte_rotates, first_storage, first_operand, byte_rotate, shifts}
use Rattle.spec.specs.Demands.{writes}
use Rattle.spec.proofs.Bools.{and_left, and_right}
use Rattle.spec.proofs.Lengths.{length_rotates}
use Rattle.spec.proofs.CostLogic.{Each, none_left, ◌also◌}
use Rattle.spec.proofs.CostSteps.{Inside}
use Rattle.spec.proofs.CostWrites.{Byte, writes_byte, writes_bytes, rotates_each}
use Rattle.spec.proofs.CostReads.{size_of, bools, bools_of}

-- ---------------------------------------------------------------- what a width of 8 leaves over

-- two more instructions, where a byte may be turned
abbrev pub turning : Option ℕ → ℕ
turning None = 0
turning (Some w) = cond (eqb w 8) 2 0

-- a width of 8 has one byte and no odd bit, so that two instructions are left over
bits_spare : (b : Bool) (n : ℕ) → eqb n 8 ≡ b → cond b 2 0 + min 1 (n % 8) ≤ (n + 7) / 8 + 1
bits_spare true n e = omega (arith, eqb-true n 8 e)
bits_spare false n e = omega arith

word_spare : (f : ℕ → ℕ) (w : TypeWord) (xs : List ℕ)
    → turning (width_of w xs) + min 1 (bits_of w xs % 8) + bools w (type_size_by f w xs) ≤ type_size_by f w xs + 1
word_spare f t_unit xs = omega arith
word_spare f t_bool xs = omega arith
word_spare f t_bits xs = let h = bits_spare (eqb (arg xs 0) 8) (arg xs 0) refl in omega arith
word_spare f t_float xs = omega arith
word_spare f t_pointer xs = omega arith
word_spare f t_array xs = omega arith
word_spare f t_struct xs = omega arith
word_spare f t_tuple xs = omega arith
word_spare f t_opaque xs = omega arith

-- what may be turned, masked and read is no more than the bytes and one
pub spare : (T : Tables) (R : TypesRight T) (ty : ℕ)
    → turning (width_of (type_at T ty).word (type_at T ty).args) + min 1 (odd_bits T ty) + bools_of T ty ≤ size_of T ty + 1
unfolding odd_bits
spare T R ty = rw (R.sized ty) (word_spare (size_of T) (type_at T ty).word (type_at T ty).args)

-- ---------------------------------------------------------------- shifts and rotates

module _ {L : List Storage} where
  pub first_byte : (ds : List ByteStorage) → 1 ≤ length ds → Each (Byte L) ds → Byte L (first_storage ds)
  unfolding first_storage
  first_byte [] h e = absurd (omega arith)
  first_byte (d ∷ ds) h (p also e) = p

-- a byte turned by a constant: at most four instructions
record Turns (L : List Storage) (ks : List InstructionKind) : Type 0 where
  count : length ks ≤ 4
  each : Each (Inside L) ks

module _ {L : List Storage} {d : ByteStorage} (p : Byte L d) where
  few_turns : (dir : RotateDirection) (x : ByteOperand) (n : ℕ) → T (leb n 4) → Turns L (rotates dir d x n)
  few_turns dir x n h = record { count = omega (arith, length_rotates dir d x n, leb→le n 4 h); each = rotates_each dir d x n p }

  turns : (dir : RotateDirection) (x : ByteOperand) (n : ℕ) → n < 8 → Turns L (byte_rotates dir d x n)
  unfolding byte_rotates writes
  turns dir x zero h = record { count = omega arith; each = writes_byte refl p also none_left }
  turns dir x (suc zero) h = few_turns _ _ _ tt
  turns dir x (suc (suc zero)) h = few_turns _ _ _ tt
  turns dir x (suc (suc (suc zero))) h = few_turns _ _ _ tt
  turns dir x (suc (suc (suc (suc zero)))) h = few_turns _ _ _ tt
  turns dir x (suc (suc (suc (suc (suc zero))))) h = few_turns _ _ _ tt
  turns dir x (suc (suc (suc (suc (suc (suc zero)))))) h = few_turns _ _ _ tt
  turns dir x (suc (suc (suc (suc (suc (suc (suc zero))))))) h = few_turns _ _ _ tt
  turns dir x (suc (suc (suc (suc (suc (suc (suc (suc n)))))))) h = absurd (omega arith)

-- instructions for a shift of ds at width w
pub record Turned (L : List Storage) (ds : List ByteStorage) (w : ℕ) (ks : List InstructionKind) : Type 0 where
  pub count : length ks ≤ length ds + 1 + turning (Some w)
  pub each : Each (Inside L) ks

module _ {L : List Storage} (w : ℕ) (ds : List ByteStorage) (l r : List ByteOperand) (g : Each (Byte L) ds) where
  shift_one : (op : ShiftOp) → Turned L ds w (shift_bytes op w ds l r ∷ [])
  unfolding writes
  shift_one op = record { count = omega arith; each = writes_bytes refl g also none_left }

  one_byte : byte_rotate w ds l r ≡ true → (eqb w 8 ≡ true) × (length ds ≡ 1)
  unfolding byte_rotate
  one_byte e =
      let a = and_left (eqb w 8 && eqb (length ds) 1) (eqb (length l) 1) (and_left (eqb w 8 && eqb (length ds) 1 && eqb (length l) 1) (all_immediate r) e) in
      (and_left (eqb w 8) (eqb (length ds) 1) a, eqb-true (length ds) 1 (and_right (eqb w 8) (eqb (length ds) 1) a))

  turn_one : (dir : RotateDirection) → byte_rotate w ds l r ≡ true → Turned L ds w (byte_rotates dir (first_storage ds) (first_operand l) (lowest_byte r % 8))
  turn_one dir e =
      let one = one_byte e in
      let t = turns (first_byte ds (omega arith) g) dir (first_operand l) (lowest_byte r % 8) (omega arith) in
      record { count = rw one.0 (omega arith); each = t.each }

  pub turned : (b : Bool) → byte_rotate w ds l r ≡ b → (op : ShiftOp) → Turned L ds w (shifts op w ds l r)
  unfolding shifts rotate_direction
  turned b e lir.shift_left = shift_one lir.shift_left
  turned b e lir.shift_right_unsigned = shift_one lir.shift_right_unsigned
  turned b e lir.shift_right_signed = shift_one lir.shift_right_signed
  turned true e lir.rotate_left = rw e (turn_one lir.left e)
  turned false e lir.rotate_left = rw e (shift_one lir.rotate_left)
  turned true e lir.rotate_right = rw e (turn_one lir.right e)
  turned false e lir.rotate_right = rw e (shift_one lir.rotate_right)
