-- The definitions' lists of instructions, as tables.
use Rattle.std.specs.Prelude.{◌≡◌, refl, Bool, true, false, ◌&&◌, List, ◌∷◌, [], ℕ, suc, ◌+◌, ◌-◌, ◌*◌, ◌%◌, ◌≤◌, ◌<◌, min, eqb, leb, length}
use Rattle.std.proofs.Common.{sym, ap, ◌∙◌, arith}
use Rattle.std.proofs.lemmas.Bool.{false≢true}
use Rattle.std.specs.Prelude.{Option, None, Some}
use borrow.Author.Tests.{le-ltb, eq-eqb, ne_eqb, le-leb, lt-leb, eqb-true, eqb-false, leb-true, leb-false}
use Rattle.spec.specs.Lir as lir
use Rattle.spec.specs.Allocation.{bytes_from}
use Rattle.spec.specs.Operands.{all_immediate, lowest_byte}
use Rattle.spec.specs.Operators.{rotate_direction, opposite}
use Rattle.spec.specs.Arithmetic.{zip2, zip3, carry_in, carry_out, negates, rotates, byte_rotates, first_storage, first_operand, byte_rotate, shifts}
use Rattle.spec.specs.Conversions.{bit_to_bytes}
use Rattle.spec.proofs.Lengths.{length_bytes_from, length_rotates}
use Rattle.lir.specs.Abstract.{tab, byte_at, bytes_of, destinations_of, byte_operand_of, bit_operand_of, byte_binary_op_of, rotate_direction_of}
use Rattle.lir.specs.declared.ByteOperand.{ByteOperand}
use Rattle.lir.specs.declared.BitOperand.{BitOperand}
use Rattle.lir.specs.declared.Bytes.{Bytes}
use Rattle.lir.specs.declared.Destinations.{Destinations}
use Rattle.lir.specs.declared.ByteBinaryOp.{ByteBinaryOp}
use Rattle.lir.specs.declared.RotateDirection.{RotateDirection}
use Rattle.lir.specs.Tab.{spot}
use Rattle.emission.specs.Tabs.{tab_same, zip2_tab, zip3_tab, bit_tab, rotates_tab}
use Rattle.emission.specs.Kinds.{carried_kind, binary_kind, each_kind, bit_kind, turn_kind, zero_bytes}

-- byte after byte of two values, with a carry from each to the next
abbrev pub carried : (lir.ByteStorage → lir.ByteOperand → lir.ByteOperand → Option ℕ → Option ℕ → lir.InstructionKind) → ℕ → List lir.ByteStorage → List lir.ByteOperand → List lir.ByteOperand → List lir.InstructionKind
carried f c ds ls rs = zip3 (λ i d l r. f d l r (carry_in c i) (carry_out c (length ds) i)) 0 ds ls rs

module _ (d : Destinations) (l r : Bytes) where
  pub carried_table : (f : lir.ByteStorage → lir.ByteOperand → lir.ByteOperand → Option ℕ → Option ℕ → lir.InstructionKind) (c : ℕ)
      → carried f c (destinations_of d) (bytes_of l) (bytes_of r) ≡ tab (carried_kind d l r f c) 0 (min d.count (min l.total r.total))
  unfolding bytes_of
  carried_table f c =
      zip3_tab (λ i x a b. f x a b (carry_in c i) (carry_out c (length (destinations_of d)) i)) (byte_at l) (byte_at r) d.storage.0 d.count l.total r.total
      ∙ tab_same _ _ 0 _ (λ i h. rw length_bytes_from)

  pub binary_table : (op : ByteBinaryOp)
      → zip3 (λ i x a b. lir.byte_binary (byte_binary_op_of op) x a b) 0 (destinations_of d) (bytes_of l) (bytes_of r)
      ≡ tab (binary_kind d l r op) 0 (min d.count (min l.total r.total))
  unfolding bytes_of
  binary_table op = zip3_tab (λ i x a b. lir.byte_binary (byte_binary_op_of op) x a b) (byte_at l) (byte_at r) d.storage.0 d.count l.total r.total

module _ (d : Destinations) (b : Bytes) where
  pub each_table : (f : lir.ByteStorage → lir.ByteOperand → lir.InstructionKind)
      → zip2 (λ i x a. f x a) 0 (destinations_of d) (bytes_of b) ≡ tab (each_kind d f b) 0 (min d.count b.total)
  unfolding bytes_of
  each_table f = zip2_tab (λ i x a. f x a) (byte_at b) d.storage.0 d.count b.total

  -- a difference from zeros
  pub negates_carried : (c : ℕ) → negates c (destinations_of d) (bytes_of b) ≡ carried lir.subtract c (destinations_of d) (bytes_of (zero_bytes b.total)) (bytes_of b)
  unfolding negates bytes_of
  negates_carried c =
      let e : min b.total b.total ≡ b.total = omega arith in
      zip2_tab (λ i x a. lir.subtract x (lir.immediate 0) a (carry_in c i) (carry_out c (length (destinations_of d)) i)) (byte_at b) d.storage.0 d.count b.total
      ∙ tab_same _ _ 0 _ (λ i h. rw (length_bytes_from, le-ltb i 0 (omega arith)))
      ∙ sym (carried_table d (zero_bytes b.total) b lir.subtract c ∙ ap (λ (n : ℕ). tab (carried_kind d (zero_bytes b.total) b lir.subtract c) 0 (min d.count n)) e)

pub bit_table : (d : Destinations) (b : BitOperand) → bit_to_bytes (destinations_of d) (bit_operand_of b) ≡ tab (bit_kind d b) 0 d.count
bit_table d b = bit_tab d.storage.0 d.count (bit_operand_of b)

pub turn_table : (d : Destinations) (dir : RotateDirection) (x : ByteOperand) (n : ℕ)
    → rotates (rotate_direction_of dir) (spot d.storage.0 0) (byte_operand_of x) n ≡ tab (turn_kind d dir x) 0 n
turn_table d dir x n = rotates_tab (rotate_direction_of dir) (spot d.storage.0 0) (byte_operand_of x) n

-- ---------------------------------------------------------------- turns by a constant, and shifts

module _ (dir : lir.RotateDirection) (d : lir.ByteStorage) (x : lir.ByteOperand) (n : ℕ) where
  pub turn_none : n ≡ 0 → byte_rotates dir d x n ≡ lir.copy_byte d x ∷ []
  unfolding byte_rotates
  turn_none e = rw (eq-eqb n 0 e)

  pub turn_few : (n ≡ 0 → ⊥) → n ≤ 4 → byte_rotates dir d x n ≡ rotates dir d x n
  unfolding byte_rotates
  turn_few h k = rw (ne_eqb n 0 h, le-leb n 4 k)

  pub turn_back : (n ≡ 0 → ⊥) → 4 < n → byte_rotates dir d x n ≡ rotates (opposite dir) d x (8 - n)
  unfolding byte_rotates
  turn_back h k = rw (ne_eqb n 0 h, lt-leb n 4 k)

pub first_from : (s n : ℕ) → 0 < n → first_storage (bytes_from s 0 n) ≡ spot s 0
unfolding first_storage bytes_from
first_from s (suc n) h = refl
first_from s Prim.Native.Nat.zero h = elim h [ ]

middle : (a b c d : Bool) → (a && b && c && d) ≡ true → (b ≡ true) × (c ≡ true)
middle true true true d h = (refl, refl)
middle true true false d h = absurd (false≢true h)
middle true false c d h = absurd (false≢true h)
middle false b c d h = absurd (false≢true h)

module _ (op : lir.ShiftOp) (w : ℕ) (ds : List lir.ByteStorage) (l r : List lir.ByteOperand) where
  pub shift_plain : rotate_direction op ≡ None → shifts op w ds l r ≡ lir.shift_bytes op w ds l r ∷ []
  unfolding shifts
  shift_plain e = rw e

  pub shift_whole : (dir : lir.RotateDirection) → rotate_direction op ≡ Some dir → byte_rotate w ds l r ≡ false → shifts op w ds l r ≡ lir.shift_bytes op w ds l r ∷ []
  unfolding shifts
  shift_whole dir e h = rw (e, h)

  pub shift_turned : (dir : lir.RotateDirection) → rotate_direction op ≡ Some dir → byte_rotate w ds l r ≡ true
      → shifts op w ds l r ≡ byte_rotates dir (first_storage ds) (first_operand l) (lowest_byte r % 8)
  unfolding shifts
  shift_turned dir e h = rw (e, h)

  -- one destination, and one byte to turn
  pub turned_one : byte_rotate w ds l r ≡ true → (length ds ≡ 1) × (length l ≡ 1)
  unfolding byte_rotate
  turned_one h =
      let e = middle (eqb w 8) (eqb (length ds) 1) (eqb (length l) 1) (all_immediate r) h in
      (eqb-true _ _ e.0, eqb-true _ _ e.1)

-- ---------------------------------------------------------------- how many

turned_few : (dir : lir.RotateDirection) (d : lir.ByteStorage) (x : lir.ByteOperand) (n : ℕ) → n < 8 → length (byte_rotates dir d x n) ≤ 4
turned_few dir d x n h = go (eqb n 0) refl (leb n 4) refl
  where
    go : (t : Bool) → eqb n 0 ≡ t → (u : Bool) → leb n 4 ≡ u → length (byte_rotates dir d x n) ≤ 4
    go true e u f = rw (turn_none dir d x n (eqb-true n 0 e)) (omega arith)
    go false e true f = rw (turn_few dir d x n (eqb-false n 0 e) (leb-true n 4 f), length_rotates) (leb-true n 4 f)
    go false e false f =
        let k = leb-false n 4 f in
        rw (turn_back dir d x n (eqb-false n 0 e) k, length_rotates) (omega arith)

-- at most four turns of one byte; else one instruction
pub shifts_few : (op : lir.ShiftOp) (w : ℕ) (d : Destinations) (l r : List lir.ByteOperand) → length (shifts op w (destinations_of d) l r) ≤ 2 * d.count + 2
shifts_few op w d l r = go (rotate_direction op) refl (byte_rotate w (destinations_of d) l r) refl
  where
    go : (o : Option lir.RotateDirection) → rotate_direction op ≡ o → (t : Bool) → byte_rotate w (destinations_of d) l r ≡ t
        → length (shifts op w (destinations_of d) l r) ≤ 2 * d.count + 2
    go None e t f = rw (shift_plain op w (destinations_of d) l r e) (omega arith)
    go (Some dir) e false f = rw (shift_whole op w (destinations_of d) l r dir e f) (omega arith)
    go (Some dir) e true f =
        let one = turned_one op w (destinations_of d) l r f in
        let count = length_bytes_from d.storage.0 0 d.count in
        let four = turned_few dir (first_storage (destinations_of d)) (first_operand l) (lowest_byte r % 8) (omega arith) in
        rw (shift_turned op w (destinations_of d) l r dir e f) (omega (arith, one.0))
