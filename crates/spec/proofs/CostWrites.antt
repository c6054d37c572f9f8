-- Where single instructions, and the loops over destinations, write.
use Prim.Native.Nat.{ℕ, zero, suc, ◌+◌, ◌≤◌, ◌<◌, zero-le, min}
use mathlib.Core.Bool.{Bool, true, false, cond}
use mathlib.Core.List.{List, [], ◌∷◌}
use Rattle.std.specs.Prelude.{Option, None, Some}
use mathlib.Core.Path.{◌≡◌, refl}
use native.Mathlib.Omega.{arith}
use lib.Dec.{eqb}
use borrow.Author.Tests.{lt-ltb}
use lib.ListN.{length}
use Rattle.spec.specs.Lir.{Storage, StorageKind, ByteStorage, ByteOperand, InstructionKind}
use Rattle.spec.specs.Lir as lir
use Rattle.spec.specs.Allocation.{bytes_from}
use Rattle.spec.specs.Arithmetic.{carry_out, zip2, zip3, masks, rotates}
use Rattle.spec.specs.Demands.{kind_bytes, to_byte, to_bit, to_carry, to_bytes, write_inside, all_inside, writes}
use Rattle.spec.proofs.Bools.{and_true}
use Rattle.spec.proofs.CostLogic.{Each, none_left, ◌also◌, each_first, each_rest, Kind}
use Rattle.spec.proofs.CostSteps.{Inside}

-- a byte of L that an instruction may write
pub record Byte (L : List Storage) (d : ByteStorage) : Type 0 where
  pub write : write_inside L (to_byte d) ≡ true

-- ---------------------------------------------------------------- an instruction, by the list of its writes

module _ {L : List Storage} {k : InstructionKind} where
  pub writes_byte : {d : ByteStorage} → writes k ≡ to_byte d ∷ [] → Byte L d → Inside L k
  unfolding all_inside
  writes_byte e p = record { all = rw e (and_true p.write refl) }

  pub writes_two : {d f : ByteStorage} → writes k ≡ to_byte d ∷ to_byte f ∷ [] → Byte L d → Byte L f → Inside L k
  unfolding all_inside
  writes_two e p q = record { all = rw e (and_true p.write (and_true q.write refl)) }

  pub writes_bit : {s : ℕ} → writes k ≡ to_bit s ∷ [] → Kind L s lir.bit → Inside L k
  unfolding all_inside write_inside
  writes_bit e p = record { all = rw (e, p.found) }

  writes_sum : {d : ByteStorage} {s : ℕ} → writes k ≡ to_byte d ∷ to_carry s ∷ [] → Byte L d → Kind L s lir.carry → Inside L k
  unfolding all_inside write_inside
  writes_sum e p q = record { all = rw e (and_true p.write (rw q.found)) }

all_written : {L : List Storage} {ds : List ByteStorage} → Each (Byte L) ds → all_inside L (to_bytes ds) ≡ true
unfolding all_inside to_bytes
all_written none_left = refl
all_written (p also e) = and_true p.write (all_written e)

pub writes_bytes : {L : List Storage} {k : InstructionKind} {ds : List ByteStorage} → writes k ≡ to_bytes ds → Each (Byte L) ds → Inside L k
writes_bytes e p = record { all = rw e (all_written p) }

-- a sum's byte, and its carry out where there is one
pub carried : {L : List Storage} {d : ByteStorage} {c : ℕ} (k : Option ℕ → InstructionKind) (n i : ℕ)
    → writes (k None) ≡ to_byte d ∷ [] → writes (k (Some c)) ≡ to_byte d ∷ to_carry c ∷ []
    → Byte L d → Kind L c lir.carry → Inside L (k (carry_out c n i))
carried {L} {d} {c} k n i e f p q = by (eqb (suc i) n)
  where
    by : (b : Bool) → Inside L (k (cond b None (Some c)))
    by true = writes_byte e p
    by false = writes_sum f p q

-- ---------------------------------------------------------------- a storage's own bytes

byte_inside : {L : List Storage} (s o : ℕ) (k : StorageKind) → Kind L s k → o < kind_bytes k → Byte L (record { storage = s; offset = o })
unfolding write_inside
byte_inside s o k e h = record { write = rw e.found (lt-ltb o (kind_bytes k) h) }

pub bytes_inside : {L : List Storage} (s o n : ℕ) (k : StorageKind) → Kind L s k → o + n ≤ kind_bytes k → Each (Byte L) (bytes_from s o n)
unfolding bytes_from
bytes_inside s o zero k e h = none_left
bytes_inside s o (suc n) k e h = byte_inside s o k e (omega arith) also bytes_inside s (suc o) n k e (omega arith)

-- ---------------------------------------------------------------- loops

pub zip2_length : (f : ℕ → ByteStorage → ByteOperand → InstructionKind) (i : ℕ) (ds : List ByteStorage) (bs : List ByteOperand)
    → length (zip2 f i ds bs) ≤ length ds
unfolding zip2
zip2_length f i [] bs = zero-le
zip2_length f i (d ∷ ds) [] = zero-le
zip2_length f i (d ∷ ds) (b ∷ bs) = let h = zip2_length f (suc i) ds bs in omega arith

pub zip3_length : (f : ℕ → ByteStorage → ByteOperand → ByteOperand → InstructionKind) (i : ℕ) (ds : List ByteStorage) (ls rs : List ByteOperand)
    → length (zip3 f i ds ls rs) ≤ length ds
unfolding zip3
zip3_length f i [] ls rs = zero-le
zip3_length f i (d ∷ ds) [] rs = zero-le
zip3_length f i (d ∷ ds) (l ∷ ls) [] = zero-le
zip3_length f i (d ∷ ds) (l ∷ ls) (r ∷ rs) = let h = zip3_length f (suc i) ds ls rs in omega arith

module _ {D : ByteStorage → Type 0} {I : InstructionKind → Type 0} where
  pub zip2_each : (f : ℕ → ByteStorage → ByteOperand → InstructionKind) → ((i : ℕ) (d : ByteStorage) (b : ByteOperand) → D d → I (f i d b))
      → (i : ℕ) (ds : List ByteStorage) (bs : List ByteOperand) → Each D ds → Each I (zip2 f i ds bs)
  unfolding zip2
  zip2_each f g i [] bs e = none_left
  zip2_each f g i (d ∷ ds) [] e = none_left
  zip2_each f g i (d ∷ ds) (b ∷ bs) (p also e) = g i d b p also zip2_each f g (suc i) ds bs e

  pub zip3_each : (f : ℕ → ByteStorage → ByteOperand → ByteOperand → InstructionKind)
      → ((i : ℕ) (d : ByteStorage) (l r : ByteOperand) → D d → I (f i d l r))
      → (i : ℕ) (ds : List ByteStorage) (ls rs : List ByteOperand) → Each D ds → Each I (zip3 f i ds ls rs)
  unfolding zip3
  zip3_each f g i [] ls rs e = none_left
  zip3_each f g i (d ∷ ds) [] rs e = none_left
  zip3_each f g i (d ∷ ds) (l ∷ ls) [] e = none_left
  zip3_each f g i (d ∷ ds) (l ∷ ls) (r ∷ rs) (p also e) = g i d l r p also zip3_each f g (suc i) ds ls rs e

-- ---------------------------------------------------------------- the mask, and the rotates of a byte

-- none where no bit is odd, and never more than one
pub masks_length : (k : ℕ) (ds : List ByteStorage) → length (masks k ds) ≤ min 1 k
unfolding masks
masks_length zero ds = zero-le
masks_length (suc k) [] = zero-le
masks_length (suc k) (d ∷ []) = omega arith
masks_length (suc k) (d ∷ e ∷ ds) = masks_length (suc k) (e ∷ ds)

module _ {L : List Storage} where
  pub masks_each : (k : ℕ) (ds : List ByteStorage) → (1 ≤ k → Each (Byte L) ds) → Each (Inside L) (masks k ds)
  unfolding masks writes
  masks_each zero ds f = none_left
  masks_each (suc k) [] f = none_left
  masks_each (suc k) (d ∷ []) f = writes_byte refl (each_first (f (omega arith))) also none_left
  masks_each (suc k) (d ∷ e ∷ ds) f = masks_each (suc k) (e ∷ ds) (λ h. each_rest (f h))

  pub rotates_each : (dir : lir.RotateDirection) (d : ByteStorage) (x : ByteOperand) (n : ℕ) → Byte L d → Each (Inside L) (rotates dir d x n)
  unfolding rotates writes
  rotates_each dir d x zero p = none_left
  rotates_each dir d x (suc n) p = writes_byte refl p also rotates_each dir d (lir.stored d) n p
