-- The own steps of comparisons and conversions, and of a select's condition, each within its budget.
use Prim.Native.Nat.{ℕ, suc, ◌+◌, ◌≤◌}
use mathlib.Core.Bool.{Bool, true, false}
use mathlib.Core.List.{List, [], ◌∷◌, map}
use mathlib.Core.Path.{◌≡◌, refl}
use native.Mathlib.Omega.{arith}
use native.Mathlib.Nat.{le_refl, le_trans, le_of_eq}
use lib.Dec.{eqb}
use borrow.Author.Tests.{eqb-false}
use lib.ListN.{length, length-map}
use Rattle.spec.specs.Hir.{CompareOp, ConversionOp}
use Rattle.spec.specs.Ticket.{Tables}
use Rattle.spec.specs.Readable.{TypesRight}
use Rattle.spec.specs.Lir.{Storage, ByteStorage, ByteOperand, immediate, BitOperand, Purpose, Value, value, unit, bit_value, bytes_value, aggregate, copy_byte, condition, integer_to_boolean}
use Rattle.spec.specs.Operands.{value_bytes, value_bit, resize}
use Rattle.spec.specs.Allocation.{type_size, integer_width, odd_bits, allocate_bit_temporary, bytes_at}
use Rattle.spec.specs.Operators.{ConversionForm, resizing, extending_sign, reinterpreting, from_boolean, to_boolean, of_float, conversion_form}
use Rattle.spec.specs.Arithmetic.{zip2}
use Rattle.spec.specs.Conversions.{bit_to_bytes, lower_compare, not_zero, value_as_bit, normalized_bytes, resized, sign_extended, boolean_to_integer, integer_to_bool, reinterpreted, lower_conversion}
use Rattle.spec.specs.Demands.{kind_bytes, writes, chosen_by}
use Rattle.spec.proofs.CostLogic.{Does, Each, none_left, ◌also◌, Any, ◌then◌, ◌next◌, within, giving}
use Rattle.spec.proofs.CostSteps.{plain_budget, Inside, answers, refuses, known, required, emitting, emitting_one, allocating}
use Rattle.spec.proofs.CostWrites.{Byte, writes_byte, writes_bit, writes_bytes, zip2_length, zip2_each}
use Rattle.spec.proofs.CostReads.{size_of, weight_of, weight_least, bools_of_le, reading, records, records_in, Small}
use Rattle.spec.proofs.CostTemporary.{temporary_count, odd_bytes, temporary_does, destined, mask_does, read_temporary}
use Rattle.spec.proofs.CostShifts.{spare}

module _ (T : Tables) {L : List Storage} {P : Type 0} where
  -- one bit for the answer
  pub lower_compare_does : (op : CompareOp) (l r : Value) → Does L P (lower_compare T op l r) (reading 1) (Small 1)
  unfolding lower_compare integer_width value_bytes allocate_bit_temporary kind_bytes writes records
  lower_compare_does op l r =
      known _ _ then λ width.
      known _ _ then λ left.
      known _ _ then λ right.
      allocating _ _ _ refl then λ d.
      known _ _ then λ o.
      emitting_one _ (λ p. writes_bit refl p.0.1) next λ _.
      answers (λ p. le_refl 1)

  -- one bit for whether a number is not 0
  not_zero_does : (purpose : Purpose) (v : Value) → chosen_by purpose ≡ 0 → Does L P (not_zero T purpose v) (reading 1) Any
  unfolding not_zero integer_width value_bytes allocate_bit_temporary kind_bytes writes
  not_zero_does purpose v e =
      known _ _ then λ width.
      known _ _ then λ left.
      allocating _ _ _ e then λ d.
      emitting_one _ (λ p. writes_bit refl p.1) next λ _.
      answers (λ p. tt)

  pub value_as_bit_does : (v : Value) → Does L P (value_as_bit T v) (reading 1) Any
  unfolding value_as_bit
  value_as_bit_does (value ty unit) = not_zero_does condition (value ty unit) refl then λ d. answers (λ p. tt)
  value_as_bit_does (value ty (bit_value b)) = within (answers (λ p. tt)) (λ p. omega arith)
  value_as_bit_does (value ty (bytes_value bs)) = not_zero_does condition (value ty (bytes_value bs)) refl then λ d. answers (λ p. tt)
  value_as_bit_does (value ty (aggregate vs)) = not_zero_does condition (value ty (aggregate vs)) refl then λ d. answers (λ p. tt)

-- ---------------------------------------------------------------- conversions

module _ {L : List Storage} where
  -- the first destination gets the bit, the others 0
  copies_each : (ds : List ByteStorage) → Each (Byte L) ds → Each (Inside L) (map (λ e. copy_byte e (immediate 0)) ds)
  unfolding writes
  copies_each [] e = none_left
  copies_each (d ∷ ds) (p also e) = writes_byte refl p also copies_each ds e

  bit_to_bytes_each : (ds : List ByteStorage) (b : BitOperand) → Each (Byte L) ds → Each (Inside L) (bit_to_bytes ds b)
  unfolding bit_to_bytes writes
  bit_to_bytes_each [] b e = none_left
  bit_to_bytes_each (d ∷ ds) b (p also e) = writes_byte refl p also copies_each ds e

bit_to_bytes_length : (ds : List ByteStorage) (b : BitOperand) → length (bit_to_bytes ds b) ≤ length ds
unfolding bit_to_bytes
bit_to_bytes_length [] b = le_refl 0
bit_to_bytes_length (d ∷ ds) b = omega (arith, length-map ds (λ e. copy_byte e (immediate 0)))

module _ (T : Tables) (R : TypesRight T) {L : List Storage} where
  -- copies and a mask where the type has odd bits
  normalized_does : {P : Type 0} (b : Bool) (ty : ℕ) (bs : List ByteOperand) → eqb (odd_bits T ty) 0 ≡ b
      → Does L P (normalized_bytes T ty bs) (plain_budget (size_of T ty)) (Small (weight_of T ty))
  unfolding normalized_bytes records writes
  normalized_does true ty bs e = rw e (within (answers (λ p. weight_least T R ty)) (λ p. omega arith))
  normalized_does false ty bs e =
      rw e
      (within
      (temporary_does T ty then λ t.
      emitting (size_of T ty) (zip2 (λ i d b. copy_byte d b) 0 (bytes_at T t) bs)
      (λ p. le_trans (zip2_length _ 0 (bytes_at T t) bs) (le_of_eq (temporary_count T p.1)))
      (λ p. zip2_each _ (λ i d b q. writes_byte refl q) 0 (bytes_at T t) bs (odd_bytes T R p.1 odd)) next λ _.
      mask_does T ty t (λ p. p.0.1.of_type) (λ p h. odd_bytes T R p.0.1 h) next λ _.
      read_temporary T R ty t (λ p. p.0.0.1.of_type))
      (λ p. omega (arith, spare T R ty, bools_of_le T ty)))
    where
      odd : 1 ≤ odd_bits T ty
      odd = let h = eqb-false (odd_bits T ty) 0 e in omega arith

  sign_extended_does : {P : Type 0} (v : Value) (ty : ℕ) → Does L P (sign_extended T v ty) (plain_budget (size_of T ty)) (Small (weight_of T ty))
  unfolding sign_extended integer_width value_bytes writes
  sign_extended_does v ty =
      within
      (known _ _ then λ width.
      known _ _ then λ source.
      destined T ty λ t ds.
      emitting_one _ (λ p. writes_bytes refl p.1.each) next λ _.
      mask_does T ty t (λ p. p.0.1.of_type) (λ p h. p.0.1.own) next λ _.
      read_temporary T R ty t (λ p. p.0.0.1.of_type))
      (λ p. omega (arith, spare T R ty, bools_of_le T ty))

  boolean_to_integer_does : {P : Type 0} (v : Value) (ty : ℕ) → Does L P (boolean_to_integer T v ty) (plain_budget (size_of T ty)) (Small (weight_of T ty))
  unfolding boolean_to_integer value_bit
  boolean_to_integer_does v ty =
      within
      (known _ _ then λ source.
      destined T ty λ t ds.
      emitting (size_of T ty) (bit_to_bytes ds source) (λ p. le_trans (bit_to_bytes_length ds source) (le_of_eq p.1.count))
      (λ p. bit_to_bytes_each ds source p.1.each) next λ _.
      read_temporary T R ty t (λ p. p.0.1.of_type))
      (λ p. omega (arith, bools_of_le T ty))

  integer_to_bool_does : {P : Type 0} (v : Value) → Does L P (integer_to_bool T v) (reading 1) (Small 1)
  unfolding integer_to_bool records
  integer_to_bool_does v = not_zero_does T integer_to_boolean v refl then λ d. answers (λ p. le_refl 1)

  reinterpreted_does : {P : Type 0} (v : Value) (ty : ℕ) → Does L P (reinterpreted T v ty) (reading 0) (Small (records v))
  unfolding reinterpreted records
  reinterpreted_does (value t r) ty = required _ _ next λ _. answers (λ p. le_refl (suc (records_in r)))

  conversion_does : {P : Type 0} (form : ConversionForm) (op : ConversionOp) (v : Value) (ty : ℕ) → conversion_form op ≡ form
      → Does L P (lower_conversion T op v ty) (plain_budget (size_of T ty)) (Small (records v + weight_of T ty))
  unfolding lower_conversion resized value_bytes
  conversion_does resizing op v ty e =
      rw e
      (giving
      (known _ _ then λ bs. normalized_does (eqb (odd_bits T ty) 0) ty (resize (type_size T ty) bs) refl)
      (λ p. omega arith) (λ x p q. omega arith))
  conversion_does extending_sign op v ty e = rw e (giving (sign_extended_does v ty) (λ p. omega arith) (λ x p q. omega arith))
  conversion_does reinterpreting op v ty e = rw e (giving (reinterpreted_does v ty) (λ p. omega arith) (λ x p q. omega arith))
  conversion_does from_boolean op v ty e = rw e (giving (boolean_to_integer_does v ty) (λ p. omega arith) (λ x p q. omega arith))
  conversion_does to_boolean op v ty e = rw e (giving (integer_to_bool_does v) (λ p. omega arith) (λ x p q. omega (arith, weight_least T R ty)))
  conversion_does of_float op v ty e = rw e refuses

  pub lower_conversion_does : {P : Type 0} (op : ConversionOp) (v : Value) (ty : ℕ)
      → Does L P (lower_conversion T op v ty) (plain_budget (size_of T ty)) (Small (records v + weight_of T ty))
  lower_conversion_does op v ty = conversion_does (conversion_form op) op v ty refl
