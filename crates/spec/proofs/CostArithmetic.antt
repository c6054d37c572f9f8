-- The own steps of the unary and binary operators, each within its budget.
use Prim.Native.Nat.{ℕ, ◌+◌}
use mathlib.Core.List.{List}
use mathlib.Core.Path.{refl}
use native.Mathlib.Omega.{arith}
use native.Mathlib.Nat.{le_trans, le_of_eq}
use lib.ListN.{length}
use Rattle.spec.specs.Hir.{IntegerUnaryOp, IntegerBinaryOp}
use Rattle.spec.specs.Ticket.{Tables, type_at}
use Rattle.spec.specs.Readable.{TypesRight}
use Rattle.spec.specs.Lir.{Storage, ByteStorage, ByteOperand, immediate, Value, add, subtract, not_byte, byte_binary}
use Rattle.spec.specs.Operands.{value_bytes}
use Rattle.spec.specs.Allocation.{width_of, Location, integer_width, allocate_carry}
use Rattle.spec.specs.Operators.{UnaryForm, negating, inverting, counting, unary_form, BinaryForm, adding, subtracting, bytewise, shifting, whole, binary_form}
use Rattle.spec.specs.Arithmetic.{zip2, zip3, carry_in, adds, subtracts, negates, byte_rotate, shifts, unary_instructions, lower_integer_unary, binary_instructions, lower_integer_binary}
use Rattle.spec.specs.Demands.{kind_bytes, writes}
use Rattle.spec.proofs.CostLogic.{Cost, ◌⊞◌, Does, Any, ◌then◌, ◌next◌, within}
use Rattle.spec.proofs.CostSteps.{emitted, allocated, plain_budget, known, emitting, emitting_one, allocating}
use Rattle.spec.proofs.CostWrites.{writes_byte, writes_bytes, carried, zip2_length, zip2_each, zip3_length, zip3_each}
use Rattle.spec.proofs.CostReads.{size_of, weight_of, bools_of_le, Small}
use Rattle.spec.proofs.CostTemporary.{Destined, destined, mask_does, read_temporary}
use Rattle.spec.proofs.CostShifts.{turning, spare, turned}

-- an instruction for each of n destinations, one and some more, and a carry
abbrev operating : ℕ → ℕ → Cost
operating n more = emitted (n + 1 + more) ⊞ allocated 1 0

module _ (T : Tables) {L : List Storage} {P : Type 0} where
  unary_does : (form : UnaryForm) (ty : ℕ) (t : Location) (ds : List ByteStorage) (input : List ByteOperand) → (P → Destined T L ty t ds)
      → Does L P (unary_instructions T form ty ds input) (operating (size_of T ty) 0) Any
  unfolding unary_instructions integer_width allocate_carry negates kind_bytes writes
  unary_does negating ty t ds input g =
      within
      (allocating _ _ _ refl then λ c.
      emitting (size_of T ty) (negates c ds input) (λ p. le_trans (zip2_length _ 0 ds input) (le_of_eq (g p.0).count))
      (λ p. zip2_each _ (λ i d b q. carried (subtract d (immediate 0) b (carry_in c i)) (length ds) i refl refl q p.1) 0 ds input (g p.0).each))
      (λ p. omega arith)
  unary_does inverting ty t ds input g =
      within
      (emitting (size_of T ty) (zip2 (λ i d b. not_byte d b) 0 ds input) (λ p. le_trans (zip2_length _ 0 ds input) (le_of_eq (g p).count))
      (λ p. zip2_each _ (λ i d b q. writes_byte refl q) 0 ds input (g p).each))
      (λ p. omega arith)
  unary_does (counting op) ty t ds input g =
      within
      (known _ _ then λ w.
      emitting_one _ (λ p. writes_bytes refl (g p.0).each))
      (λ p. omega arith)

  binary_does : (form : BinaryForm) (ty : ℕ) (t : Location) (ds : List ByteStorage) (l r : List ByteOperand) → (P → Destined T L ty t ds)
      → Does L P (binary_instructions T form ty ds l r) (operating (size_of T ty) (turning (width_of (type_at T ty).word (type_at T ty).args))) Any
  unfolding binary_instructions integer_width allocate_carry adds subtracts kind_bytes writes
  binary_does adding ty t ds l r g =
      within
      (allocating _ _ _ refl then λ c.
      emitting (size_of T ty) (adds c ds l r) (λ p. le_trans (zip3_length _ 0 ds l r) (le_of_eq (g p.0).count))
      (λ p. zip3_each _ (λ i d x y q. carried (add d x y (carry_in c i)) (length ds) i refl refl q p.1) 0 ds l r (g p.0).each))
      (λ p. omega arith)
  binary_does subtracting ty t ds l r g =
      within
      (allocating _ _ _ refl then λ c.
      emitting (size_of T ty) (subtracts c ds l r) (λ p. le_trans (zip3_length _ 0 ds l r) (le_of_eq (g p.0).count))
      (λ p. zip3_each _ (λ i d x y q. carried (subtract d x y (carry_in c i)) (length ds) i refl refl q p.1) 0 ds l r (g p.0).each))
      (λ p. omega arith)
  binary_does (bytewise op) ty t ds l r g =
      within
      (emitting (size_of T ty) (zip3 (λ i d x y. byte_binary op d x y) 0 ds l r) (λ p. le_trans (zip3_length _ 0 ds l r) (le_of_eq (g p).count))
      (λ p. zip3_each _ (λ i d x y q. writes_byte refl q) 0 ds l r (g p).each))
      (λ p. omega arith)
  binary_does (shifting op) ty t ds l r g =
      within
      (known _ _ then λ w.
      emitting (size_of T ty + 1 + turning (width_of (type_at T ty).word (type_at T ty).args)) (shifts op w ds l r)
      (λ p. let c = (turned w ds l r (g p.0).each (byte_rotate w ds l r) refl op).count in rw p.1 (omega (arith, (g p.0).count)))
      (λ p. (turned w ds l r (g p.0).each (byte_rotate w ds l r) refl op).each))
      (λ p. omega arith)
  binary_does (whole op) ty t ds l r g =
      within
      (known _ _ then λ w.
      emitting_one _ (λ p. writes_bytes refl (g p.0).each))
      (λ p. omega arith)

module _ (T : Tables) (R : TypesRight T) {L : List Storage} {P : Type 0} where
  pub lower_integer_unary_does : (op : IntegerUnaryOp) (v : Value) (ty : ℕ)
      → Does L P (lower_integer_unary T op v ty) (plain_budget (size_of T ty)) (Small (weight_of T ty))
  unfolding lower_integer_unary value_bytes
  lower_integer_unary_does op v ty =
      within
      (known _ _ then λ input.
      destined T ty λ t ds.
      unary_does T (unary_form op) ty t ds input (λ p. p.1) next λ _.
      mask_does T ty t (λ p. p.0.1.of_type) (λ p h. p.0.1.own) next λ _.
      read_temporary T R ty t (λ p. p.0.0.1.of_type))
      (λ p. omega (arith, spare T R ty, bools_of_le T ty))

  pub lower_integer_binary_does : (op : IntegerBinaryOp) (l r : Value) (ty : ℕ)
      → Does L P (lower_integer_binary T op l r ty) (plain_budget (size_of T ty)) (Small (weight_of T ty))
  unfolding lower_integer_binary value_bytes
  lower_integer_binary_does op l r ty =
      within
      (known _ _ then λ left.
      known _ _ then λ right.
      destined T ty λ t ds.
      binary_does T (binary_form op) ty t ds left right (λ p. p.1) next λ _.
      mask_does T ty t (λ p. p.0.1.of_type) (λ p h. p.0.1.own) next λ _.
      read_temporary T R ty t (λ p. p.0.0.1.of_type))
      (λ p. omega (arith, spare T R ty, bools_of_le T ty))
