-- THE LOCAL LEMMA: what a node's own step appends, by the size of its TYPE.
use Prim.Native.Nat.{ℕ, zero, suc, ◌+◌, ◌≤◌}
use mathlib.Core.List.{List, [], ◌∷◌}
use Rattle.std.specs.Prelude.{Option, None, Some}
use Rattle.std.proofs.lemmas.Option.{none-some, same_Some}
use mathlib.Core.Path.{◌≡◌, refl, sym, ap}
use native.Mathlib.Omega.{arith}
use native.Mathlib.Nat.{le_refl, le_of_eq}
use Rattle.spec.specs.Hir.{At, IntegerUnaryOp, IntegerBinaryOp, CompareOp, ConversionOp, Place}
use Rattle.spec.specs.Ticket.{Tables}
use Rattle.spec.specs.Readable.{TypesRight}
use Rattle.spec.specs.Lir.{Storage, immediate, constant, Value, value, Repr, unit, bit_value, bytes_value, aggregate, Values, no_values, ◌∷ᵛ◌}
use Rattle.spec.specs.Monad.{Lower, ◌>>=◌, pure, refuse, own}
use Rattle.spec.specs.Operands.{repr_parts, nth_value, set_value}
use Rattle.spec.specs.Arithmetic.{lower_integer_unary, lower_integer_binary}
use Rattle.spec.specs.Conversions.{lower_compare, lower_conversion, value_as_bit}
use Rattle.spec.specs.Select.{lower_select, lower_address_of, lower_static_address, lower_function_address, lower_pointer_offset}
use Rattle.spec.specs.Lower.{lower_integer, lower_read, lower_extract, lower_insert}
use Rattle.spec.proofs.CostLogic.{free, Does, ◌then◌, ◌next◌, within, giving}
use Rattle.spec.proofs.CostSteps.{budget, answers, refuses, owned, known, required}
use Rattle.spec.proofs.CostReads.{size_of, weight_of, weight_least, bools_of_le, records, records_in, records_of, Small}
use Rattle.spec.proofs.CostArithmetic.{lower_integer_unary_does, lower_integer_binary_does}
use Rattle.spec.proofs.CostConversions.{lower_compare_does, lower_conversion_does, value_as_bit_does}
use Rattle.spec.proofs.CostPlaces.{lower_read_does}
use Rattle.spec.proofs.CostSelect.{lower_select_does, lower_address_of_does, lower_static_address_does, lower_function_address_does, lower_pointer_offset_does}

-- ---------------------------------------------------------------- parts of aggregates

-- a part has no more values than the whole; a part put in adds its own at most
parts_records : (r : Repr) (vs : Values) → repr_parts r ≡ Some vs → records_of vs ≤ records_in r
unfolding records
parts_records unit vs e = absurd (none-some vs e)
parts_records (bit_value b) vs e = absurd (none-some vs e)
parts_records (bytes_value bs) vs e = absurd (none-some vs e)
parts_records (aggregate us) vs e = le_of_eq (ap records_of (sym (same_Some us vs e)))

nth_records : (vs : Values) (i : ℕ) (v : Value) → nth_value vs i ≡ Some v → records v ≤ records_of vs
unfolding nth_value records
nth_records no_values i v e = absurd (none-some v e)
nth_records (u ∷ᵛ vs) zero v e = let h = ap records (same_Some u v e) in omega arith
nth_records (u ∷ᵛ vs) (suc i) v e = let h = nth_records vs i v e in omega arith

set_records : (vs : Values) (i : ℕ) (w : Value) (us : Values) → set_value vs i w ≡ Some us → records_of us ≤ records_of vs + records w
unfolding set_value records
set_records no_values i w us e = absurd (none-some us e)
set_records (v ∷ᵛ vs) zero w us e = let h = ap records_of (same_Some (w ∷ᵛ vs) us e) in omega arith
set_records (v ∷ᵛ vs) (suc i) w us e = behind (set_value vs i w) (set_records vs i w) e
  where
    behind : (x : Option Values) → ((ws : Values) → x ≡ Some ws → records_of ws ≤ records_of vs + records w)
        → elim x as (λ _. Option Values) [ None ↦ None | Some ws ↦ Some (v ∷ᵛ ws) ] ≡ Some us → records_of us ≤ records_of (v ∷ᵛ vs) + records w
    behind None f g = absurd (none-some us g)
    behind (Some ws) f g = let h = f ws refl in let k = ap records_of (same_Some (v ∷ᵛ ws) us g) in omega arith

module _ (T : Tables) {L : List Storage} {P : Type 0} where
  pub integer_does : (v ty : ℕ) → Does L P (lower_integer T v ty) free (Small 1)
  unfolding lower_integer records
  integer_does v ty = required _ _ next λ _. answers (λ p. le_refl 1)

  pub extract_does : (v : Value) (i : ℕ) → Does L P (lower_extract T v i) free (Small (records v))
  unfolding lower_extract records
  extract_does (value ty r) i =
      known _ _ then λ vs.
      giving {b = free} (known _ _) (λ p. omega arith)
      (λ v p q. let a = parts_records r vs p.1 in let b = nth_records vs i v q in omega arith)

  pub insert_does : (v : Value) (i : ℕ) (w : Value) (ty : ℕ) → Does L P (lower_insert T v i w ty) free (Small (records v + records w))
  unfolding lower_insert records
  insert_does (value t r) i w ty =
      known _ _ then λ vs.
      known _ _ then λ us.
      answers (λ p. let a = parts_records r vs p.0.1 in let b = set_records vs i w us p.1 in omega arith)

-- ---------------------------------------------------------------- the own step of a node

-- a node's own step, given the values of its operands: n values together
pub data Own (T : Tables) (h : At) : ℕ → Lower Value → Type 0 where
  boolean : (b : ℕ) → Own T h 0 (pure (value h.ty (bit_value (constant b))))
  integer : (v : ℕ) → Own T h 0 (own h (lower_integer T v h.ty))
  float : (n : ℕ) → Own T h 0 (own h (refuse n))
  null_pointer : Own T h 0 (pure (value h.ty (bytes_value (immediate 0 ∷ immediate 0 ∷ []))))
  static_address : (k o : ℕ) → Own T h 0 (own h (lower_static_address T k o))
  function_address : (f : ℕ) → Own T h 0 (own h (lower_function_address T f))
  read : (p : Place) → Own T h 0 (own h (lower_read T p h.ty))
  integer_unary : (op : IntegerUnaryOp) (v : Value) → Own T h (records v) (own h (lower_integer_unary T op v h.ty))
  integer_binary : (op : IntegerBinaryOp) (v w : Value) → Own T h (records v + records w) (own h (lower_integer_binary T op v w h.ty))
  compare : (op : CompareOp) (v w : Value) → Own T h (records v + records w) (own h (lower_compare T op v w))
  convert : (op : ConversionOp) (v : Value) → Own T h (records v) (own h (lower_conversion T op v h.ty))
  select : (v w c : Value) → Own T h (records v + records w + records c) (own h (value_as_bit T c >>= λ b. lower_select T b v w h.ty))
  address_of : (p : Place) → Own T h 0 (own h (lower_address_of T p))
  pointer_offset : (v w : Value) → Own T h (records v + records w) (own h (lower_pointer_offset T v w))
  aggregates : (vs : Values) → Own T h (records_of vs) (pure (value h.ty (aggregate vs)))
  extract_element : (v : Value) (i : ℕ) → Own T h (records v) (own h (lower_extract T v i))
  insert_element : (v : Value) (i : ℕ) (w : Value) → Own T h (records v + records w) (own h (lower_insert T v i w h.ty))

module _ (T : Tables) (R : TypesRight T) {L : List Storage} {P : Type 0} where
  -- at most 3 size + 2 instructions, 2 size + 2 storages and size + 2 bytes, every write in a new storage of the listing
  pub own_step : {h : At} {n : ℕ} {m : Lower Value} → Own T h n m → Does L P m (budget (size_of T h.ty)) (Small (n + weight_of T h.ty))
  unfolding records
  own_step {h} (boolean b) = within (answers (λ p. omega (arith, weight_least T R h.ty))) (λ p. omega arith)
  own_step {h} (integer v) = giving (owned h (integer_does T v h.ty)) (λ p. omega arith) (λ x p q. omega (arith, weight_least T R h.ty))
  own_step {h} (float n) = owned h refuses
  own_step {h} null_pointer = within (answers (λ p. omega (arith, weight_least T R h.ty))) (λ p. omega arith)
  own_step {h} (static_address k o) = giving (owned h (lower_static_address_does T R k o)) (λ p. omega arith) (λ x p q. omega (arith, weight_least T R h.ty))
  own_step {h} (function_address f) = giving (owned h (lower_function_address_does T R f)) (λ p. omega arith) (λ x p q. omega (arith, weight_least T R h.ty))
  own_step {h} (read p) = giving (owned h (lower_read_does T R p h.ty)) (λ g. omega (arith, bools_of_le T h.ty)) (λ x g q. omega arith)
  own_step {h} (integer_unary op v) = giving (owned h (lower_integer_unary_does T R op v h.ty)) (λ p. omega arith) (λ x p q. omega arith)
  own_step {h} (integer_binary op v w) = giving (owned h (lower_integer_binary_does T R op v w h.ty)) (λ p. omega arith) (λ x p q. omega arith)
  own_step {h} (compare op v w) = giving (owned h (lower_compare_does T op v w)) (λ p. omega arith) (λ x p q. omega (arith, weight_least T R h.ty))
  own_step {h} (convert op v) = within (owned h (lower_conversion_does T R op v h.ty)) (λ p. omega arith)
  own_step {h} (select v w c) =
      giving (owned h (value_as_bit_does T c then λ b. lower_select_does T R b v w h.ty)) (λ p. omega arith) (λ x p q. omega arith)
  own_step {h} (address_of p) = giving (owned h (lower_address_of_does T R p)) (λ g. omega arith) (λ x g q. omega (arith, weight_least T R h.ty))
  own_step {h} (pointer_offset v w) = giving (owned h (lower_pointer_offset_does T R v w)) (λ p. omega arith) (λ x p q. omega (arith, weight_least T R h.ty))
  own_step {h} (aggregates vs) = within (answers (λ p. omega (arith, weight_least T R h.ty))) (λ p. omega arith)
  own_step {h} (extract_element v i) = giving (owned h (extract_does T v i)) (λ p. omega arith) (λ x p q. omega arith)
  own_step {h} (insert_element v i w) = giving (owned h (insert_does T v i w h.ty)) (λ p. omega arith) (λ x p q. omega arith)
