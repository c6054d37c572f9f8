-- What reading a type appends, and how many values its value is made of.
use Prim.Native.Nat.{ℕ, zero, suc, ◌+◌, ◌*◌, ◌≤◌, zero-le}
use mathlib.Core.Bool.{Bool, true, false}
use mathlib.Core.List.{List, [], ◌∷◌}
use mathlib.Core.Path.{refl}
use native.Mathlib.Omega.{arith}
use native.Mathlib.Nat.{le_refl}
use Rattle.spec.specs.Limits.{type_depth_limit}
use Rattle.spec.specs.Ticket.{TypeWord, t_unit, t_bool, t_bits, t_float, t_pointer, t_array, t_struct, t_tuple, t_opaque, Tables, type_at, arg, sum, type_size_by, weight_by}
use Rattle.spec.specs.Readable.{TypesRight}
use Rattle.spec.specs.Lir.{Storage, Value, value, Repr, unit, bit_value, bytes_value, aggregate, Values, no_values, ◌∷ᵛ◌}
use Rattle.spec.specs.Monad.{Lower}
use Rattle.spec.specs.Allocation.{type_size, allocate_bit_temporary, Location}
use Rattle.spec.specs.ReadBytes.{read_elements, read_fields, read_plain, read_bool_byte, read_word, read_bytes_as_type, read_location}
use Rattle.spec.specs.Demands.{kind_bytes, writes}
use Rattle.spec.proofs.CostLogic.{Cost, Does, ◌then◌, ◌next◌, within, giving}
use Rattle.spec.proofs.CostSteps.{answers, refuses, emitting_one, allocating}
use Rattle.spec.proofs.CostWrites.{writes_bit}

-- ---------------------------------------------------------------- the values that a value is made of, itself among them

unfoldable mutual
  pub records : Value → ℕ
  records (value ty r) = suc (records_in r)

  pub records_in : Repr → ℕ
  records_in unit = 0
  records_in (bit_value b) = 0
  records_in (bytes_value bs) = 0
  records_in (aggregate vs) = records_of vs

  pub records_of : Values → ℕ
  records_of no_values = 0
  records_of (v ∷ᵛ vs) = records v + records_of vs

abbrev pub Small : ℕ → Value → Type 0
Small n v = records v ≤ n

-- ---------------------------------------------------------------- reading

-- each of n bits is a storage and an instruction
abbrev pub reading : ℕ → Cost
reading n = record { instructions = n; storages = n; bytes = 0; other_instructions = n; other_storages = n; chosen = 0 }

-- how many Bools a type of n bytes may have
abbrev pub bools : TypeWord → ℕ → ℕ
bools t_unit n = 0
bools t_bool n = n
bools t_bits n = 0
bools t_float n = 0
bools t_pointer n = 0
bools t_array n = n
bools t_struct n = n
bools t_tuple n = n
bools t_opaque n = 0

bools_le : (w : TypeWord) (n : ℕ) → bools w n ≤ n
bools_le t_unit n = zero-le
bools_le t_bool n = le_refl n
bools_le t_bits n = zero-le
bools_le t_float n = zero-le
bools_le t_pointer n = zero-le
bools_le t_array n = le_refl n
bools_le t_struct n = le_refl n
bools_le t_tuple n = le_refl n
bools_le t_opaque n = zero-le

module _ (T : Tables) where
  abbrev pub size_of : ℕ → ℕ
  size_of t = (type_at T t).size

  abbrev pub weight_of : ℕ → ℕ
  weight_of t = (type_at T t).weight

  -- the Bools of type ty
  abbrev pub bools_of : ℕ → ℕ
  bools_of ty = bools (type_at T ty).word (size_of ty)

pub bools_of_le : (T : Tables) (ty : ℕ) → bools_of T ty ≤ size_of T ty
bools_of_le T ty = bools_le (type_at T ty).word (size_of T ty)

weight_by_least : (f : ℕ → ℕ) (w : TypeWord) (xs : List ℕ) → 1 ≤ weight_by f w xs
weight_by_least f t_unit xs = le_refl 1
weight_by_least f t_bool xs = le_refl 1
weight_by_least f t_bits xs = le_refl 1
weight_by_least f t_float xs = le_refl 1
weight_by_least f t_pointer xs = le_refl 1
weight_by_least f t_array xs = omega arith
weight_by_least f t_struct xs = omega arith
weight_by_least f t_tuple xs = omega arith
weight_by_least f t_opaque xs = le_refl 1

-- every type weighs something
pub weight_least : (T : Tables) → TypesRight T → (ty : ℕ) → 1 ≤ weight_of T ty
weight_least T R ty = rw (R.weighed ty) (weight_by_least (weight_of T) (type_at T ty).word (type_at T ty).args)

-- n elements of k bits and w values each
elements_do : (L : List Storage) (rd : ℕ → Lower Value) (k w size : ℕ) → ((P : Type 0) (o : ℕ) → Does L P (rd o) (reading k) (Small w))
    → (P : Type 0) (n o : ℕ) → Does L P (read_elements rd size o n) (reading (k * n)) (λ vs. records_of vs ≤ n * w)
unfolding read_elements records
elements_do L rd k w size d P zero o = within (answers (λ p. zero-le)) (λ p. omega arith)
elements_do L rd k w size d P (suc n) o =
    within (d P o then λ v. elements_do L rd k w size d (P × Small w v) n (o + size) then λ vs. answers (λ p. omega arith)) (λ p. omega arith)

module _ (T : Tables) (R : TypesRight T) (L : List Storage) where
  -- fields, each no more than its own type
  fields_do : (rd : ℕ → ℕ → Lower Value) → ((P : Type 0) (t o : ℕ) → Does L P (rd t o) (reading (size_of T t)) (Small (weight_of T t)))
      → (P : Type 0) (ts : List ℕ) (o : ℕ) → Does L P (read_fields T rd o ts) (reading (sum (size_of T) ts)) (λ vs. records_of vs ≤ sum (weight_of T) ts)
  unfolding read_fields records
  fields_do rd d P [] o = answers (λ p. zero-le)
  fields_do rd d P (t ∷ ts) o =
      within (d P t o then λ v. fields_do rd d (P × Small (weight_of T t) v) ts (o + type_size T t) then λ vs. answers (λ p. omega arith)) (λ p. omega arith)

  bool_byte_do : (P : Type 0) (s ty o : ℕ) → Does L P (read_bool_byte T s ty o) (reading 1) (Small 1)
  unfolding read_bool_byte allocate_bit_temporary records kind_bytes writes
  bool_byte_do P s ty o =
      allocating _ _ _ refl then λ d.
      emitting_one _ (λ p. writes_bit refl p.1) next λ _.
      answers (λ p. le_refl 1)

  -- a type, given the same for the types that it is made of
  word_do : (rd : ℕ → ℕ → Lower Value) → ((P : Type 0) (t o : ℕ) → Does L P (rd t o) (reading (size_of T t)) (Small (weight_of T t)))
      → (P : Type 0) (s ty o : ℕ) (w : TypeWord) (xs : List ℕ)
      → Does L P (read_word T rd s ty o w xs) (reading (bools w (type_size_by (size_of T) w xs))) (Small (weight_by (weight_of T) w xs))
  unfolding read_word read_plain records
  word_do rd d P s ty o t_unit xs = answers (λ p. le_refl 1)
  word_do rd d P s ty o t_bool xs = bool_byte_do P s ty o
  word_do rd d P s ty o t_bits xs = answers (λ p. le_refl 1)
  word_do rd d P s ty o t_float xs = refuses
  word_do rd d P s ty o t_pointer xs = answers (λ p. le_refl 1)
  word_do rd d P s ty o t_array xs =
      within
      (elements_do L (rd (arg xs 0)) (size_of T (arg xs 0)) (weight_of T (arg xs 0)) (type_size T (arg xs 0)) (λ P o. d P (arg xs 0) o) P _ o
      then λ vs. answers (λ p. omega arith))
      (λ p. omega arith)
  word_do rd d P s ty o t_struct xs = within (fields_do rd d P xs o then λ vs. answers (λ p. omega arith)) (λ p. omega arith)
  word_do rd d P s ty o t_tuple xs = within (fields_do rd d P xs o then λ vs. answers (λ p. omega arith)) (λ p. omega arith)
  word_do rd d P s ty o t_opaque xs = answers (λ p. le_refl 1)

  -- reading a type appends no more than a bit for each of its bytes, and gives no more values than its weight
  bytes_do : (P : Type 0) (d s ty o : ℕ) → Does L P (read_bytes_as_type T d s ty o) (reading (bools_of T ty)) (Small (weight_of T ty))
  unfolding read_bytes_as_type
  bytes_do P zero s ty o = refuses
  bytes_do P (suc d) s ty o =
      giving
      (word_do (λ t p. read_bytes_as_type T d s t p) (λ P t p. within (bytes_do P d s t p) (λ g. omega (arith, bools_of_le T t)))
      P s ty o (type_at T ty).word (type_at T ty).args)
      (λ g. rw (R.sized ty) (omega arith)) (λ v g q. rw (R.weighed ty) q)

  location_do : (P : Type 0) (b : Bool) (s ty o : ℕ)
      → Does L P (read_location T (record { storage = s; offset = o; ty = ty; is_bit = b })) (reading (bools_of T ty)) (Small (weight_of T ty))
  unfolding read_location records
  location_do P true s ty o = within (answers (λ g. weight_least T R ty)) (λ g. omega arith)
  location_do P false s ty o = bytes_do P type_depth_limit s ty o

  -- so that a plain type is read without an instruction
  pub read_location_does : {P : Type 0} (l : Location) → Does L P (read_location T l) (reading (bools_of T l.ty)) (Small (weight_of T l.ty))
  read_location_does {P} l = location_do P l.is_bit l.storage l.ty l.offset
