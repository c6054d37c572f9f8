-- A value as records in pre-order: its own head, and the heads of its parts.
use Rattle.std.specs.Prelude.{◌≡◌, refl, List, ◌∷◌, ◌++◌, map, [], ℕ, zero, suc, ◌≤◌, length, drop}
use Rattle.std.proofs.Common.{sym, append_assoc, append-nil, arith, length-drop, drop_at}
use Rattle.std.proofs.lemmas.List.{length-map}
use Rattle.std.specs.Prelude.{Option, None, Some}
use Rattle.spec.specs.Lir.{ByteOperand, BitOperand, ValueOperand, bit_operand, byte_operand, Value, value, Repr, unit, bit_value, bytes_value, aggregate, Values, no_values, ◌∷ᵛ◌, flatten_value_operands, flatten_repr, flatten_values}
use Rattle.spec.specs.Operands.{nth_value, value_repr, value_type, repr_bytes, repr_bit}
use Rattle.lir.specs.Abstract.{bit_operand_of, bytes_of, Small}
use Rattle.values.specs.declared.Value.{Value as Val}
use Rattle.values.specs.declared.Repr.{Repr as Rep}

pub data Shape : Type 0 where
  unit_shape : Shape
  bit_shape : BitOperand → Shape
  bytes_shape : List ByteOperand → Shape
  aggregate_shape : ℕ → ℕ → Shape

pub record Head : Type 0 where
  pub ty : ℕ
  pub shape : Shape

abbrev pub count : Values → ℕ
count no_values = 0
count (v ∷ᵛ vs) = suc (count vs)

abbrev mutual
  pub root : Value → Head
  root (value ty r) = record { ty = ty; shape = shape_of r }

  pub shape_of : Repr → Shape
  shape_of unit = unit_shape
  shape_of (bit_value b) = bit_shape b
  shape_of (bytes_value bs) = bytes_shape bs
  shape_of (aggregate vs) = aggregate_shape (count vs) (length (preorders vs))

  pub parts_of : Value → List Head
  parts_of (value ty r) = repr_parts_of r

  pub repr_parts_of : Repr → List Head
  repr_parts_of unit = []
  repr_parts_of (bit_value b) = []
  repr_parts_of (bytes_value bs) = []
  repr_parts_of (aggregate vs) = preorders vs

  pub preorders : Values → List Head
  preorders no_values = []
  preorders (v ∷ᵛ vs) = root v ∷ (parts_of v ++ preorders vs)

-- ---- the code's values

abbrev pub shape_in : Rep → Shape
shape_in Rep.Unit = unit_shape
shape_in (Rep.Bit b) = bit_shape (bit_operand_of b)
shape_in (Rep.Bytes b) = bytes_shape (bytes_of b)
shape_in (Rep.Aggregate n m) = aggregate_shape n m

abbrev pub head_of : Val → Head
head_of v = record { ty = v.ty; shape = shape_in v.repr }

-- what is asked where a value's bytes are read; why it is no fact of the type stands beside `Value`
abbrev pub Sound_repr : Rep → Type 0
Sound_repr Rep.Unit = Unit {0}
Sound_repr (Rep.Bit b) = Unit {0}
Sound_repr (Rep.Bytes b) = Small b
Sound_repr (Rep.Aggregate n m) = Unit {0}

abbrev pub Sound_value : Val → Type 0
Sound_value v = Sound_repr v.repr

abbrev pub All_sound : List Val → Type 0
All_sound [] = Unit {0}
All_sound (v ∷ vs) = Sound_value v × All_sound vs

pub sound_append : (vs ws : List Val) → All_sound vs → All_sound ws → All_sound (vs ++ ws)
sound_append [] ws a b = b
sound_append (v ∷ vs) ws a b = (a.0, sound_append vs ws a.1 b)

pub length_heads : (vs : List Val) → length (map head_of vs) ≡ length vs
length_heads vs = length-map vs head_of

-- ---- a step that looks at a value's head alone may be given this value in its place

abbrev flat : ℕ → Shape → Value
flat ty unit_shape = value ty unit
flat ty (bit_shape b) = value ty (bit_value b)
flat ty (bytes_shape bs) = value ty (bytes_value bs)
flat ty (aggregate_shape n m) = value ty (aggregate no_values)

abbrev pub flat_of : Head → Value
flat_of h = flat h.ty h.shape

pub flat_bytes : (v : Value) → repr_bytes (value_repr (flat_of (root v))) ≡ repr_bytes (value_repr v)
flat_bytes (value ty unit) = refl
flat_bytes (value ty (bit_value b)) = refl
flat_bytes (value ty (bytes_value bs)) = refl
flat_bytes (value ty (aggregate vs)) = refl

pub flat_bit : (v : Value) → repr_bit (value_repr (flat_of (root v))) ≡ repr_bit (value_repr v)
flat_bit (value ty unit) = refl
flat_bit (value ty (bit_value b)) = refl
flat_bit (value ty (bytes_value bs)) = refl
flat_bit (value ty (aggregate vs)) = refl

pub flat_type : (v : Value) → value_type (flat_of (root v)) ≡ value_type v
flat_type (value ty unit) = refl
flat_type (value ty (bit_value b)) = refl
flat_type (value ty (bytes_value bs)) = refl
flat_type (value ty (aggregate vs)) = refl

-- ---- select: the operands of a value are those of its records, one after the other

abbrev shape_operands : Shape → List ValueOperand
shape_operands unit_shape = []
shape_operands (bit_shape b) = bit_operand b ∷ []
shape_operands (bytes_shape bs) = map byte_operand bs
shape_operands (aggregate_shape n m) = []

abbrev pub head_operands : Head → List ValueOperand
head_operands h = shape_operands h.shape

abbrev pub operands_of : List Head → List ValueOperand
operands_of [] = []
operands_of (h ∷ hs) = head_operands h ++ operands_of hs

pub operands_append : (hs ks : List Head) → operands_of (hs ++ ks) ≡ operands_of hs ++ operands_of ks
operands_append [] ks = refl
operands_append (h ∷ hs) ks = rw (operands_append hs ks, append_assoc)

mutual
  unfolding flatten_value_operands

  pub flatten_preorder : (v : Value) → flatten_value_operands v ≡ operands_of (root v ∷ parts_of v)
  flatten_preorder (value ty r) = flatten_pre r

  pub flatten_pre : (r : Repr) → flatten_repr r ≡ shape_operands (shape_of r) ++ operands_of (repr_parts_of r)
  flatten_pre unit = refl
  flatten_pre (bit_value b) = refl
  flatten_pre (bytes_value bs) = sym (append-nil (map byte_operand bs))
  flatten_pre (aggregate vs) = flatten_preorders vs

  pub flatten_preorders : (vs : Values) → flatten_values vs ≡ operands_of (preorders vs)
  flatten_preorders no_values = refl
  flatten_preorders (v ∷ᵛ vs) =
      rw (flatten_preorder v, flatten_preorders vs, operands_append (parts_of v) (preorders vs), append_assoc)

-- ---- extract: the i-th part's records are found by skipping those of the parts before it

abbrev shape_records : Shape → ℕ
shape_records unit_shape = 0
shape_records (bit_shape b) = 0
shape_records (bytes_shape bs) = 0
shape_records (aggregate_shape n m) = m

-- how many records stand behind a head
abbrev pub records : Head → ℕ
records h = shape_records h.shape

pub records_parts : (v : Value) → records (root v) ≡ length (parts_of v)
records_parts (value ty unit) = refl
records_parts (value ty (bit_value b)) = refl
records_parts (value ty (bytes_value bs)) = refl
records_parts (value ty (aggregate vs)) = refl

-- without the first i values
unfoldable pub skip : ℕ → List Head → List Head
skip zero hs = hs
skip (suc i) [] = []
skip (suc i) (h ∷ hs) = skip i (drop (records h) hs)

-- what stands at the i-th part
abbrev pub Found : List Head → Option Value → Type 0
Found hs None = hs ≡ []
Found hs (Some v) = (ks : List Head) × (hs ≡ root v ∷ (parts_of v ++ ks))

pub skip_found : (i : ℕ) (vs : Values) → Found (skip i (preorders vs)) (nth_value vs i)
unfolding skip nth_value
skip_found zero no_values = refl
skip_found zero (v ∷ᵛ vs) = (preorders vs, refl)
skip_found (suc i) no_values = refl
skip_found (suc i) (v ∷ᵛ vs) = rw (drop_at (parts_of v) (preorders vs) (records (root v)) (sym (records_parts v))) (skip_found i vs)

pub skip_length : (i : ℕ) (hs : List Head) → length (skip i hs) ≤ length hs
unfolding skip
skip_length zero hs = omega arith
skip_length (suc i) [] = omega arith
skip_length (suc i) (h ∷ hs) = let a = skip_length i (drop (records h) hs) in let e = length-drop (records h) hs in omega arith
