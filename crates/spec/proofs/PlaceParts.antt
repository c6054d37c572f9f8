-- Places in terms of memory: a field read is that part of the whole place read, and so an element.
use Prim.Native.Nat.{ℕ, zero, suc, ◌+◌, ◌*◌, ◌≤◌, ◌<◌}
use mathlib.Core.Bool.{Bool, true, false}
use mathlib.Core.List.{List, [], ◌∷◌}
use Rattle.std.specs.Prelude.{Option, None, Some}
use Rattle.std.proofs.lemmas.Option.{none-some, same_Some}
use mathlib.Core.Path.{◌≡◌, refl, sym, ap, ap₂, ◌∙◌}
use native.Mathlib.Omega.{arith}
use native.Mathlib.Nat.{zero-mul, suc-mul}
use lib.ListN.{take}
use Rattle.spec.specs.Limits.{type_depth_limit}
use Rattle.spec.specs.Hir.{At, Expr, read, Place, field, element}
use Rattle.spec.specs.Ticket.{TypeWord, t_unit, t_bool, t_bits, t_float, t_pointer, t_array, t_struct, t_tuple, t_opaque, Tables, type_at, arg, sum}
use Rattle.spec.specs.Read.{read_ticket}
use Rattle.spec.specs.Read as reading
use Rattle.spec.specs.Readable.{All, type_parts}
use Rattle.spec.specs.Operands.{nth}
use Rattle.spec.specs.Allocation.{Location, type_size}
use Rattle.spec.specs.Places.{Base, constant_usize, fields_of, ArrayOf, array_of}
use Rattle.spec.specs.Machine.{Memory, Given}
use Rattle.spec.specs.Eval.{
  Data,
  flag,
  parts,
  Datas,
  part,
  part_at,
  located,
  based,
  element_data,
  field_data,
  word_data,
  stored_data,
  read_data,
  eval,
}
use Rattle.spec.specs.RunNeeds.{NeedsOf}
use Rattle.spec.proofs.ReadingLists.{All_map, All_nth}
use Rattle.spec.proofs.ReadingTypes.{Types}
use Rattle.spec.proofs.ReadingTicket.{reading_ends}
use Rattle.spec.proofs.RunReady.{needs_read}
use Rattle.spec.proofs.PlaceBases.{Same, field_part, element_part, field_located, element_located, whole_same}

-- ---------------------------------------------------------------- fuel

module _ (T : Tables) (M : Memory) (s : ℕ) where
  module _ (rd rd' : ℕ → ℕ → Data) where
    elements_same : (t o n : ℕ) → ((p : ℕ) → rd t p ≡ rd' t p) → element_data T M s rd t o n ≡ element_data T M s rd' t o n
    unfolding element_data
    elements_same t o zero h = refl
    elements_same t o (suc n) h = ap₂ (λ (a : Data) (b : Datas). part t a b) (h o) (elements_same t (o + type_size T t) n h)

    fields_same : (o : ℕ) (ts : List ℕ) → All (λ t. (p : ℕ) → rd t p ≡ rd' t p) ts → field_data T M s rd o ts ≡ field_data T M s rd' o ts
    unfolding field_data All
    fields_same o [] h = refl
    fields_same o (t ∷ ts) h = ap₂ (λ (a : Data) (b : Datas). part t a b) (h.0 o) (fields_same (o + type_size T t) ts h.1)

    word_same : (ty o : ℕ) (w : TypeWord) (xs : List ℕ) → All (λ t. (p : ℕ) → rd t p ≡ rd' t p) (type_parts w xs)
        → word_data T M s rd ty o w xs ≡ word_data T M s rd' ty o w xs
    unfolding word_data type_parts All
    word_same ty o t_unit xs h = refl
    word_same ty o t_bool xs h = refl
    word_same ty o t_bits xs h = refl
    word_same ty o t_float xs h = refl
    word_same ty o t_pointer xs h = refl
    word_same ty o t_array xs h = ap parts (elements_same (arg xs 0) o (arg xs 1) h.0)
    word_same ty o t_struct xs h = ap parts (fields_same o xs h)
    word_same ty o t_tuple xs h = ap parts (fields_same o xs h)
    word_same ty o t_opaque xs h = refl

  -- fuel that reaches as deep as the type is enough
  deep_enough : Types T.types → (d ty : ℕ) → (type_at T ty).depth ≤ d → (o : ℕ) → stored_data T M s d ty o ≡ stored_data T M s (suc d) ty o
  unfolding stored_data
  deep_enough R zero ty h o = absurd (let q = (R ty).depth_least in omega arith)
  deep_enough R (suc d) ty h o =
      word_same (λ t p. stored_data T M s d t p) (λ t p. stored_data T M s (suc d) t p) ty o _ _
      (All_map (type_parts ((type_at T ty).word) ((type_at T ty).args)) (λ t q. deep_enough R d t (omega arith)) ((R ty).parts_less_deep))

  part_of_fields : (rd : ℕ → ℕ → Data) (o : ℕ) (ts : List ℕ) (i t : ℕ) → nth ts i ≡ Some t
      → part_at (field_data T M s rd o ts) i ≡ Some (rd t (o + sum (type_size T) (take i ts)))
  unfolding field_data part_at nth
  part_of_fields rd o [] i t e = absurd (none-some _ e)
  part_of_fields rd o (u ∷ ts) zero t e = let q : u ≡ t = same_Some _ _ e in rw q (ap (λ (p : ℕ). Some (rd t p)) (omega arith))
  part_of_fields rd o (u ∷ ts) (suc i) t e =
      part_of_fields rd (o + type_size T u) ts i t e ∙ ap (λ (p : ℕ). Some (rd t p)) (omega arith)

  part_of_elements : (rd : ℕ → ℕ → Data) (t o k i : ℕ) → i < k → part_at (element_data T M s rd t o k) i ≡ Some (rd t (o + i * type_size T t))
  unfolding element_data part_at
  part_of_elements rd t o zero i h = absurd (omega arith)
  part_of_elements rd t o (suc k) zero h = ap (λ (p : ℕ). Some (rd t p)) (let z = zero-mul (type_size T t) in omega arith)
  part_of_elements rd t o (suc k) (suc i) h =
      part_of_elements rd t (o + type_size T t) k i (omega arith)
      ∙ ap (λ (p : ℕ). Some (rd t p)) (let z = suc-mul i (type_size T t) in omega arith)

-- ---------------------------------------------------------------- what is read

pub record ReadAt (T : Tables) (M : Memory) (p : Place) (ty : ℕ) (d : Data) : Type 0 where
  pub location : Location
  pub at : located T p ty ≡ Some location
  pub packed : location.is_bit ≡ true → flag (M.bit (location.storage)) ≡ d
  pub bytes : location.is_bit ≡ false → stored_data T M (location.storage) type_depth_limit (location.ty) (location.offset) ≡ d

pub read_at : (T : Tables) (M : Memory) (p : Place) (ty : ℕ) (d : Data) → read_data T M p ty ≡ Some d → ReadAt T M p ty d
unfolding read_data
read_at T M p ty d e = go (located T p ty) refl
  where
    go : (x : Option Location) → located T p ty ≡ x → ReadAt T M p ty d
    go None q = absurd (none-some _ (rw q at e))
    go (Some l) q =
        record {
          location = l;
          at = q;
          packed = λ b. same_Some _ _ (rw (q, b) at e);
          bytes = λ b. same_Some _ _ (rw (q, b) at e);
        }

fields_data : (T : Tables) (M : Memory) (s : ℕ) (rd : ℕ → ℕ → Data) (ty o : ℕ) (w : TypeWord) (xs fs : List ℕ) → fields_of w xs ≡ Some fs
    → (word_data T M s rd ty o w xs ≡ parts (field_data T M s rd o fs)) × (type_parts w xs ≡ fs) × (w ≡ t_opaque → ⊥)
unfolding word_data type_parts
fields_data T M s rd ty o t_unit xs fs e = absurd (none-some _ e)
fields_data T M s rd ty o t_bool xs fs e = absurd (none-some _ e)
fields_data T M s rd ty o t_bits xs fs e = absurd (none-some _ e)
fields_data T M s rd ty o t_float xs fs e = absurd (none-some _ e)
fields_data T M s rd ty o t_pointer xs fs e = absurd (none-some _ e)
fields_data T M s rd ty o t_array xs fs e = absurd (none-some _ e)
fields_data T M s rd ty o t_struct xs fs e = let q : xs ≡ fs = same_Some _ _ e in (rw q refl, q, λ z. let y : ◌≡◌ {A = ℕ} 0 1 = cc in omega arith)
fields_data T M s rd ty o t_tuple xs fs e = let q : xs ≡ fs = same_Some _ _ e in (rw q refl, q, λ z. let y : ◌≡◌ {A = ℕ} 0 1 = cc in omega arith)
fields_data T M s rd ty o t_opaque xs fs e = absurd (none-some _ e)

of_parts : {ds es : Datas} → parts ds ≡ parts es → ds ≡ es
of_parts e = cc

array_data : (T : Tables) (M : Memory) (s : ℕ) (rd : ℕ → ℕ → Data) (ty o : ℕ) (w : TypeWord) (xs : List ℕ) (a : ArrayOf) → array_of w xs ≡ Some a
    → (word_data T M s rd ty o w xs ≡ parts (element_data T M s rd a.element o a.len)) × (type_parts w xs ≡ a.element ∷ []) × (w ≡ t_opaque → ⊥)
unfolding word_data type_parts
array_data T M s rd ty o t_unit xs a e = absurd (none-some _ e)
array_data T M s rd ty o t_bool xs a e = absurd (none-some _ e)
array_data T M s rd ty o t_bits xs a e = absurd (none-some _ e)
array_data T M s rd ty o t_float xs a e = absurd (none-some _ e)
array_data T M s rd ty o t_pointer xs a e = absurd (none-some _ e)
array_data T M s rd ty o t_array xs a e =
    let q : record { element = arg xs 0; len = arg xs 1 } ≡ a = same_Some _ _ e in
    (rw (← q) refl, rw (← q) refl, λ z. let y : ◌≡◌ {A = ℕ} 0 1 = cc in omega arith)
array_data T M s rd ty o t_struct xs a e = absurd (none-some _ e)
array_data T M s rd ty o t_tuple xs a e = absurd (none-some _ e)
array_data T M s rd ty o t_opaque xs a e = absurd (none-some _ e)

-- ---------------------------------------------------------------- parts of what is read

-- a part is less deep than its whole, which is as deep as the limit at most
abbrev parts_depth : ℕ
parts_depth = 15

module _ (T : Tables) (N : NeedsOf T) (R : Types T.types) (M : Memory) where
  -- a whole place of the type ty that is read as parts, and the base that it has
  whole_data : (p : Place) (ty : ℕ) (ds : Datas) (b : Base) → ReadAt T M p ty (parts ds) → based T p ≡ Some b → (b.word ≡ t_opaque → ⊥)
      → (word_data T M b.storage (λ t o. stored_data T M b.storage parts_depth t o) ty b.offset b.word b.args ≡ parts ds)
      × (b.word ≡ (type_at T ty).word) × (b.args ≡ (type_at T ty).args)
  unfolding stored_data
  whole_data p ty ds b A e n =
      let S = whole_same T N p ty A.location b A.at e in
      (by (A.location.is_bit) refl S, S.word n, S.args n)
    where
      by : (x : Bool) → A.location.is_bit ≡ x → Same T ty A.location b
          → word_data T M b.storage (λ t o. stored_data T M b.storage parts_depth t o) ty b.offset b.word b.args ≡ parts ds
      by true x S = let q = A.packed x in absurd (let z : ◌≡◌ {A = ℕ} 0 1 = cc in omega arith)
      by false x S = rw (S.word n, S.args n) (rw (S.storage, S.offset, S.typed) at (A.bytes x))

  -- a part that lies at b's offset plus f's, read: as deep as its own type, or deeper
  part_data : (p : Place) (ty : ℕ) (d : Data) (b : Base) (o : ℕ) (A : ReadAt T M p ty d) → (type_at T ty).depth ≤ parts_depth
      → record { storage = b.storage; offset = b.offset + o; ty = ty; is_bit = false } ≡ A.location
      → stored_data T M b.storage parts_depth ty (b.offset + o) ≡ d
  part_data p ty d b o A h e =
      deep_enough T M b.storage R parts_depth ty h (b.offset + o)
      ∙ ap (λ (l : Location). stored_data T M l.storage type_depth_limit l.ty l.offset) e
      ∙ A.bytes (ap (λ (l : Location). l.is_bit) (sym e))

  -- reading field i of a place is part i of reading the place
  field_of_read : (p : Place) (ty t i : ℕ) (ds : Datas) (d : Data) → read_data T M p ty ≡ Some (parts ds) → read_data T M (field p i) t ≡ Some d
      → part_at ds i ≡ Some d
  field_of_read p ty t i ds d e q =
      let A = read_at T M p ty (parts ds) e in
      let B = read_at T M (field p i) t d q in
      let F = field_located T N p i t B.location B.at in
      let P = field_part T N F.base i F.part F.found in
      let b = F.base in
      let f = F.part in
      let D = fields_data T M b.storage (λ u o. stored_data T M b.storage parts_depth u o) ty b.offset b.word b.args P.fields P.are in
      let W = whole_data p ty ds b A F.based_at D.2 in
      let same : field_data T M b.storage (λ u o. stored_data T M b.storage parts_depth u o) b.offset P.fields ≡ ds = of_parts (sym D.0 ∙ W.0) in
      let type : nth P.fields i ≡ Some t = P.type ∙ ap Some F.type in
      let less : All (λ u. (type_at T u).depth < (type_at T ty).depth) P.fields = rw (← W.1, ← W.2, D.1) at ((R ty).parts_less_deep) in
      let shallow = All_nth (λ u. (type_at T u).depth < (type_at T ty).depth) P.fields i t less type in
      let most = (R ty).depth_most in
      ap (λ (x : Datas). part_at x i) (sym same)
      ∙ part_of_fields T M b.storage (λ u o. stored_data T M b.storage parts_depth u o) b.offset P.fields i t type
      ∙ ap Some (part_data (field p i) t d b (sum (type_size T) (take i P.fields)) B (omega arith) (rw P.offset at F.is))

  -- so with element n
  element_of_read : (p : Place) (ty t n : ℕ) (j : Expr) (ds : Datas) (d : Data) → constant_usize j ≡ Some n
      → read_data T M p ty ≡ Some (parts ds) → read_data T M (element p j) t ≡ Some d → part_at ds n ≡ Some d
  unfolding All
  element_of_read p ty t n j ds d c e q =
      let A = read_at T M p ty (parts ds) e in
      let B = read_at T M (element p j) t d q in
      let F = element_located T N p j t B.location B.at in
      let P = element_part T N F.base j F.part F.found in
      let b = F.base in
      let rd : ℕ → ℕ → Data = λ u o. stored_data T M b.storage parts_depth u o in
      let D = array_data T M b.storage rd ty b.offset b.word b.args P.array P.are in
      let W = whole_data p ty ds b A F.based_at D.2 in
      let same : element_data T M b.storage rd P.array.element b.offset P.array.len ≡ ds = of_parts (sym D.0 ∙ W.0) in
      let type : P.array.element ≡ t = sym P.type ∙ F.type in
      let index : P.index ≡ n = same_Some _ _ (sym P.constant ∙ c) in
      let less : All (λ u. (type_at T u).depth < (type_at T ty).depth) (P.array.element ∷ []) = rw (← W.1, ← W.2, D.1) at ((R ty).parts_less_deep) in
      let shallow : (type_at T t).depth < (type_at T ty).depth = rw type at (less.0) in
      let most = (R ty).depth_most in
      ap₂ (λ (x : Datas) (m : ℕ). part_at x m) (sym same) (sym index)
      ∙ part_of_elements T M b.storage rd P.array.element b.offset P.array.len P.index P.below
      ∙ ap (λ (u : ℕ). Some (rd u (b.offset + P.index * type_size T P.array.element))) type
      ∙ ap Some (part_data (element p j) t d b (P.index * type_size T P.array.element) B (omega arith) (rw P.offset at F.is))

-- ---------------------------------------------------------------- of a ticket

types_read : (s : List ℕ) (T : Tables) → read_ticket s ≡ reading.accepted T → Types T.types
types_read s T e = let end = reading_ends s T e in rw (end.tables_are) at (end.good.types.right)

-- reading field i of a place is part i of reading the place ..
pub field_read : (s : List ℕ) (T : Tables) → read_ticket s ≡ reading.accepted T → (G : Given) (M : Memory) (p : Place) (h k : At) (i : ℕ) (ds : Datas) (d : Data)
    → eval T G M (read h p) ≡ Some (parts ds) → eval T G M (read k (field p i)) ≡ Some d → part_at ds i ≡ Some d
unfolding eval
field_read s T r G M p h k i ds d = field_of_read T (needs_read s T r) (types_read s T r) M p h.ty k.ty i ds d

-- .. and reading element n part n
pub element_read : (s : List ℕ) (T : Tables) → read_ticket s ≡ reading.accepted T → (G : Given) (M : Memory) (p : Place) (h k : At) (j : Expr) (n : ℕ) (ds : Datas) (d : Data)
    → constant_usize j ≡ Some n → eval T G M (read h p) ≡ Some (parts ds) → eval T G M (read k (element p j)) ≡ Some d → part_at ds n ≡ Some d
unfolding eval
element_read s T r G M p h k j n ds d = element_of_read T (needs_read s T r) (types_read s T r) M p h.ty k.ty n j ds d
