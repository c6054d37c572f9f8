-- What resolving a place finds: its base, and the part or the bytes of that base where it lies.
use Prim.Native.Nat.{ℕ, ◌+◌, ◌*◌, ◌<◌}
use mathlib.Core.Bool.{false}
use mathlib.Core.List.{List}
use Rattle.std.specs.Prelude.{Some}
use Rattle.std.proofs.lemmas.Option.{none-some, same_Some}
use mathlib.Core.Path.{◌≡◌, refl, sym, ap, ◌∙◌}
use borrow.Author.Tests.{eqb-true, ltb-true}
use lib.Dec.{eqb, ltb}
use lib.ListN.{take}
use Rattle.spec.specs.Hir.{Expr, Place, variable, static, field, element, byte_offset}
use Rattle.spec.specs.Ticket.{TypeWord, t_opaque, PlacedLine, Tables, type_at, sum, nowhere}
use Rattle.spec.specs.Monad.{Lower, Outcome, refused, done, ◌>>=◌, ◌>>◌, prepend, or_refuse, require}
use Rattle.spec.specs.Operands.{nth}
use Rattle.spec.specs.Allocation.{Location, type_size}
use Rattle.spec.specs.Places.{
  Base,
  Part,
  constant_usize,
  fields_of,
  ArrayOf,
  array_of,
  within,
  field_offset,
  element_offset,
  base_of,
  part_of,
  opaque_rest,
  resolve_place_base,
  with_type,
  location_in,
  resolve_place,
}
use Rattle.spec.specs.Eval.{located, based}
use Rattle.spec.specs.RunNeeds.{NeedsOf}
use Rattle.spec.proofs.RunPlaces.{answered, start, Quiet, QuietAs, answered_prepend, quiet_option, quiet_require, quiet_within, quiet_field, quiet_element, quiet_base}

-- ---------------------------------------------------------------- what resolving found

pub record Bound {A B : Type 0} (P : A → Type 0) (m : Lower A) (f : A → Lower B) (b : B) : Type 0 where
  pub it : A
  pub has : P it
  pub is : answered (m nowhere start) ≡ Some it
  pub goes : answered (f it nowhere start) ≡ Some b

pub bound : {A B : Type 0} {P : A → Type 0} (m : Lower A) (f : A → Lower B) {b : B} → Quiet P m → answered ((m >>= f) nowhere start) ≡ Some b → Bound P m f b
unfolding ◌>>=◌
bound {P = P} m f {b} q e = by (m nowhere start) refl (q.is nowhere start)
  where
    by : (x : Outcome _) → m nowhere start ≡ x → QuietAs P (answered (m nowhere start)) start x → Bound P m f b
    by (refused n l) p z = absurd (none-some _ (rw p at e))
    by (done a c o) p z =
        let e' : answered (prepend o (f a nowhere c)) ≡ Some b = rw p at e in
        record { it = a; has = z.3; is = z.0; goes = rw z.1 at (sym (answered_prepend o (f a nowhere c)) ∙ e') }

pub passed : {A B : Type 0} {P : A → Type 0} (m : Lower A) (k : Lower B) {b : B} → Quiet P m → answered ((m >> k) nowhere start) ≡ Some b → Bound P m (λ _. k) b
unfolding ◌>>◌ ◌>>=◌
passed m k q e = bound m (λ _. k) q e

-- so many bytes behind the base b
pub record OffsetAt (T : Tables) (p : Place) (e : Expr) (ty : ℕ) (l : Location) : Type 0 where
  pub base : Base
  pub bytes : ℕ
  pub based_at : based T p ≡ Some base
  pub constant : constant_usize e ≡ Some bytes
  pub is : record { storage = base.storage; offset = base.offset + bytes; ty = ty; is_bit = false } ≡ l

-- a part, and where its base's type has it
pub record FieldPart (T : Tables) (w : TypeWord) (xs : List ℕ) (i : ℕ) (f : Part) : Type 0 where
  pub fields : List ℕ
  pub are : fields_of w xs ≡ Some fields
  pub type : nth fields i ≡ Some f.ty
  pub offset : f.offset ≡ sum (type_size T) (take i fields)

pub record ElementPart (T : Tables) (w : TypeWord) (xs : List ℕ) (e : Expr) (f : Part) : Type 0 where
  pub array : ArrayOf
  pub are : array_of w xs ≡ Some array
  pub index : ℕ
  pub constant : constant_usize e ≡ Some index
  pub below : index < array.len
  pub type : f.ty ≡ array.element
  pub offset : f.offset ≡ index * type_size T (array.element)

pub record Same (T : Tables) (ty : ℕ) (l : Location) (b : Base) : Type 0 where
  pub storage : l.storage ≡ b.storage
  pub offset : l.offset ≡ b.offset
  -- but for an offset's base, which is opaque
  pub word : (b.word ≡ t_opaque → ⊥) → b.word ≡ (type_at T ty).word
  pub args : (b.word ≡ t_opaque → ⊥) → b.args ≡ (type_at T ty).args
  pub typed : l.ty ≡ ty

-- part f of the base b, as the type ty
pub record PartAt (T : Tables) (p : Place) (ty : ℕ) (l : Location) (F : Base → Part → Type 0) : Type 0 where
  pub base : Base
  pub part : Part
  pub based_at : based T p ≡ Some base
  pub found : F base part
  pub type : part.ty ≡ ty
  pub is : record { storage = base.storage; offset = base.offset + part.offset; ty = ty; is_bit = false } ≡ l

module _ (T : Tables) (N : NeedsOf T) where
  abbrev pub FieldOf : ℕ → Base → Part → Type 0
  FieldOf i b f = answered (field_offset T b.word b.args i nowhere start) ≡ Some f

  abbrev pub ElementOf : Expr → Base → Part → Type 0
  ElementOf e b f = answered (element_offset T b.word b.args e nowhere start) ≡ Some f

  pub field_part : (b : Base) (i : ℕ) (f : Part) → FieldOf i b f → FieldPart T b.word b.args i f
  unfolding field_offset
  field_part b i f e =
      let x = bound (or_refuse 21 (fields_of b.word b.args)) _ (quiet_option 21 _) e in
      let y = bound (or_refuse 21 (nth x.it i)) _ (quiet_option 21 _) x.goes in
      let z : record { offset = sum (type_size T) (take i x.it); ty = y.it } ≡ f = same_Some _ _ y.goes in
      record { fields = x.it; are = x.has; type = y.has ∙ ap (λ (g : Part). Some g.ty) z; offset = ap (λ (g : Part). g.offset) (sym z) }

  pub element_part : (b : Base) (e : Expr) (f : Part) → ElementOf e b f → ElementPart T b.word b.args e f
  unfolding element_offset
  element_part b e f q =
      let x = bound (or_refuse 21 (array_of b.word b.args)) _ (quiet_option 21 _) q in
      let y = bound (or_refuse 21 (constant_usize e)) _ (quiet_option 21 _) x.goes in
      let v = passed (require 21 (ltb y.it (x.it.len))) _ (quiet_require 21 _) y.goes in
      let z : record { offset = y.it * type_size T (x.it.element); ty = x.it.element } ≡ f = same_Some _ _ v.goes in
      record {
        array = x.it;
        are = x.has;
        index = y.it;
        constant = y.has;
        below = ltb-true _ _ v.has;
        type = ap (λ (g : Part). g.ty) (sym z);
        offset = ap (λ (g : Part). g.offset) (sym z);
      }

  in_base : (b : Base) (f : Part) (ty : ℕ) (l : Location) → answered (location_in T b f.offset ty nowhere start) ≡ Some l
      → record { storage = b.storage; offset = b.offset + f.offset; ty = ty; is_bit = false } ≡ l
  unfolding location_in
  in_base b f ty l e = same_Some _ _ ((passed (within (b.offset + f.offset)) _ (quiet_within T N _) e).goes)

  pub field_located : (p : Place) (i ty : ℕ) (l : Location) → located T (field p i) ty ≡ Some l → PartAt T p ty l (FieldOf i)
  unfolding located based resolve_place
  field_located p i ty l e =
      let x = bound (resolve_place_base T p) _ (quiet_base T N p) e in
      let y = bound (field_offset T (x.it.word) (x.it.args) i) _ (quiet_field T N x.it i) x.goes in
      let z = passed (require 22 (eqb (y.it.ty) ty)) _ (quiet_require 22 _) y.goes in
      record { base = x.it; part = y.it; based_at = x.is; found = y.is; type = eqb-true _ _ z.has; is = in_base x.it y.it ty l z.goes }

  pub element_located : (p : Place) (n : Expr) (ty : ℕ) (l : Location) → located T (element p n) ty ≡ Some l → PartAt T p ty l (ElementOf n)
  unfolding located based resolve_place
  element_located p n ty l e =
      let x = bound (resolve_place_base T p) _ (quiet_base T N p) e in
      let y = bound (element_offset T (x.it.word) (x.it.args) n) _ (quiet_element T N x.it n) x.goes in
      let z = passed (require 22 (eqb (y.it.ty) ty)) _ (quiet_require 22 _) y.goes in
      record { base = x.it; part = y.it; based_at = x.is; found = y.is; type = eqb-true _ _ z.has; is = in_base x.it y.it ty l z.goes }

  pub offset_located : (p : Place) (e : Expr) (ty : ℕ) (l : Location) → located T (byte_offset p e) ty ≡ Some l → OffsetAt T p e ty l
  unfolding located based resolve_place location_in
  offset_located p e ty l q =
      let x = bound (resolve_place_base T p) _ (quiet_base T N p) q in
      let y = bound (or_refuse 21 (constant_usize e)) _ (quiet_option 21 _) x.goes in
      let z = passed (within (x.it.offset + y.it)) _ (quiet_within T N _) y.goes in
      record { base = x.it; bytes = y.it; based_at = x.is; constant = y.has; is = same_Some _ _ z.goes }

  -- a variable or a static
  placed_same : (p q : PlacedLine) (ty : ℕ) (l : Location) (b : Base) → p ≡ q → answered (with_type T ty p nowhere start) ≡ Some l → base_of T q ≡ b → Same T ty l b
  unfolding with_type base_of
  placed_same p q ty l b same e c =
      let x = passed (require 22 (eqb p.type ty)) _ (quiet_require 22 _) e in
      let t : p.type ≡ ty = eqb-true _ _ x.has in
      rw (← same_Some _ _ x.goes, ← c, ← same, ← t) (record { storage = refl; offset = refl; word = λ n. refl; args = λ n. refl; typed = refl })

  -- a part of a part
  part_same : (b : Base) (f : Part) (ty : ℕ) (l : Location) (c : Base) → f.ty ≡ ty
      → record { storage = b.storage; offset = b.offset + f.offset; ty = ty; is_bit = false } ≡ l → part_of T b f ≡ c → Same T ty l c
  unfolding part_of
  part_same b f ty l c t e d = rw (← e, ← d, ← t) (record { storage = refl; offset = refl; word = λ n. refl; args = λ n. refl; typed = refl })

  -- bytes behind a base
  offset_same : (b : Base) (n ty : ℕ) (l : Location) (c : Base)
      → record { storage = b.storage; offset = b.offset + n; ty = ty; is_bit = false } ≡ l → opaque_rest T b n ≡ c → Same T ty l c
  unfolding opaque_rest
  offset_same b n ty l c e d =
      rw (← e, ← d) (record { storage = refl; offset = refl; word = λ q. absurd (q refl); args = λ q. absurd (q refl); typed = refl })

  found_part : (F : Base → Part → Type 0) (m : Base → Lower Part) → ((b : Base) (f : Part) → F b f → answered (m b nowhere start) ≡ Some f)
      → (p : Place) (ty : ℕ) (l : Location) (b : Base) (f : Part) (c : Base) → PartAt T p ty l F → based T p ≡ Some b → answered (m b nowhere start) ≡ Some f
      → part_of T b f ≡ c → Same T ty l c
  found_part F m are p ty l b f c A e q d =
      let x : A.base ≡ b = same_Some _ _ (sym A.based_at ∙ e) in
      let y : A.part ≡ f = same_Some _ _ (sym (rw x at (are A.base A.part A.found)) ∙ q) in
      part_same b f ty l c (rw y at A.type) (rw (x, y) at A.is) d

  pub whole_same : (p : Place) (ty : ℕ) (l : Location) (b : Base) → located T p ty ≡ Some l → based T p ≡ Some b → Same T ty l b
  unfolding located based resolve_place resolve_place_base opaque_rest
  whole_same (variable k) ty l b e q =
      let x = bound (or_refuse 20 (nth T.variables k)) _ (quiet_option 20 _) e in
      let y = bound (or_refuse 20 (nth T.variables k)) _ (quiet_option 20 _) q in
      placed_same x.it y.it ty l b (same_Some _ _ (sym x.has ∙ y.has)) x.goes (same_Some _ _ y.goes)
  whole_same (static k) ty l b e q =
      let x = bound (or_refuse 20 (nth T.statics k)) _ (quiet_option 20 _) e in
      let y = bound (or_refuse 20 (nth T.statics k)) _ (quiet_option 20 _) q in
      placed_same x.it y.it ty l b (same_Some _ _ (sym x.has ∙ y.has)) x.goes (same_Some _ _ y.goes)
  whole_same (field p i) ty l b e q =
      let x = bound (resolve_place_base T p) _ (quiet_base T N p) q in
      let y = bound (field_offset T (x.it.word) (x.it.args) i) _ (quiet_field T N x.it i) x.goes in
      let z = passed (within (x.it.offset + y.it.offset)) _ (quiet_within T N _) y.goes in
      found_part (FieldOf i) (λ c. field_offset T c.word c.args i) (λ c f g. g) p ty l x.it y.it b (field_located p i ty l e) x.is y.is (same_Some _ _ z.goes)
  whole_same (element p j) ty l b e q =
      let x = bound (resolve_place_base T p) _ (quiet_base T N p) q in
      let y = bound (element_offset T (x.it.word) (x.it.args) j) _ (quiet_element T N x.it j) x.goes in
      let z = passed (within (x.it.offset + y.it.offset)) _ (quiet_within T N _) y.goes in
      found_part (ElementOf j) (λ c. element_offset T c.word c.args j) (λ c f g. g) p ty l x.it y.it b (element_located p j ty l e) x.is y.is (same_Some _ _ z.goes)
  whole_same (byte_offset p j) ty l b e q =
      let x = bound (resolve_place_base T p) _ (quiet_base T N p) q in
      let y = bound (or_refuse 21 (constant_usize j)) _ (quiet_option 21 _) x.goes in
      let z = passed (within (x.it.offset + y.it)) _ (quiet_within T N _) y.goes in
      let A = offset_located p j ty l e in
      let s : A.base ≡ x.it = same_Some _ _ (sym A.based_at ∙ x.is) in
      let n : A.bytes ≡ y.it = same_Some _ _ (sym A.constant ∙ y.has) in
      offset_same x.it y.it ty l b (rw (s, n) at A.is) (same_Some _ _ z.goes)
