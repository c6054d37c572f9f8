-- Places append nothing, and a place resolved for a type is of that type.
use Prim.Native.Nat.{ℕ, ◌+◌}
use mathlib.Core.Bool.{true}
use mathlib.Core.List.{List}
use mathlib.Core.Path.{◌≡◌, refl}
use native.Mathlib.Omega.{arith}
use lib.Dec.{leb}
use Rattle.spec.specs.Limits.{offset_limit}
use Rattle.spec.specs.Hir.{Expr, Place, variable, static, field, element, byte_offset}
use Rattle.spec.specs.Ticket.{TypeWord, PlacedLine, Tables}
use Rattle.spec.specs.Readable.{TypesRight}
use Rattle.spec.specs.Lir.{Storage}
use Rattle.spec.specs.Places.{Base, field_offset, element_offset, resolve_place_base, with_type, location_in, resolve_place}
use Rattle.spec.specs.Places as places
use Rattle.spec.specs.Lower.{lower_read}
use Rattle.spec.proofs.CostLogic.{free, Does, Any, ◌then◌, ◌next◌, within}
use Rattle.spec.proofs.CostSteps.{answers, known, required}
use Rattle.spec.proofs.CostReads.{weight_of, bools_of, reading, Small}
use Rattle.spec.proofs.CostTemporary.{read_temporary}

module _ (T : Tables) {L : List Storage} where
  field_does : {P : Type 0} (w : TypeWord) (xs : List ℕ) (i : ℕ) → Does L P (field_offset T w xs i) free Any
  unfolding field_offset
  field_does w xs i = known _ _ then λ fs. known _ _ then λ ty. answers (λ p. tt)

  element_does : {P : Type 0} (w : TypeWord) (xs : List ℕ) (e : Expr) → Does L P (element_offset T w xs e) free Any
  unfolding element_offset
  element_does w xs e =
      known _ _ then λ a. known _ _ then λ i. required _ _ next λ _. answers (λ p. tt)

  bounded_does : {P : Type 0} (o : ℕ) → Does L P (places.within o) free (λ _. leb o offset_limit ≡ true)
  unfolding places.within
  bounded_does o = required _ _

  pub base_does : {P : Type 0} (p : Place) → Does L P (resolve_place_base T p) free Any
  unfolding resolve_place_base
  base_does (variable k) = known _ _ then λ p. answers (λ g. tt)
  base_does (static k) = known _ _ then λ p. answers (λ g. tt)
  base_does (field p i) =
      base_does p then λ b. field_does b.word b.args i then λ f. bounded_does (b.offset + f.offset) next λ _. answers (λ g. tt)
  base_does (element p e) =
      base_does p then λ b. element_does b.word b.args e then λ f. bounded_does (b.offset + f.offset) next λ _. answers (λ g. tt)
  base_does (byte_offset p e) =
      base_does p then λ b. known _ _ then λ n. bounded_does (b.offset + n) next λ _. answers (λ g. tt)

  with_type_does : {P : Type 0} (ty : ℕ) (p : PlacedLine) → Does L P (with_type T ty p) free (λ l. l.ty ≡ ty)
  unfolding with_type
  with_type_does ty p = required _ _ next λ _. answers (λ g. refl)

  location_in_does : {P : Type 0} (b : Base) (o ty : ℕ) → Does L P (location_in T b o ty) free (λ l. l.ty ≡ ty)
  unfolding location_in
  location_in_does b o ty = bounded_does (b.offset + o) next λ _. answers (λ g. refl)

  place_does : {P : Type 0} (p : Place) (ty : ℕ) → Does L P (resolve_place T p ty) free (λ l. l.ty ≡ ty)
  unfolding resolve_place
  place_does (variable k) ty = known _ _ then λ p. with_type_does ty p
  place_does (static k) ty = known _ _ then λ p. with_type_does ty p
  place_does (field p i) ty =
      base_does p then λ b. field_does b.word b.args i then λ f. required _ _ next λ _. location_in_does b f.offset ty
  place_does (element p e) ty =
      base_does p then λ b. element_does b.word b.args e then λ f. required _ _ next λ _. location_in_does b f.offset ty
  place_does (byte_offset p e) ty =
      base_does p then λ b. known _ _ then λ n. location_in_does b n ty

  pub lower_read_does : {P : Type 0} (R : TypesRight T) (p : Place) (ty : ℕ) → Does L P (lower_read T p ty) (reading (bools_of T ty)) (Small (weight_of T ty))
  unfolding lower_read
  lower_read_does R p ty = within (place_does p ty then λ l. read_temporary T R ty l (λ g. g.1)) (λ g. omega arith)
