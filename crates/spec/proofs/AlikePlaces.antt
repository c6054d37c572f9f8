-- Places over tables with more variables and statics: where one resolves over fewer, it resolves the same over more.
use Prim.Native.Nat.{ℕ, zero, suc}
use mathlib.Core.List.{List, [], ◌∷◌, ◌++◌}
use Rattle.std.specs.Prelude.{Some}
use mathlib.Core.Path.{◌≡◌}
use Rattle.spec.specs.Hir.{Expr, Place, variable, static, field, element, byte_offset}
use Rattle.spec.specs.Ticket.{TypeWord, PlacedLine, Tables}
use Rattle.spec.specs.Operands.{nth}
use Rattle.spec.specs.Allocation.{type_size}
use Rattle.spec.specs.Places.{Base, constant_usize, within, field_offset, element_offset, base_of, part_of, opaque_rest, resolve_place_base, with_type, location_in, resolve_place}
use Rattle.spec.specs.Lower.{lower_expression}
use Rattle.spec.proofs.AlikeLogic.{Follows, ◌then◌, ◌next◌, answers, found, known, required}
use Rattle.spec.proofs.AlikeReads.{More, extended}

-- what a list has, a longer one has at the same number
pub nth_more : {A : Type 0} (xs ys : List A) (n : ℕ) (a : A) → nth xs n ≡ Some a → nth (xs ++ ys) n ≡ Some a
unfolding nth
nth_more [] ys n a e = cc
nth_more (x ∷ xs) ys zero a e = e
nth_more (x ∷ xs) ys (suc n) a e = nth_more xs ys n a e

within_alike : (o : ℕ) → Follows (within o) (within o)
unfolding within
within_alike o = required _ _

module _ (T : Tables) (m : More) where
  -- of an index or an offset, only its constant is looked at
  pub record SameExpr (e e' : Expr) : Type 0 where
    pub lowers : Follows (lower_expression T e) (lower_expression (extended T m) e')
    pub constant : constant_usize e' ≡ constant_usize e

  pub record SamePlace (p p' : Place) : Type 0 where
    pub based : Follows (resolve_place_base T p) (resolve_place_base (extended T m) p')
    pub resolved : (ty : ℕ) → Follows (resolve_place T p ty) (resolve_place (extended T m) p' ty)

  field_alike : (w : TypeWord) (xs : List ℕ) (i : ℕ) → Follows (field_offset T w xs i) (field_offset (extended T m) w xs i)
  unfolding field_offset type_size
  field_alike w xs i = known _ _ then λ fs. known _ _ then λ ty. answers

  element_alike : (w : TypeWord) (xs : List ℕ) {e e' : Expr} → SameExpr e e' → Follows (element_offset T w xs e) (element_offset (extended T m) w xs e')
  unfolding element_offset type_size
  element_alike w xs r = known _ _ then λ a. found _ _ _ (λ n q. cc) then λ i. required _ _ next answers

  with_type_alike : (ty : ℕ) (p : PlacedLine) → Follows (with_type T ty p) (with_type (extended T m) ty p)
  unfolding with_type
  with_type_alike ty p = required _ _ next answers

  location_in_alike : (b : Base) (o ty : ℕ) → Follows (location_in T b o ty) (location_in (extended T m) b o ty)
  unfolding location_in
  location_in_alike b o ty = within_alike _ next answers

  pub variable_alike : (k : ℕ) → SamePlace (variable k) (variable k)
  unfolding resolve_place_base resolve_place base_of type_size
  variable_alike k =
      record {
        based = found _ _ _ (nth_more T.variables m.variables k) then λ p. answers;
        resolved = λ ty. found _ _ _ (nth_more T.variables m.variables k) then λ p. with_type_alike ty p;
      }

  pub static_alike : (k : ℕ) → SamePlace (static k) (static k)
  unfolding resolve_place_base resolve_place base_of type_size
  static_alike k =
      record {
        based = found _ _ _ (nth_more T.statics m.statics k) then λ p. answers;
        resolved = λ ty. found _ _ _ (nth_more T.statics m.statics k) then λ p. with_type_alike ty p;
      }

  pub field_of_alike : {p p' : Place} (i : ℕ) → SamePlace p p' → SamePlace (field p i) (field p' i)
  unfolding resolve_place_base resolve_place part_of type_size
  field_of_alike i r =
      record {
        based = r.based then λ b. field_alike b.word b.args i then λ f. within_alike _ next answers;
        resolved = λ ty. r.based then λ b. field_alike b.word b.args i then λ f. required _ _ next location_in_alike b f.offset ty;
      }

  pub element_of_alike : {p p' : Place} {e e' : Expr} → SamePlace p p' → SameExpr e e' → SamePlace (element p e) (element p' e')
  unfolding resolve_place_base resolve_place part_of type_size
  element_of_alike r i =
      record {
        based = r.based then λ b. element_alike b.word b.args i then λ f. within_alike _ next answers;
        resolved = λ ty. r.based then λ b. element_alike b.word b.args i then λ f. required _ _ next location_in_alike b f.offset ty;
      }

  pub offset_of_alike : {p p' : Place} {e e' : Expr} → SamePlace p p' → SameExpr e e' → SamePlace (byte_offset p e) (byte_offset p' e')
  unfolding resolve_place_base resolve_place opaque_rest
  offset_of_alike r i =
      record {
        based = r.based then λ b. found _ _ _ (λ n q. cc) then λ n. within_alike _ next answers;
        resolved = λ ty. r.based then λ b. found _ _ _ (λ n q. cc) then λ n. location_in_alike b n ty;
      }
