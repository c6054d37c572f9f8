-- A whole expression over tables with more variables and statics: by the depth, each node's word, numbers and TYPE being the same.
use Prim.Native.Nat.{ℕ, zero, suc}
use mathlib.Core.List.{List, [], ◌∷◌}
use mathlib.Core.Path.{◌≡◌, refl}
use Rattle.spec.specs.Hir.{At, Expr, Place}
use Rattle.spec.specs.Ticket.{PlaceWord, p_variable, p_static, p_field, p_element, p_offset, NodeWord, n_bool, n_int, n_f32, n_f64, n_null, n_static_address, n_function, n_read, n_unary, n_binary, n_funary, n_fbinary, n_compare, n_convert, n_select, n_address, n_offset, n_aggregate, n_extract, n_insert, Tables, no_place, place_line_at, no_node, node_at, arg, exprs_of, expr_of, place_of, expr_at, place_at}
use Rattle.spec.specs.Lir.{Value}
use Rattle.spec.specs.Monad.{Lower}
use Rattle.spec.specs.Allocation.{type_size}
use Rattle.spec.specs.Places.{constant_usize}
use Rattle.spec.specs.Lower.{lower_integer, lower_read, lower_extract, lower_insert, as_bit, lower_expression, lower_expressions}
use Rattle.spec.specs.Alike.{Pairwise, AlikeStorage, AlikePlace, AlikeNode}
use Rattle.spec.proofs.AlikeLogic.{Follows, ◌then◌, ◌next◌, answers, refuses_at, owned, known, required}
use Rattle.spec.proofs.AlikePairs.{pair_at}
use Rattle.spec.proofs.AlikeReads.{More, extended, location_alike}
use Rattle.spec.proofs.AlikeSteps.{unary_alike, binary_alike, compare_alike, value_as_bit_alike, conversion_alike}
use Rattle.spec.proofs.AlikePlaces.{SameExpr, SamePlace, variable_alike, static_alike, field_of_alike, element_of_alike, offset_of_alike}
use Rattle.spec.proofs.AlikeSelect.{select_alike, function_alike, pointer_alike, address_of_alike, static_address_alike}

extract_alike : (v : Value) (i : ℕ) (T T' : Tables) → Follows (lower_extract T v i) (lower_extract T' v i)
unfolding lower_extract
extract_alike v i T T' = known _ _ then λ vs. known _ _

insert_alike : (v : Value) (i : ℕ) (w : Value) (ty : ℕ) (T T' : Tables) → Follows (lower_insert T v i w ty) (lower_insert T' v i w ty)
unfolding lower_insert
insert_alike v i w ty T T' = known _ _ then λ vs. known _ _ then λ us. answers

module _ (T : Tables) (m : More) (ss : Pairwise AlikeStorage T.storages m.storages) where
  integer_alike : (v ty : ℕ) → Follows (lower_integer T v ty) (lower_integer (extended T m) v ty)
  unfolding lower_integer type_size
  integer_alike v ty = required _ _ next answers

  read_alike : {p p' : Place} (ty : ℕ) → SamePlace T m p p' → Follows (lower_read T p ty) (lower_read (extended T m) p' ty)
  unfolding lower_read
  read_alike ty r = r.resolved ty then λ l. location_alike T m l

  as_bit_alike : (h h' : At) {a a' : Lower Value} → h.node ≡ h'.node → Follows a a' → Follows (as_bit T h a) (as_bit (extended T m) h' a')
  unfolding as_bit
  as_bit_alike h h' e d = d then λ v. owned h h' e (value_as_bit_alike T m v)

  expressions_alike : (e e' : ℕ → Expr) → ((k : ℕ) → SameExpr T m (e k) (e' k))
      → (ns : List ℕ) → Follows (lower_expressions T (exprs_of e ns)) (lower_expressions (extended T m) (exprs_of e' ns))
  unfolding lower_expressions
  expressions_alike e e' es [] = answers
  expressions_alike e e' es (n ∷ ns) = (es n).lowers then λ v. expressions_alike e e' es ns then λ vs. answers

  -- a node and a place, given those referred to
  module _ (p p' : ℕ → Place) (e e' : ℕ → Expr) (ps : (k : ℕ) → SamePlace T m (p k) (p' k)) (es : (k : ℕ) → SameExpr T m (e k) (e' k)) where
    module _ (line line' node ty : ℕ) where
      abbrev h : At
      h = record { line = line; node = node; ty = ty }

      abbrev h' : At
      h' = record { line = line'; node = node; ty = ty }

      node_alike : (w : NodeWord) (xs : List ℕ) → SameExpr T m (expr_of p e h w xs) (expr_of p' e' h' w xs)
      unfolding lower_expression constant_usize
      node_alike n_bool xs = record { lowers = answers; constant = refl }
      node_alike n_int xs = record { lowers = owned h h' refl (integer_alike (arg xs 0) ty); constant = refl }
      node_alike n_f32 xs = record { lowers = refuses_at; constant = refl }
      node_alike n_f64 xs = record { lowers = refuses_at; constant = refl }
      node_alike n_null xs = record { lowers = answers; constant = refl }
      node_alike n_static_address xs = record { lowers = owned h h' refl (static_address_alike T m ss (arg xs 0) (arg xs 1)); constant = refl }
      node_alike n_function xs = record { lowers = owned h h' refl (function_alike T m (arg xs 0)); constant = refl }
      node_alike n_read xs = record { lowers = owned h h' refl (read_alike ty (ps (arg xs 0))); constant = refl }
      node_alike n_unary xs = record { lowers = (es (arg xs 1)).lowers then λ v. owned h h' refl (unary_alike T m _ v ty); constant = refl }
      node_alike n_binary xs =
          record {
            lowers = (es (arg xs 1)).lowers then λ l. (es (arg xs 2)).lowers then λ r. owned h h' refl (binary_alike T m _ l r ty);
            constant = refl;
          }
      node_alike n_funary xs = record { lowers = refuses_at; constant = refl }
      node_alike n_fbinary xs = record { lowers = refuses_at; constant = refl }
      node_alike n_compare xs =
          record {
            lowers = (es (arg xs 1)).lowers then λ l. (es (arg xs 2)).lowers then λ r. owned h h' refl (compare_alike T m _ l r);
            constant = refl;
          }
      node_alike n_convert xs = record { lowers = (es (arg xs 1)).lowers then λ v. owned h h' refl (conversion_alike T m _ v ty); constant = refl }
      node_alike n_select xs =
          record {
            lowers =
                (es (arg xs 0)).lowers then λ t.
                (es (arg xs 1)).lowers then λ f.
                as_bit_alike h h' refl (es (arg xs 2)).lowers then λ c.
                owned h h' refl (select_alike T m c t f ty);
            constant = refl;
          }
      node_alike n_address xs = record { lowers = owned h h' refl (address_of_alike T m ss (ps (arg xs 0))); constant = refl }
      node_alike n_offset xs =
          record {
            lowers = (es (arg xs 0)).lowers then λ b. (es (arg xs 1)).lowers then λ o. owned h h' refl (pointer_alike T m b o);
            constant = refl;
          }
      node_alike n_aggregate xs = record { lowers = expressions_alike e e' es xs then λ vs. answers; constant = refl }
      node_alike n_extract xs = record { lowers = (es (arg xs 0)).lowers then λ v. owned h h' refl (extract_alike v (arg xs 1) T (extended T m)); constant = refl }
      node_alike n_insert xs =
          record {
            lowers = (es (arg xs 0)).lowers then λ v. (es (arg xs 2)).lowers then λ w. owned h h' refl (insert_alike v (arg xs 1) w ty T (extended T m));
            constant = refl;
          }

    place_alike : (w : PlaceWord) (xs : List ℕ) → SamePlace T m (place_of p e w xs) (place_of p' e' w xs)
    place_alike p_variable xs = variable_alike T m (arg xs 0)
    place_alike p_static xs = static_alike T m (arg xs 0)
    place_alike p_field xs = field_of_alike T m (arg xs 1) (ps (arg xs 0))
    place_alike p_element xs = element_of_alike T m (ps (arg xs 0)) (es (arg xs 1))
    place_alike p_offset xs = offset_of_alike T m (ps (arg xs 0)) (es (arg xs 1))

  module _ (ps : Pairwise AlikePlace T.places m.places) (ns : Pairwise AlikeNode T.nodes m.nodes) where
    line_alike : (n : ℕ) → AlikeNode (node_at T n) (node_at (extended T m) n)
    line_alike n = pair_at n no_node (record { type = refl; word = refl; args = refl; depth = refl }) ns

    place_line_alike : (n : ℕ) → AlikePlace (place_line_at T n) (place_line_at (extended T m) n)
    place_line_alike n = pair_at n no_place (record { word = refl; args = refl; depth = refl }) ps

    mutual
      unfolding expr_at lower_expression

      pub expr_alike : (d n : ℕ) → SameExpr T m (expr_at d T n) (expr_at d (extended T m) n)
      expr_alike zero n = record { lowers = answers; constant = refl }
      expr_alike (suc d) n =
          let r = line_alike n in
          rw (← r.type, ← r.word, ← r.args)
          (node_alike _ _ _ _ (λ k. places_alike d k) (λ k. expr_alike d k) _ _ n _ (node_at T n).word (node_at T n).args)

      places_alike : (d n : ℕ) → SamePlace T m (place_at d T n) (place_at d (extended T m) n)
      places_alike zero n = variable_alike T m 0
      places_alike (suc d) n =
          let r = place_line_alike n in
          rw (← r.word, ← r.args)
          (place_alike _ _ _ _ (λ k. places_alike d k) (λ k. expr_alike d k) (place_line_at T n).word (place_line_at T n).args)
