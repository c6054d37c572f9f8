-- A text with more variables and statics, or other regions, reads as tables with no other difference.
use Prim.Native.Nat.{ℕ}
use mathlib.Core.List.{List, [], ◌∷◌, ◌++◌, append_assoc}
use mathlib.Core.Path.{◌≡◌, refl}
use Rattle.spec.specs.Ticket.{PlacedLine, Tables, no_place, no_node}
use Rattle.spec.specs.Forms.{Field, between, float_width, type_part, type, storage, place, node, Arg, Head, f_line, s_line, v_line, g_line, t_line, p_line, n_line, values}
use Rattle.spec.specs.Read.{depth_of_field, deepest, depth_of, placed_line, add_line}
use Rattle.spec.specs.Alike.{MoreOf}
use Rattle.spec.proofs.AlikePairs.{pair_at, pair_append}

behind : {A : Type 0} (xs : List A) (x : A) {ys zs : List A} → ys ≡ xs ++ zs → zs ≡ [] → ys ++ (x ∷ []) ≡ (xs ++ (x ∷ [])) ++ zs
behind xs x e z = simp (e, z, append_assoc)

-- ---------------------------------------------------------------- depths

module _ {vs gs : List PlacedLine} (T T' : Tables) (r : MoreOf vs gs T T') where
  field_depth : (c : Field) (x : ℕ) → depth_of_field T' c x ≡ depth_of_field T c x
  field_depth (between least greatest) x = refl
  field_depth float_width x = refl
  field_depth type_part x = rw r.types
  field_depth type x = refl
  field_depth storage x = refl
  field_depth place x = let p = pair_at x no_place (record { word = refl; args = refl; depth = refl }) r.places in cc
  field_depth node x = let p = pair_at x no_node (record { type = refl; word = refl; args = refl; depth = refl }) r.nodes in cc

  deepest_alike : (xa : List Arg) → deepest T' xa ≡ deepest T xa
  deepest_alike [] = refl
  deepest_alike (a ∷ xa) = cc (field_depth a.class a.value, deepest_alike xa)

  depth_alike : (xa : List Arg) → depth_of T xa ≡ depth_of T' xa
  unfolding depth_of
  depth_alike xa = cc (deepest_alike xa)

-- ---------------------------------------------------------------- a line more

-- the same line added to both: a variable or a static, only while neither has more of them
pub same_added : {vs gs : List PlacedLine} (T T' : Tables) (n n' : ℕ) (h : Head) (xa : List Arg) → MoreOf vs gs T T'
    → (h ≡ v_line → vs ≡ []) → (h ≡ g_line → gs ≡ []) → MoreOf vs gs (add_line T n h xa) (add_line T' n' h xa)
unfolding add_line
same_added T T' n n' f_line xa r v g =
    record {
      function = refl;
      next = refl;
      types = r.types;
      storages = r.storages;
      variables = r.variables;
      statics = r.statics;
      places = r.places;
      nodes = r.nodes;
    }
same_added T T' n n' (t_line w) xa r v g =
    record {
      function = r.function;
      next = r.next;
      types = rw (← depth_alike T T' r xa, r.types);
      storages = r.storages;
      variables = r.variables;
      statics = r.statics;
      places = r.places;
      nodes = r.nodes;
    }
same_added T T' n n' s_line xa r v g =
    record {
      function = r.function;
      next = r.next;
      types = r.types;
      storages = pair_append r.storages (record { kind = refl; len = refl; owner = refl });
      variables = r.variables;
      statics = r.statics;
      places = r.places;
      nodes = r.nodes;
    }
same_added T T' n n' v_line xa r v g =
    record {
      function = r.function;
      next = r.next;
      types = r.types;
      storages = r.storages;
      variables = behind T.variables (placed_line (values xa)) r.variables (v refl);
      statics = r.statics;
      places = r.places;
      nodes = r.nodes;
    }
same_added T T' n n' g_line xa r v g =
    record {
      function = r.function;
      next = r.next;
      types = r.types;
      storages = r.storages;
      variables = r.variables;
      statics = behind T.statics (placed_line (values xa)) r.statics (g refl);
      places = r.places;
      nodes = r.nodes;
    }
same_added T T' n n' (p_line w) xa r v g =
    record {
      function = r.function;
      next = r.next;
      types = r.types;
      storages = r.storages;
      variables = r.variables;
      statics = r.statics;
      places = pair_append r.places (record { word = refl; args = refl; depth = depth_alike T T' r xa });
      nodes = r.nodes;
    }
same_added T T' n n' (n_line w) xa r v g =
    record {
      function = r.function;
      next = r.next;
      types = r.types;
      storages = r.storages;
      variables = r.variables;
      statics = r.statics;
      places = r.places;
      nodes = pair_append r.nodes (record { type = refl; word = refl; args = refl; depth = depth_alike T T' r xa });
    }
