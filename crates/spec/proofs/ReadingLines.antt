-- Every line that can be read has the form of its head: checked rule by rule, and carried over from the rules to the text.
use Prim.Native.Nat.{ℕ}
use mathlib.Core.List.{List, [], ◌∷◌}
use Rattle.std.specs.Prelude.{Option, None, Some}
use Rattle.std.proofs.lemmas.Option.{none-some, same_Some}
use mathlib.Core.Path.{◌≡◌, refl}
use Rattle.spec.specs.Text.{split, comma}
use Rattle.spec.specs.Ticket.{TypeWord, t_unit, t_bool, t_bits, t_float, t_pointer, t_array, t_struct, t_tuple, t_opaque, PlaceWord, p_variable, p_static, p_field, p_element, p_offset, NodeWord, n_bool, n_int, n_f32, n_f64, n_null, n_static_address, n_function, n_read, n_unary, n_binary, n_funary, n_fbinary, n_compare, n_convert, n_select, n_address, n_offset, n_extract, n_insert, arg}
use Rattle.spec.specs.Forms.{Field, between, type, Rule, type_rules, place_rules, node_rules, kind_rules, function_fields, storage_fields, placed_fields, find, Arg, Head, f_line, s_line, v_line, g_line, t_line, p_line, n_line, Line, args_of, type_form, place_form, node_form, Kind, k_f, k_t, k_s, k_v, k_g, k_p, k_n, form_of, line_of, values}
use Rattle.spec.specs.Readable.{All, type_parts, nodes_of_node, Counted}
use Rattle.spec.proofs.ReadingRefers.{places_of_node, nodes_of_place, places_of_place}
use Rattle.spec.proofs.ReadingForms.{Args, done, next, part_values, node_values, place_values, all_parts, all_nodes, no_places, args_formed, found}

-- ---------------------------------------------------------------- forms by head

-- a bits type has one number, its width
abbrev Width : TypeWord → List Arg → Type 0
Width t_unit xa = Unit {0}
Width t_bool xa = Unit {0}
Width t_bits xa = Args (between 1 64 ∷ []) None xa
Width t_float xa = Unit {0}
Width t_pointer xa = Unit {0}
Width t_array xa = Unit {0}
Width t_struct xa = Unit {0}
Width t_tuple xa = Unit {0}
Width t_opaque xa = Unit {0}

pub record TypeFormed (w : TypeWord) (xa : List Arg) : Type 0 where
  pub parts : type_parts w (values xa) ≡ part_values xa
  pub width : Width w xa
  pub counted : Counted w (values xa)

-- the nodes and places that a node refers to are its numbers of those classes; a `bool` has one number, 0 or 1
pub record NumbersFormed (w : NodeWord) (xa : List Arg) : Type 0 where
  pub nodes : nodes_of_node w (values xa) ≡ node_values xa
  pub places : places_of_node w (values xa) ≡ place_values xa
  pub of_bool : w ≡ n_bool → xa ≡ record { class = between 0 1; value = arg (values xa) 0 } ∷ []

-- so with a place's numbers
pub record PlaceFormed (w : PlaceWord) (xa : List Arg) : Type 0 where
  pub nodes : nodes_of_place w (values xa) ≡ node_values xa
  pub places : places_of_place w (values xa) ≡ place_values xa

-- a node's TYPE, and then what the word asks for
pub data NodeFormed (w : NodeWord) : List Arg → Type 0 where
  node_formed : {xa : List Arg} (ty : ℕ) → NumbersFormed w xa → NodeFormed w (record { class = type; value = ty } ∷ xa)

abbrev pub Formed : Head → List Arg → Type 0
Formed f_line xa = Args function_fields None xa
Formed s_line xa = Args storage_fields None xa
Formed v_line xa = Args placed_fields None xa
Formed g_line xa = Args placed_fields None xa
Formed (t_line w) xa = TypeFormed w xa
Formed (p_line w) xa = PlaceFormed w xa
Formed (n_line w) xa = NodeFormed w xa

-- ---------------------------------------------------------------- rule by rule

-- P of every line with these fields
abbrev Filled : List Field → (List Arg → Type 0) → Type 0
Filled [] P = P []
Filled (f ∷ fs) P = (x : ℕ) → Filled fs (λ xa. P (record { class = f; value = x } ∷ xa))

filled : {fs : List Field} {xa : List Arg} (P : List Arg → Type 0) → Filled fs P → Args fs None xa → P xa
filled P h done = h
filled P h (next x rest) = filled (λ xa. P (record { class = _; value = x } ∷ xa)) (h x) rest

TypeRule : Rule TypeWord → Type 0
TypeRule r = (xa : List Arg) → Args r.fields r.rest xa → TypeFormed r.make xa

type_rules_formed : All TypeRule type_rules
unfolding All TypeRule type_parts Counted
type_rules_formed = (
  λ xa h. filled (λ ya. TypeFormed t_unit ya) (record { parts = refl; width = tt; counted = refl }) h,
  (
    λ xa h. filled (λ ya. TypeFormed t_bool ya) (record { parts = refl; width = tt; counted = refl }) h,
    (
      λ xa h. record {
        parts = filled (λ ya. type_parts t_bits (values ya) ≡ part_values ya) (λ x. refl) h;
        width = h;
        counted = filled (λ ya. Counted t_bits (values ya)) (λ x. refl) h;
      },
      (
        λ xa h. filled (λ ya. TypeFormed t_float ya) (λ x. record { parts = refl; width = tt; counted = refl }) h,
        (
          λ xa h. filled (λ ya. TypeFormed t_pointer ya) (record { parts = refl; width = tt; counted = refl }) h,
          (
            λ xa h. filled (λ ya. TypeFormed t_array ya) (λ x y. record { parts = refl; width = tt; counted = refl }) h,
            (
              λ xa h. record { parts = all_parts h; width = tt; counted = tt },
              (
                λ xa h. record { parts = all_parts h; width = tt; counted = tt },
                (
                  λ xa h. filled (λ ya. TypeFormed t_opaque ya) (λ x. record { parts = refl; width = tt; counted = refl }) h,
                  tt,
                ),
              ),
            ),
          ),
        ),
      ),
    ),
  ),
)

NodeRule : Rule NodeWord → Type 0
NodeRule r = (xa : List Arg) → Args r.fields r.rest xa → NumbersFormed r.make xa

node_rules_formed : All NodeRule node_rules
unfolding All NodeRule nodes_of_node places_of_node
node_rules_formed = (
  λ xa. filled (NumbersFormed n_bool) (λ x. record { nodes = refl; places = refl; of_bool = λ e. refl }),
  (
    λ xa. filled (NumbersFormed n_int) (λ x. record { nodes = refl; places = refl; of_bool = λ e. cc }),
    (
      λ xa. filled (NumbersFormed n_f32) (λ x. record { nodes = refl; places = refl; of_bool = λ e. cc }),
      (
        λ xa. filled (NumbersFormed n_f64) (λ x. record { nodes = refl; places = refl; of_bool = λ e. cc }),
        (
          λ xa. filled (NumbersFormed n_null) (record { nodes = refl; places = refl; of_bool = λ e. cc }),
          (
            λ xa. filled (NumbersFormed n_static_address) (λ x y. record { nodes = refl; places = refl; of_bool = λ e. cc }),
            (
              λ xa. filled (NumbersFormed n_function) (λ x. record { nodes = refl; places = refl; of_bool = λ e. cc }),
              (
                λ xa. filled (NumbersFormed n_read) (λ x. record { nodes = refl; places = refl; of_bool = λ e. cc }),
                (
                  λ xa. filled (NumbersFormed n_unary) (λ x y. record { nodes = refl; places = refl; of_bool = λ e. cc }),
                  (
                    λ xa. filled (NumbersFormed n_binary) (λ x y z. record { nodes = refl; places = refl; of_bool = λ e. cc }),
                    (
                      λ xa. filled (NumbersFormed n_funary) (λ x. record { nodes = refl; places = refl; of_bool = λ e. cc }),
                      (
                        λ xa. filled (NumbersFormed n_fbinary) (λ x y. record { nodes = refl; places = refl; of_bool = λ e. cc }),
                        (
                          λ xa. filled (NumbersFormed n_compare) (λ x y z. record { nodes = refl; places = refl; of_bool = λ e. cc }),
                          (
                            λ xa. filled (NumbersFormed n_convert) (λ x y. record { nodes = refl; places = refl; of_bool = λ e. cc }),
                            (
                              λ xa. filled (NumbersFormed n_select) (λ x y z. record { nodes = refl; places = refl; of_bool = λ e. cc }),
                              (
                                λ xa. filled (NumbersFormed n_address) (λ x. record { nodes = refl; places = refl; of_bool = λ e. cc }),
                                (
                                  λ xa. filled (NumbersFormed n_offset) (λ x y. record { nodes = refl; places = refl; of_bool = λ e. cc }),
                                  (
                                    λ xa h. record { nodes = all_nodes h; places = no_places h; of_bool = λ e. cc },
                                    (
                                      λ xa. filled (NumbersFormed n_extract) (λ x y. record { nodes = refl; places = refl; of_bool = λ e. cc }),
                                      (
                                        λ xa. filled (NumbersFormed n_insert) (λ x y z. record { nodes = refl; places = refl; of_bool = λ e. cc }),
                                        tt,
                                      ),
                                    ),
                                  ),
                                ),
                              ),
                            ),
                          ),
                        ),
                      ),
                    ),
                  ),
                ),
              ),
            ),
          ),
        ),
      ),
    ),
  ),
)

PlaceRule : Rule PlaceWord → Type 0
PlaceRule r = (xa : List Arg) → Args r.fields r.rest xa → PlaceFormed r.make xa

place_rules_formed : All PlaceRule place_rules
unfolding All PlaceRule nodes_of_place places_of_place
place_rules_formed = (
  λ xa. filled (PlaceFormed p_variable) (λ x. record { nodes = refl; places = refl }),
  (
    λ xa. filled (PlaceFormed p_static) (λ x. record { nodes = refl; places = refl }),
    (
      λ xa. filled (PlaceFormed p_field) (λ x y. record { nodes = refl; places = refl }),
      (
        λ xa. filled (PlaceFormed p_element) (λ x y. record { nodes = refl; places = refl }),
        (
          λ xa. filled (PlaceFormed p_offset) (λ x y. record { nodes = refl; places = refl }),
          tt,
        ),
      ),
    ),
  ),
)

-- ---------------------------------------------------------------- from the text

-- the head before its numbers, if there are any such
abbrev behind : Head → Option (List Arg) → Option Line
behind h None = None
behind h (Some xa) = Some (record { head = h; args = xa })

behind_formed : (h : Head) (o : Option (List Arg)) (l : Line) → behind h o ≡ Some l → ((xa : List Arg) → o ≡ Some xa → Formed h xa)
    → Formed l.head l.args
behind_formed h None l e f = absurd (none-some _ e)
behind_formed h (Some xa) l e f = rw (← same_Some _ _ e) (f xa refl)

type_formed : (ws : List (List ℕ)) (l : Line) → type_form ws ≡ Some l → Formed l.head l.args
unfolding type_form TypeRule
type_formed [] l e = absurd (none-some _ e)
type_formed (w ∷ ws) l e = by (find type_rules w) refl
  where
    by : (o : Option (Rule TypeWord)) → find type_rules w ≡ o → Formed l.head l.args
    by None p = absurd (none-some _ (rw p at e))
    by (Some r) p =
        behind_formed (t_line r.make) (args_of r.fields r.rest ws) l (rw p at e)
        (λ xa q. found TypeRule type_rules w r type_rules_formed p xa (args_formed r.fields r.rest ws xa q))

place_formed : (ws : List (List ℕ)) (l : Line) → place_form ws ≡ Some l → Formed l.head l.args
unfolding place_form PlaceRule
place_formed [] l e = absurd (none-some _ e)
place_formed (w ∷ ws) l e = by (find place_rules w) refl
  where
    by : (o : Option (Rule PlaceWord)) → find place_rules w ≡ o → Formed l.head l.args
    by None p = absurd (none-some _ (rw p at e))
    by (Some r) p =
        behind_formed (p_line r.make) (args_of r.fields r.rest ws) l (rw p at e)
        (λ xa q. found PlaceRule place_rules w r place_rules_formed p xa (args_formed r.fields r.rest ws xa q))

node_args : (r : Rule NodeWord) (xa : List Arg) → NodeRule r → Args (type ∷ r.fields) r.rest xa → NodeFormed r.make xa
unfolding NodeRule
node_args r xa f (next ty rest) = node_formed ty (f _ rest)

node_line_formed : (ws : List (List ℕ)) (l : Line) → node_form ws ≡ Some l → Formed l.head l.args
unfolding node_form
node_line_formed [] l e = absurd (none-some _ e)
node_line_formed (t ∷ []) l e = absurd (none-some _ e)
node_line_formed (t ∷ w ∷ ws) l e = by (find node_rules w) refl
  where
    by : (o : Option (Rule NodeWord)) → find node_rules w ≡ o → Formed l.head l.args
    by None p = absurd (none-some _ (rw p at e))
    by (Some r) p =
        behind_formed (n_line r.make) (args_of (type ∷ r.fields) r.rest (t ∷ ws)) l (rw p at e)
        (λ xa q. node_args r xa (found NodeRule node_rules w r node_rules_formed p) (args_formed (type ∷ r.fields) r.rest (t ∷ ws) xa q))

form_formed : (k : Kind) (ws : List (List ℕ)) (l : Line) → form_of k ws ≡ Some l → Formed l.head l.args
unfolding form_of
form_formed k_f ws l e = behind_formed f_line (args_of function_fields None ws) l e (args_formed function_fields None ws)
form_formed k_t ws l e = type_formed ws l e
form_formed k_s ws l e = behind_formed s_line (args_of storage_fields None ws) l e (args_formed storage_fields None ws)
form_formed k_v ws l e = behind_formed v_line (args_of placed_fields None ws) l e (args_formed placed_fields None ws)
form_formed k_g ws l e = behind_formed g_line (args_of placed_fields None ws) l e (args_formed placed_fields None ws)
form_formed k_p ws l e = place_formed ws l e
form_formed k_n ws l e = node_line_formed ws l e

pub line_formed : (s : List ℕ) (l : Line) → line_of s ≡ Some l → Formed l.head l.args
unfolding line_of
line_formed s l e = by (split comma s) refl
  where
    by_kind : (w : List ℕ) (ws : List (List ℕ)) → split comma s ≡ w ∷ ws → (o : Option (Rule Kind)) → find kind_rules w ≡ o
        → Formed l.head l.args
    by_kind w ws q None p = absurd (none-some _ (rw (q, p) at e))
    by_kind w ws q (Some r) p = form_formed r.make ws l (rw (q, p) at e)

    by : (fs : List (List ℕ)) → split comma s ≡ fs → Formed l.head l.args
    by [] q = absurd (none-some _ (rw q at e))
    by (w ∷ ws) q = by_kind w ws q (find kind_rules w) refl
