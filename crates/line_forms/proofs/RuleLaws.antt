-- The code's tables of rules are those of `Forms`.
use mathlib.Core.Path.{◌≡◌, refl, sym, ap, ◌∙◌}
use mathlib.Core.List.{List, map, ◌∷◌, []}
use Rattle.std.specs.Prelude.{Option, None, Some, option_map, unwrap_or}
use Prim.Native.Nat.{ℕ, zero, suc, ◌≤◌, ◌<◌}
use native.Mathlib.Omega.{arith}
use lib.ListN.{length, get_or, get_or-map}
use Rattle.spec.specs.Limits.{greatest_16}
use Rattle.spec.specs.Ticket.{t_unit, p_variable, n_null}
use Rattle.spec.specs.Forms.{Field, up_to, type, rule, type_rules, place_rules, node_rules}
use Rattle.line_forms.specs.declared.Rule.{Rule}
use Rattle.line_forms.specs.declared.Class.{Class}
use Rattle.line_forms.specs.declared.LineKind.{LineKind}
use Rattle.line_forms.specs.declared.LineKind.TheVariants.{Types, Places, Nodes}
use Rattle.line_forms.specs.Classes.{field_of, class_in, class_at, type_rule, place_rule, node_rule}
use Rattle.line_forms.specs.Rules.{RuleIn, RuleOf}

-- two tables that say the same of each word, and of none
column : {A B C : Type 0} (xs : List A) (a : A) (ys : List B) (b : B) (g : A → C) (h : B → C) → map g xs ≡ map h ys → g a ≡ h b → (w : ℕ) → g (get_or xs w a) ≡ h (get_or ys w b)
column xs a ys b g h e e₀ w = sym (get_or-map g xs w a) ∙ rw (e, e₀) (get_or-map h ys w b)

abbrev pub view : Rule → List Field × Option Field
view r = (map field_of r.0.now, option_map field_of r.1)

module _ (k : LineKind) (w : ℕ) (rs : List Rule) (d r : Rule) where
  pub types_rule : k ≡ Types → RuleIn rs w d r → map view rs ≡ map (λ r. (r.fields, r.rest)) type_rules → view d ≡ ([], None) → RuleOf k w r
  unfolding type_rule
  types_rule e g h h₀ =
      let c = column rs d type_rules (rule "unit" t_unit []) view (λ r. (r.fields, r.rest)) h h₀ w in
      rw (e, g.is) (record { fields = ap (λ (x : List Field × Option Field). x.0) c; rest = ap (λ (x : List Field × Option Field). x.1) c })

  pub places_rule : k ≡ Places → RuleIn rs w d r → map view rs ≡ map (λ r. (r.fields, r.rest)) place_rules → view d ≡ ([], None) → RuleOf k w r
  unfolding place_rule
  places_rule e g h h₀ =
      let c = column rs d place_rules (rule "variable" p_variable []) view (λ r. (r.fields, r.rest)) h h₀ w in
      rw (e, g.is) (record { fields = ap (λ (x : List Field × Option Field). x.0) c; rest = ap (λ (x : List Field × Option Field). x.1) c })

  pub nodes_rule : k ≡ Nodes → RuleIn rs w d r → map view rs ≡ map (λ r. (type ∷ r.fields, r.rest)) node_rules → view d ≡ (type ∷ [], None) → RuleOf k w r
  unfolding node_rule
  nodes_rule e g h h₀ =
      let c = column rs d node_rules (rule "null" n_null []) view (λ r. (type ∷ r.fields, r.rest)) h h₀ w in
      rw (e, g.is) (record { fields = ap (λ (x : List Field × Option Field). x.0) c; rest = ap (λ (x : List Field × Option Field). x.1) c })

-- the class of a field
here : (fs : List Class) (o : Option Field) (i : ℕ) (d : Class) → i < length fs → field_of (get_or fs i d) ≡ class_in (map field_of fs) o i
unfolding class_in
here [] o i d h = absurd (omega arith)
here (f ∷ fs) o zero d h = refl
here (f ∷ fs) o (suc i) d h = here fs o i d (omega arith)

past : (fs : List Class) (o : Option Class) (i : ℕ) (d : Class) → field_of d ≡ up_to greatest_16 → length fs ≤ i → field_of (unwrap_or o d) ≡ class_in (map field_of fs) (option_map field_of o) i
unfolding class_in
past [] None i d e h = e
past [] (Some f) i d e h = refl
past (f ∷ fs) o zero d e h = absurd (omega arith)
past (f ∷ fs) o (suc i) d e h = past fs o i d e (omega arith)

module _ (r : Rule) where
  pub class_here : (i : ℕ) (c : Class) → i < length r.0.now → ((d : Class) → c ≡ get_or r.0.now i d) → field_of c ≡ class_in (map field_of r.0.now) (option_map field_of r.1) i
  class_here i c h e = rw (e c) (here r.0.now (option_map field_of r.1) i c h)

  pub class_past : (i : ℕ) (c d : Class) → length r.0.now ≤ i → c ≡ unwrap_or r.1 d → field_of d ≡ up_to greatest_16 → field_of c ≡ class_in (map field_of r.0.now) (option_map field_of r.1) i
  class_past i c d h e g = rw e (past r.0.now r.1 i d g h)

-- by a kind's rule it is that of the kind's word
pub class_by : (k : LineKind) (w : ℕ) (r : Rule) (i : ℕ) (c : Field) → RuleOf k w r → c ≡ class_in (map field_of r.0.now) (option_map field_of r.1) i → c ≡ class_at k w i
unfolding class_at
class_by k w r i c a e = e ∙ rw (a.fields, a.rest)
