-- A line's form in the shape of the code's needs.
use mathlib.Core.Path.{◌≡◌, refl, sym, ◌∙◌}
use mathlib.Core.List.{List, ◌∷◌, []}
use Rattle.std.specs.Prelude.{Option, None, Some}
use mathlib.Core.Logic.{◌≢◌}
use Prim.Native.Nat.{ℕ, zero, suc, ◌≤◌, ◌<◌}
use native.Mathlib.Omega.{arith}
use lib.ListN.{length, get_or, set}
use lib.Seq.{get_or-set_same, get_or-set_other}
use Rattle.spec.specs.Text.{bytes}
use Rattle.tables.specs.Tables.{tab, run}
use Rattle.fields.specs.Fields.{numbers_of, onto, fields_from, WordAt, NumberAt}
use Rattle.fields.proofs.Tabs.{kept_all}
use Rattle.spec.specs.Forms.{Line, type_form, place_form, node_form, form_of, line_of}
use Rattle.line_forms.specs.Classes.{form_by_number, FormAt, kind_of, KindAt, type_words, place_words, node_words}
use Rattle.line_forms.specs.declared.LineKind.{LineKind}
use Rattle.line_forms.specs.declared.LineKind.TheVariants.{Types, Places, Nodes}
use Rattle.line_forms.specs.declared.Form.{Form}
use Rattle.line_forms.proofs.FormLaws.{type_word, type_unknown, place_word, place_unknown, node_malformed, node_unknown, node_word, plain_form}

pub form_none : (o : Option Line) (s u : List ℕ) (used : ℕ) → None ≡ o → FormAt o s u u used None
form_none o s u used e = record { answer = e; half = tt; kept = kept_all used u }

one_run : (u : List ℕ) (used ty : ℕ) → used < length u → ty ∷ [] ≡ run (set u used ty) used 1
unfolding run tab
one_run u used ty l = rw (get_or-set_same u used ty 0 l)

onto_run : (u : List ℕ) (used : ℕ) (o : Option (List ℕ)) → onto (run u used 0) o ≡ o
unfolding onto run tab
onto_run u used None = refl
onto_run u used (Some xs) = refl

module _ (s u : List ℕ) (used p : ℕ) (k : LineKind) where
  pub type_not : k ≡ Types → WordAt s (bytes type_words) p None → FormAt (form_of (kind_of k) (fields_from s p)) s u u used None
  unfolding form_of
  type_not e a = rw e (form_none (type_form (fields_from s p)) s u used (type_unknown s p a))

  pub place_not : k ≡ Places → WordAt s (bytes place_words) p None → FormAt (form_of (kind_of k) (fields_from s p)) s u u used None
  unfolding form_of
  place_not e a = rw e (form_none (place_form (fields_from s p)) s u used (place_unknown s p a))

module _ (s u t : List ℕ) (used p : ℕ) (f : Option Form) (k : LineKind) where
  -- a kind without words
  pub plain_formed : (k ≡ Types → ⊥) → (k ≡ Places → ⊥) → (k ≡ Nodes → ⊥) → FormAt (form_by_number k 0 (onto (run u used 0) (numbers_of (fields_from s p)))) s u t used f
      → FormAt (form_of (kind_of k) (fields_from s p)) s u t used f
  plain_formed h₁ h₂ h₃ a = rw (plain_form k h₁ h₂ h₃ (fields_from s p)) (rw (onto_run u used (numbers_of (fields_from s p))) at a)

  module _ (w next : ℕ) where
    pub type_formed : k ≡ Types → WordAt s (bytes type_words) p (Some (w, next))
        → FormAt (form_by_number k w (onto (run u used 0) (numbers_of (fields_from s next)))) s u t used f → FormAt (form_of (kind_of k) (fields_from s p)) s u t used f
    unfolding form_of
    type_formed e a b = rw (e, type_word s p w next a, ← onto_run u used (numbers_of (fields_from s next))) (rw e at b)

    pub place_formed : k ≡ Places → WordAt s (bytes place_words) p (Some (w, next))
        → FormAt (form_by_number k w (onto (run u used 0) (numbers_of (fields_from s next)))) s u t used f → FormAt (form_of (kind_of k) (fields_from s p)) s u t used f
    unfolding form_of
    place_formed e a b = rw (e, place_word s p w next a, ← onto_run u used (numbers_of (fields_from s next))) (rw e at b)

module _ (s u t : List ℕ) (used p : ℕ) (f : Option Form) where
  module _ (w next : ℕ) where
    pub node_formed : (ty behind : ℕ) → NumberAt s p (Some (ty, behind)) → WordAt s (bytes node_words) behind (Some (w, next)) → used < length u
        → FormAt (form_by_number Nodes w (onto (run (set u used ty) used 1) (numbers_of (fields_from s next)))) s (set u used ty) t used f
        → FormAt (node_form (fields_from s p)) s u t used f
    node_formed ty behind a b l x =
        record {
          answer = x.answer ∙ sym (node_word s p ty behind a w next b ∙ rw one);
          half = x.half;
          kept = record { same = λ i h. x.kept.same i h ∙ get_or-set_other u used i ty 0 (other i h) };
        }
      where
        one : ty ∷ [] ≡ run (set u used ty) used 1
        one = one_run u used ty l

        other : (i : ℕ) → i < used → i ≢ used
        other i h = omega arith

  pub nodes_formed : (k : LineKind) → k ≡ Nodes → FormAt (node_form (fields_from s p)) s u t used f → FormAt (form_of (kind_of k) (fields_from s p)) s u t used f
  unfolding form_of
  nodes_formed k e a = rw e a

pub line_formed : (s u t : List ℕ) (used : ℕ) (f : Option Form) (k : LineKind) → KindAt s (Some k) → FormAt (form_of (kind_of k) (fields_from s 2)) s u t used f → FormAt (line_of s) s u t used f
line_formed s u t used f k a b = rw a.right.0 b

pub line_not : (s u : List ℕ) (used : ℕ) → KindAt s None → FormAt (line_of s) s u u used None
line_not s u used a = form_none (line_of s) s u used a.right

pub ruleset formed = (form_none, plain_formed, type_formed, place_formed, node_formed, nodes_formed, node_malformed, node_unknown, line_formed, line_not)

pub get_d_inside : (l : List ℕ) (i a b : ℕ) → i < length l → get_or l i a ≡ get_or l i b
get_d_inside [] i a b h = absurd (omega arith)
get_d_inside (x ∷ l) zero a b h = refl
get_d_inside (x ∷ l) (suc i) a b h = get_d_inside l i a b (omega arith)

pub get_d_outside : (l : List ℕ) (i a : ℕ) → length l ≤ i → a ≡ get_or l i a
get_d_outside [] i a h = refl
get_d_outside (x ∷ l) zero a h = absurd (omega arith)
get_d_outside (x ∷ l) (suc i) a h = get_d_outside l i a (omega arith)
