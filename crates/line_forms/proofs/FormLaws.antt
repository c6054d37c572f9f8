-- A line's form by its kind, its word's number and its numbers.
use mathlib.Core.Path.{◌≡◌, refl, sym, ap, ◌∙◌}
use mathlib.Core.Bool.{Bool, true, false}
use mathlib.Core.List.{List, ◌∷◌, map, []}
use Rattle.std.specs.Prelude.{Option, None, Some}
use Prim.Native.Nat.{ℕ, zero, suc, ◌≤◌}
use native.Mathlib.Omega.{arith}
use lib.Dec.{eqb, leb, eqb-suc-suc, leb-suc-suc, eqb-suc-zero, eqb-zero-suc, leb-zero, leb-suc-zero}
use lib.ListN.{length, get_or, get_or-map}
use borrow.Author.Tests.{leb-true}
use Rattle.spec.specs.Text.{bytes, same, split, number, comma}
use Rattle.tables.specs.Tables.{tab, pick, type_word_by, place_word_by, node_word_by}
use Rattle.fields.specs.Fields.{position, numbers_of, cons_number, onto, Taken, taken, first_word, WordAt, first_number, NumberAt, fields_from}
use Rattle.spec.specs.Ticket.{t_unit, p_variable, NodeWord, n_null}
use Rattle.spec.specs.Forms.{Field, type, Rule, rule, type_rules, place_rules, node_rules, find, Arg, t_line, p_line, n_line, Line, cons_arg, rest_args, args_of, line_with, by_rule, type_form, place_form, node_form, form_of, k_f, k_s, k_v, k_g}
use Rattle.line_forms.specs.Classes.{type_rule, place_rule, node_rule, head_of, fields_of, rest_of, class_in, class_at, fits, arg_at, form_by_number, kind_of, type_words, place_words, node_words}
use Rattle.line_forms.specs.declared.LineKind.{LineKind}
use Rattle.line_forms.specs.declared.LineKind.TheVariants.{Functions, Types, Storages, Variables, Statics, Places, Nodes}

-- ---------------------------------------------------------------- a rule's numbers

arg_list : (ℕ → Field) → List ℕ → List Arg
arg_list k [] = []
arg_list k (x ∷ xs) = record { class = k 0; value = x } ∷ arg_list (λ i. k (suc i)) xs

tab_shift : {A : Type 0} (f : ℕ → A) (j n : ℕ) → tab f (suc j) n ≡ tab (λ i. f (suc i)) j n
unfolding tab
tab_shift f j zero = refl
tab_shift f j (suc n) = rw (tab_shift f (suc j) n)

listed : (k : ℕ → Field) (xs : List ℕ) → arg_list k xs ≡ tab (arg_at k (λ i. get_or xs i 0)) 0 (length xs)
unfolding arg_list tab arg_at
listed k [] = refl
listed k (x ∷ xs) = rw (listed (λ i. k (suc i)) xs, tab_shift (arg_at k (λ i. get_or (x ∷ xs) i 0)) 0 (length xs))

args_by : List Field → Option Field → Option (List ℕ) → Option (List Arg)
args_by fs r None = None
args_by fs r (Some xs) = pick (fits fs r (length xs)) (Some (arg_list (class_in fs r) xs)) None

-- one field more
module _ (f : Field) (k : ℕ → Field) where
  cons_picked : (t : Bool) (x : ℕ) (xs : List ℕ) → cons_arg (k 0) (Some x) (pick t (Some (arg_list (λ i. k (suc i)) xs)) None) ≡ pick t (Some (arg_list k (x ∷ xs))) None
  unfolding arg_list
  cons_picked true x xs = refl
  cons_picked false x xs = refl

cons_by : (f : Field) (fs : List Field) (r : Option Field) (x : Option ℕ) (o : Option (List ℕ))
    → cons_arg f x (args_by fs r o) ≡ args_by (f ∷ fs) r (cons_number x o)
unfolding args_by arg_list class_in
cons_by f fs r None o = refl
cons_by f fs r (Some x) None = refl
cons_by f fs None (Some x) (Some xs) = rw (eqb-suc-suc) (cons_picked f (class_in (f ∷ fs) None) (eqb (length xs) (length fs)) x xs)
cons_by f fs (Some g) (Some x) (Some xs) = rw (leb-suc-suc) (cons_picked f (class_in (f ∷ fs) (Some g)) (leb (length fs) (length xs)) x xs)

rest_by : (r : Option Field) (ws : List (List ℕ)) → rest_args r ws ≡ args_by [] r (numbers_of ws)
unfolding rest_args args_by numbers_of arg_list class_in
rest_by None [] = refl
rest_by (Some g) [] = refl
rest_by None (w ∷ ws) = by (number w) (numbers_of ws)
  where
    by : (x : Option ℕ) (o : Option (List ℕ)) → None ≡ args_by [] None (cons_number x o)
    by None o = refl
    by (Some x) None = refl
    by (Some x) (Some xs) = rw (eqb-suc-zero)
rest_by (Some g) (w ∷ ws) = rw (rest_by (Some g) ws) (by (number w) (numbers_of ws))
  where
    by : (x : Option ℕ) (o : Option (List ℕ)) → cons_arg g x (args_by [] (Some g) o) ≡ args_by [] (Some g) (cons_number x o)
    by None o = refl
    by (Some x) None = refl
    by (Some x) (Some xs) = rw (leb-zero (length xs), leb-zero (suc (length xs)))

none_by : (f : Field) (fs : List Field) (r : Option Field) → None ≡ args_by (f ∷ fs) r (Some [])
unfolding args_by arg_list
none_by f fs None = rw (eqb-zero-suc)
none_by f fs (Some g) = rw (leb-suc-zero)

args_law : (fs : List Field) (r : Option Field) (ws : List (List ℕ)) → args_of fs r ws ≡ args_by fs r (numbers_of ws)
unfolding args_of numbers_of
args_law [] r ws = rest_by r ws
args_law (f ∷ fs) r [] = none_by f fs r
args_law (f ∷ fs) r (w ∷ ws) = rw (args_law fs r ws) (cons_by f fs r (number w) (numbers_of ws))

pub form_law : (k : LineKind) (w : ℕ) (ws : List (List ℕ)) → line_with (head_of k w) (args_of (fields_of k w) (rest_of k w) ws) ≡ form_by_number k w (numbers_of ws)
unfolding form_by_number args_by class_at
form_law k w ws = rw (args_law (fields_of k w) (rest_of k w) ws) (by (numbers_of ws))
  where
    picked : (t : Bool) (a : List Arg) → line_with (head_of k w) (pick t (Some a) None) ≡ pick t (Some (record { head = head_of k w; args = a })) None
    picked true a = refl
    picked false a = refl

    by : (o : Option (List ℕ)) → line_with (head_of k w) (args_by (fields_of k w) (rest_of k w) o) ≡ form_by_number k w o
    by None = refl
    by (Some xs) = rw (← listed (class_in (fields_of k w) (rest_of k w)) xs) (picked (fits (fields_of k w) (rest_of k w) (length xs)) (arg_list (class_in (fields_of k w) (rest_of k w)) xs))

-- ---------------------------------------------------------------- no rule has more than four fields of their own classes

-- what holds of each rule and of the one past the end
both : List Bool → Bool
both [] = true
both (b ∷ bs) = pick b (both bs) false

both_at : (bs : List Bool) (w : ℕ) → both bs ≡ true → get_or bs w true ≡ true
unfolding both
both_at [] w h = refl
both_at (true ∷ bs) zero h = refl
both_at (true ∷ bs) (suc w) h = both_at bs w h
both_at (false ∷ bs) w h = cc

short : {A : Type 0} → ℕ → Rule A → Bool
short n r = leb (length r.fields) n

module _ {A : Type 0} (rs : List (Rule A)) (d : Rule A) (n : ℕ) (h : both (map (short n) rs) ≡ true) (g : short n d ≡ true) (w : ℕ) where
  all_short : length (get_or rs w d).fields ≤ n
  unfolding short
  all_short = leb-true (length (get_or rs w d).fields) n (sym (get_or-map (short n) rs w d) ∙ rw g (both_at (map (short n) rs) w h))

-- behind a rule's fields all are of one class
class_past : (fs : List Field) (r : Option Field) (m i : ℕ) → length fs ≤ m → m ≤ i → class_in fs r i ≡ class_in fs r m
unfolding class_in
class_past [] None m i h l = refl
class_past [] (Some f) m i h l = refl
class_past (f ∷ fs) r zero i h l = absurd (omega arith)
class_past (f ∷ fs) r (suc m) zero h l = absurd (omega arith)
class_past (f ∷ fs) r (suc m) (suc i) h l = class_past fs r m i (omega arith) (omega arith)

types_short : (w : ℕ) → length (type_rule w).fields ≤ 2
unfolding type_rule both short
types_short w = all_short type_rules (rule "unit" t_unit []) 2 refl refl w

places_short : (w : ℕ) → length (place_rule w).fields ≤ 2
unfolding place_rule both short
places_short w = all_short place_rules (rule "variable" p_variable []) 2 refl refl w

nodes_short : (w : ℕ) → length (node_rule w).fields ≤ 3
unfolding node_rule both short
nodes_short w = all_short node_rules (rule "null" n_null []) 3 refl refl w

-- no line has more than four fields of their own classes
fields_short : (k : LineKind) (w : ℕ) → length (fields_of k w) ≤ 4
fields_short Functions w = omega arith
fields_short Types w = omega (arith, types_short w)
fields_short Storages w = omega arith
fields_short Variables w = omega arith
fields_short Statics w = omega arith
fields_short Places w = omega (arith, places_short w)
fields_short Nodes w = omega (arith, nodes_short w)

pub class_later : (k : LineKind) (w i : ℕ) → 4 ≤ i → class_at k w i ≡ class_at k w 4
unfolding class_at
class_later k w i h = class_past (fields_of k w) (rest_of k w) 4 i (fields_short k w) h

-- ---------------------------------------------------------------- words

words : {A : Type 0} → List (Rule A) → List (List ℕ)
words rs = map (λ r. bytes r.word) rs

rule_at : {A : Type 0} → List (Rule A) → Rule A → Option ℕ → Option (Rule A)
rule_at rs d None = None
rule_at rs d (Some k) = Some (get_or rs k d)

find_at : {A : Type 0} (rs : List (Rule A)) (d : Rule A) (w : List ℕ) → find rs w ≡ rule_at rs d (position w (words rs))
unfolding find position words rule_at
find_at [] d w = refl
find_at (r ∷ rs) d w = by (same (bytes r.word) w) refl (find_at rs d w)
  where
    after : (o : Option ℕ) → rule_at rs d o ≡ rule_at (r ∷ rs) d (elim o as (λ x. Option ℕ) [ None ↦ None | Some k ↦ Some (suc k) ])
    after None = refl
    after (Some k) = refl

    by : (t : Bool) → same (bytes r.word) w ≡ t → find rs w ≡ rule_at rs d (position w (words rs)) → find (r ∷ rs) w ≡ rule_at (r ∷ rs) d (position w (words (r ∷ rs)))
    by true e h = rw (find, position, e)
    by false e h = rw (find, position, e, h) (after (position w (words rs)))

-- a first word, as a function of the fields goes on with it
module _ {B : Type 0} (F : List (List ℕ) → B) (G : Option ℕ → List (List ℕ) → B) (vs : List (List ℕ)) (h : (w : List ℕ) (ws : List (List ℕ)) → F (w ∷ ws) ≡ G (position w vs) ws) where
  word_took : (ws : List (List ℕ)) (k : ℕ) (rest : List (List ℕ)) → Some (record { value = k; rest = rest }) ≡ first_word vs ws → F ws ≡ G (Some k) rest
  word_took [] k rest e = absurd (let z : ◌≡◌ {A = ℕ} 0 1 = cc in omega arith)
  word_took (w ∷ ws) k rest e = h w ws ∙ by (position w vs) e
    where
      by : (o : Option ℕ) → Some (record { value = k; rest = rest }) ≡ taken o ws → G o ws ≡ G (Some k) rest
      by None q = absurd (let z : ◌≡◌ {A = ℕ} 0 1 = cc in omega arith)
      by (Some x) q =
          let t : ◌≡◌ {A = Taken} (record { value = x; rest = ws }) (record { value = k; rest = rest }) = cc in
          rw (ap (λ (u : Taken). u.value) t, ap (λ (u : Taken). u.rest) t)

  word_missed : (b : B) → F [] ≡ b → ((ws : List (List ℕ)) → G None ws ≡ b) → (ws : List (List ℕ)) → None ≡ first_word vs ws → F ws ≡ b
  word_missed b e₀ e₁ [] e = e₀
  word_missed b e₀ e₁ (w ∷ ws) e = h w ws ∙ by (position w vs) e
    where
      by : (o : Option ℕ) → None ≡ taken o ws → G o ws ≡ b
      by None q = e₁ ws
      by (Some x) q = absurd (let z : ◌≡◌ {A = ℕ} 0 1 = cc in omega arith)

-- ---------------------------------------------------------------- types and places by their words

type_go : Option ℕ → List (List ℕ) → Option Line
type_go o ws = by_rule t_line [] (rule_at type_rules (rule "unit" t_unit []) o) ws

type_goes : (w : List ℕ) (ws : List (List ℕ)) → type_form (w ∷ ws) ≡ type_go (position w (split comma (bytes type_words))) ws
unfolding type_form type_go split words
type_goes w ws = ap (λ o. by_rule t_line [] o ws) (find_at type_rules (rule "unit" t_unit []) w)

place_go : Option ℕ → List (List ℕ) → Option Line
place_go o ws = by_rule p_line [] (rule_at place_rules (rule "variable" p_variable []) o) ws

place_goes : (w : List ℕ) (ws : List (List ℕ)) → place_form (w ∷ ws) ≡ place_go (position w (split comma (bytes place_words))) ws
unfolding place_form place_go split words
place_goes w ws = ap (λ o. by_rule p_line [] o ws) (find_at place_rules (rule "variable" p_variable []) w)

module _ (s : List ℕ) (p : ℕ) where
  pub type_word : (w next : ℕ) → WordAt s (bytes type_words) p (Some (w, next))
      → type_form (fields_from s p) ≡ form_by_number Types w (numbers_of (fields_from s next))
  unfolding type_go rule_at type_rule type_word_by
  type_word w next a =
      word_took type_form type_go (split comma (bytes type_words)) type_goes
      (fields_from s p) w (fields_from s next) a.answer
      ∙ form_law Types w (fields_from s next)

  pub type_unknown : WordAt s (bytes type_words) p None → None ≡ type_form (fields_from s p)
  unfolding type_go rule_at type_form
  type_unknown a =
      sym (word_missed type_form type_go (split comma (bytes type_words)) type_goes
      None refl (λ ws. refl) (fields_from s p) a.answer)

  pub place_word : (w next : ℕ) → WordAt s (bytes place_words) p (Some (w, next))
      → place_form (fields_from s p) ≡ form_by_number Places w (numbers_of (fields_from s next))
  unfolding place_go rule_at place_rule place_word_by
  place_word w next a =
      word_took place_form place_go (split comma (bytes place_words)) place_goes
      (fields_from s p) w (fields_from s next) a.answer
      ∙ form_law Places w (fields_from s next)

  pub place_unknown : WordAt s (bytes place_words) p None → None ≡ place_form (fields_from s p)
  unfolding place_go rule_at place_form
  place_unknown a =
      sym (word_missed place_form place_go (split comma (bytes place_words)) place_goes
      None refl (λ ws. refl) (fields_from s p) a.answer)

-- ---------------------------------------------------------------- nodes: TYPE, then the word

node_go : List ℕ → Option ℕ → List (List ℕ) → Option Line
node_go t o ws = by_rule n_line (type ∷ []) (rule_at node_rules (rule "null" n_null []) o) (t ∷ ws)

node_after : List ℕ → List (List ℕ) → Option Line
node_after t ws = node_form (t ∷ ws)

node_goes : (t w : List ℕ) (ws : List (List ℕ)) → node_after t (w ∷ ws) ≡ node_go t (position w (split comma (bytes node_words))) ws
unfolding node_form node_after node_go split words
node_goes t w ws = ap (λ o. by_rule n_line (type ∷ []) o (t ∷ ws)) (find_at node_rules (rule "null" n_null []) w)

no_number : (ws : List (List ℕ)) → None ≡ first_number ws → None ≡ node_form ws
unfolding node_form first_number numbers_of args_by
no_number [] e = refl
no_number (t ∷ []) e = refl
no_number (t ∷ w ∷ ws) e = by (number t) refl e (find node_rules w)
  where
    by : (o : Option ℕ) → number t ≡ o → None ≡ taken o (w ∷ ws) → (r : Option (Rule NodeWord)) → None ≡ by_rule n_line (type ∷ []) r (t ∷ ws)
    by None q e' None = refl
    by None q e' (Some r) = rw (args_law (type ∷ r.fields) r.rest (t ∷ ws), q)
    by (Some x) q e' r = absurd (let z : ◌≡◌ {A = ℕ} 0 1 = cc in omega arith)

onto_one : (x : ℕ) (o : Option (List ℕ)) → cons_number (Some x) o ≡ onto (x ∷ []) o
unfolding onto
onto_one x None = refl
onto_one x (Some xs) = refl

-- a first number, as a node's form goes on behind it
module _ (vs : List (List ℕ)) (ty : ℕ) (rest : List (List ℕ)) where
  node_no_word : (ws : List (List ℕ)) → Some (record { value = ty; rest = rest }) ≡ first_number ws → None ≡ first_word (split comma (bytes node_words)) rest
      → None ≡ node_form ws
  unfolding first_number node_form node_after node_go rule_at
  node_no_word [] e g = refl
  node_no_word (t ∷ ws) e g = by (number t) e
    where
      by : (o : Option ℕ) → Some (record { value = ty; rest = rest }) ≡ taken o ws → None ≡ node_after t ws
      by None q = absurd (let z : ◌≡◌ {A = ℕ} 0 1 = cc in omega arith)
      by (Some x) q =
          let u : ◌≡◌ {A = Taken} (record { value = x; rest = ws }) (record { value = ty; rest = rest }) = cc in
          rw (ap (λ (v : Taken). v.rest) u) (sym (word_missed (node_after t) (node_go t) (split comma (bytes node_words)) (node_goes t) None refl (λ ws. refl) rest g))

  node_took : (ws : List (List ℕ)) (k : ℕ) (rest' : List (List ℕ)) → Some (record { value = ty; rest = rest }) ≡ first_number ws
      → Some (record { value = k; rest = rest' }) ≡ first_word (split comma (bytes node_words)) rest
      → node_form ws ≡ form_by_number Nodes k (onto (ty ∷ []) (numbers_of rest'))
  unfolding first_number node_form node_after node_go rule_at node_rule node_word_by numbers_of
  node_took [] k rest' e g = absurd (let z : ◌≡◌ {A = ℕ} 0 1 = cc in omega arith)
  node_took (t ∷ ws) k rest' e g = by (number t) refl e
    where
      by : (o : Option ℕ) → number t ≡ o → Some (record { value = ty; rest = rest }) ≡ taken o ws
          → node_after t ws ≡ form_by_number Nodes k (onto (ty ∷ []) (numbers_of rest'))
      by None n q = absurd (let z : ◌≡◌ {A = ℕ} 0 1 = cc in omega arith)
      by (Some x) n q =
          let u : ◌≡◌ {A = Taken} (record { value = x; rest = ws }) (record { value = ty; rest = rest }) = cc in
          rw (ap (λ (v : Taken). v.rest) u)
          (word_took (node_after t) (node_go t) (split comma (bytes node_words)) (node_goes t) rest k rest' g
          ∙ form_law Nodes k (t ∷ rest')
          ∙ rw (n, ap (λ (v : Taken). v.value) u, onto_one ty (numbers_of rest')))

module _ (s : List ℕ) (p : ℕ) where
  pub node_malformed : NumberAt s p None → None ≡ node_form (fields_from s p)
  node_malformed a = no_number (fields_from s p) a.answer

  module _ (ty behind : ℕ) (a : NumberAt s p (Some (ty, behind))) where
    pub node_unknown : WordAt s (bytes node_words) behind None → None ≡ node_form (fields_from s p)
    node_unknown b = node_no_word [] ty (fields_from s behind) (fields_from s p) a.answer b.answer

    pub node_word : (w next : ℕ) → WordAt s (bytes node_words) behind (Some (w, next))
        → node_form (fields_from s p) ≡ form_by_number Nodes w (onto (ty ∷ []) (numbers_of (fields_from s next)))
    node_word w next b =
        node_took [] ty (fields_from s behind) (fields_from s p) w (fields_from s next) a.answer b.answer

-- ---------------------------------------------------------------- kinds without words

module _ (ws : List (List ℕ)) where
  pub function_form : form_of k_f ws ≡ form_by_number Functions 0 (numbers_of ws)
  unfolding form_of
  function_form = form_law Functions 0 ws

  pub storage_form : form_of k_s ws ≡ form_by_number Storages 0 (numbers_of ws)
  unfolding form_of
  storage_form = form_law Storages 0 ws

  pub variable_form : form_of k_v ws ≡ form_by_number Variables 0 (numbers_of ws)
  unfolding form_of
  variable_form = form_law Variables 0 ws

  pub static_form : form_of k_g ws ≡ form_by_number Statics 0 (numbers_of ws)
  unfolding form_of
  static_form = form_law Statics 0 ws

pub plain_form : (k : LineKind) → (k ≡ Types → ⊥) → (k ≡ Places → ⊥) → (k ≡ Nodes → ⊥) → (ws : List (List ℕ)) → form_of (kind_of k) ws ≡ form_by_number k 0 (numbers_of ws)
plain_form Functions h₁ h₂ h₃ ws = function_form ws
plain_form Types h₁ h₂ h₃ ws = absurd (h₁ refl)
plain_form Storages h₁ h₂ h₃ ws = storage_form ws
plain_form Variables h₁ h₂ h₃ ws = variable_form ws
plain_form Statics h₁ h₂ h₃ ws = static_form ws
plain_form Places h₁ h₂ h₃ ws = absurd (h₂ refl)
plain_form Nodes h₁ h₂ h₃ ws = absurd (h₃ refl)
