-- The n and S that bound a listing, of the text: its `n` lines are counted, and `type_size` of their TYPE fields added up.
use Prim.Native.Nat.{ℕ, suc, ◌+◌}
use mathlib.Core.Bool.{Bool, true, false}
use mathlib.Core.List.{List, [], ◌∷◌}
use Rattle.std.specs.Prelude.{Option, None, Some}
use Rattle.std.proofs.lemmas.Option.{none-some, same_Some}
use mathlib.Core.Path.{◌≡◌, refl, sym, ap, ◌∙◌}
use native.Mathlib.Omega.{arith}
use borrow.Author.Tests.{eqb-true}
use lib.Dec.{leb, eqb}
use lib.ListN.{length}
use Rattle.spec.specs.Text.{bytes, same, split, number, comma, line_feed}
use Rattle.spec.specs.Limits.{text_limit, type_depth_limit}
use Rattle.spec.specs.Ticket.{Tables, NodeLine, NodeWord, TypeWord, PlaceWord, arg, type_size_in}
use Rattle.spec.specs.Forms.{
  Field,
  type,
  Rule,
  find,
  type_rules,
  place_rules,
  node_rules,
  kind_rules,
  Arg,
  Head,
  f_line,
  s_line,
  v_line,
  g_line,
  t_line,
  p_line,
  n_line,
  Line,
  args_of,
  type_form,
  place_form,
  node_form,
  Kind,
  k_f,
  k_t,
  k_s,
  k_v,
  k_g,
  k_p,
  k_n,
  function_fields,
  storage_fields,
  placed_fields,
  form_of,
  line_of,
  values,
}
use Rattle.spec.specs.Read.{
  Reading,
  refusal_of,
  add_line,
  add,
  Step,
  stop,
  go,
  step,
  refused,
  accepted,
  left_over,
  at_end,
  read_lines,
  start,
  read_ticket,
}
use Rattle.spec.specs.Readable.{All, line_sum}
use Rattle.spec.specs.Demands.{total_size, Costs}
use Rattle.spec.specs.Answer as answering
use Rattle.spec.proofs.Bools.{and_left, and_right}
use Rattle.spec.proofs.ReadingForms.{found}
use Rattle.spec.proofs.ReadingPool.{line_sum_append}
use Rattle.spec.proofs.Demand3.{demand_3}

-- ---------------------------------------------------------------- of the text

abbrev number_or_0 : Option ℕ → ℕ
number_or_0 None = 0
number_or_0 (Some n) = n

-- f of the number in the second field
abbrev of_type : (ℕ → ℕ) → List (List ℕ) → ℕ
of_type f [] = f 0
of_type f (t ∷ ws) = f (number_or_0 (number t))

-- a line's fields: only where the first is `n` it counts
abbrev of_fields : (ℕ → ℕ) → List (List ℕ) → ℕ
of_fields f [] = 0
of_fields f (w ∷ ws) = elim (same (bytes "n") w) [ true ↦ of_type f ws | false ↦ 0 ]

-- f of the TYPE of every `n` line, added up
unfoldable pub text_sum : (ℕ → ℕ) → List (List ℕ) → ℕ
text_sum f [] = 0
text_sum f (l ∷ ls) = of_fields f (split comma l) + text_sum f ls

unfoldable pub text_nodes : List ℕ → ℕ
text_nodes ticket = text_sum (λ ty. 1) (split line_feed ticket)

unfoldable pub text_size : Tables → List ℕ → ℕ
text_size T ticket = text_sum (λ ty. type_size_in type_depth_limit T ty) (split line_feed ticket)

-- ---------------------------------------------------------------- a line

same_true : (xs ys : List ℕ) → same xs ys ≡ true → xs ≡ ys
unfolding same
same_true [] [] e = refl
same_true [] (y ∷ ys) e = cc
same_true (x ∷ xs) [] e = cc
same_true (x ∷ xs) (y ∷ ys) e =
    let a : x ≡ y = eqb-true x y (and_left _ _ e) in
    let b : xs ≡ ys = same_true xs ys (and_right (eqb x y) _ e) in
    cc

word_found : {A : Type 0} (rs : List (Rule A)) (w : List ℕ) (r : Rule A) → find rs w ≡ Some r → bytes r.word ≡ w
unfolding find
word_found [] w r e = absurd (none-some _ e)
word_found (s ∷ rs) w r e = by (same (bytes s.word) w) refl (λ q. word_found rs w r q)
  where
    by : (b : Bool) → same (bytes s.word) w ≡ b → (find rs w ≡ Some r → bytes r.word ≡ w) → bytes r.word ≡ w
    by true p later = let q : s ≡ r = same_Some _ _ (rw (p, find) at e) in rw (← q) (same_true (bytes s.word) w p)
    by false p later = later (rw (p, find) at e)

-- what a line that is read adds
abbrev of_head : (ℕ → ℕ) → Head → List Arg → ℕ
of_head f f_line xa = 0
of_head f s_line xa = 0
of_head f v_line xa = 0
of_head f g_line xa = 0
of_head f (t_line w) xa = 0
of_head f (p_line w) xa = 0
of_head f (n_line w) xa = f (arg (values xa) 0)

abbrev behind : Head → Option (List Arg) → Option Line
behind h None = None
behind h (Some xa) = Some (record { head = h; args = xa })

abbrev of_kind : (ℕ → ℕ) → Kind → List (List ℕ) → ℕ
of_kind f k_f ws = 0
of_kind f k_t ws = 0
of_kind f k_s ws = 0
of_kind f k_v ws = 0
of_kind f k_g ws = 0
of_kind f k_p ws = 0
of_kind f k_n ws = of_type f ws

module _ (f : ℕ → ℕ) where
  behind_adds : (h : Head) (o : Option (List Arg)) (l : Line) → behind h o ≡ Some l → (n : ℕ) → ((xa : List Arg) → o ≡ Some xa → n ≡ of_head f h xa)
      → n ≡ of_head f l.head l.args
  behind_adds h None l e n g = absurd (none-some _ e)
  behind_adds h (Some xa) l e n g = rw (← same_Some _ _ e) (g xa refl)

  type_adds : (ws : List (List ℕ)) (l : Line) → type_form ws ≡ Some l → 0 ≡ of_head f l.head l.args
  unfolding type_form
  type_adds [] l e = absurd (none-some _ e)
  type_adds (w ∷ ws) l e = by (find type_rules w) refl
    where
      by : (o : Option (Rule TypeWord)) → find type_rules w ≡ o → 0 ≡ of_head f l.head l.args
      by None p = absurd (none-some _ (rw p at e))
      by (Some r) p = behind_adds (t_line r.make) (args_of r.fields r.rest ws) l (rw p at e) 0 (λ xa q. refl)

  place_adds : (ws : List (List ℕ)) (l : Line) → place_form ws ≡ Some l → 0 ≡ of_head f l.head l.args
  unfolding place_form
  place_adds [] l e = absurd (none-some _ e)
  place_adds (w ∷ ws) l e = by (find place_rules w) refl
    where
      by : (o : Option (Rule PlaceWord)) → find place_rules w ≡ o → 0 ≡ of_head f l.head l.args
      by None p = absurd (none-some _ (rw p at e))
      by (Some r) p = behind_adds (p_line r.make) (args_of r.fields r.rest ws) l (rw p at e) 0 (λ xa q. refl)

  -- the first number is the field's
  first_arg : (t : List ℕ) (g : Field) (fs : List Field) (rest : Option Field) (ws : List (List ℕ)) (xa : List Arg) → args_of (g ∷ fs) rest (t ∷ ws) ≡ Some xa
      → number_or_0 (number t) ≡ arg (values xa) 0
  unfolding args_of
  first_arg t g fs rest ws xa e = by (number t) refl (args_of fs rest ws) refl
    where
      by : (x : Option ℕ) → number t ≡ x → (o : Option (List Arg)) → args_of fs rest ws ≡ o → number_or_0 (number t) ≡ arg (values xa) 0
      by None p o q = absurd (none-some _ (rw p at e))
      by (Some x) p None q = absurd (none-some _ (rw (p, q) at e))
      by (Some x) p (Some ya) q = rw (← same_Some _ _ (rw (p, q) at e), p) refl

  node_adds : (ws : List (List ℕ)) (l : Line) → node_form ws ≡ Some l → of_type f ws ≡ of_head f l.head l.args
  unfolding node_form
  node_adds [] l e = absurd (none-some _ e)
  node_adds (t ∷ []) l e = absurd (none-some _ e)
  node_adds (t ∷ w ∷ ws) l e = by (find node_rules w) refl
    where
      by : (o : Option (Rule NodeWord)) → find node_rules w ≡ o → of_type f (t ∷ w ∷ ws) ≡ of_head f l.head l.args
      by None p = absurd (none-some _ (rw p at e))
      by (Some r) p =
          behind_adds (n_line r.make) (args_of (type ∷ r.fields) r.rest (t ∷ ws)) l (rw p at e) _
          (λ xa q. ap f (first_arg t type r.fields r.rest ws xa q))

  kind_adds : (k : Kind) (ws : List (List ℕ)) (l : Line) → form_of k ws ≡ Some l → of_kind f k ws ≡ of_head f l.head l.args
  unfolding form_of
  kind_adds k_f ws l e = behind_adds f_line (args_of function_fields None ws) l e 0 (λ xa q. refl)
  kind_adds k_t ws l e = type_adds ws l e
  kind_adds k_s ws l e = behind_adds s_line (args_of storage_fields None ws) l e 0 (λ xa q. refl)
  kind_adds k_v ws l e = behind_adds v_line (args_of placed_fields None ws) l e 0 (λ xa q. refl)
  kind_adds k_g ws l e = behind_adds g_line (args_of placed_fields None ws) l e 0 (λ xa q. refl)
  kind_adds k_p ws l e = place_adds ws l e
  kind_adds k_n ws l e = node_adds ws l e

  -- of the kinds' words only `n` counts
  words : (ws : List (List ℕ)) → All (λ r. of_fields f (bytes r.word ∷ ws) ≡ of_kind f r.make ws) kind_rules
  unfolding All same
  words ws = (refl, (refl, (refl, (refl, (refl, (refl, (refl, tt)))))))

  line_adds : (s : List ℕ) (l : Line) → line_of s ≡ Some l → of_fields f (split comma s) ≡ of_head f l.head l.args
  unfolding line_of
  line_adds s l e = by (split comma s) refl
    where
      by_kind : (w : List ℕ) (ws : List (List ℕ)) → split comma s ≡ w ∷ ws → (o : Option (Rule Kind)) → find kind_rules w ≡ o
          → of_fields f (w ∷ ws) ≡ of_head f l.head l.args
      by_kind w ws q None p = absurd (none-some _ (rw (q, p) at e))
      by_kind w ws q (Some r) p =
          ap (λ (v : List ℕ). of_fields f (v ∷ ws)) (sym (word_found kind_rules w r p))
          ∙ found (λ r. of_fields f (bytes r.word ∷ ws) ≡ of_kind f r.make ws) kind_rules w r (words ws) p
          ∙ kind_adds r.make ws l (rw (q, p) at e)

      by : (fs : List (List ℕ)) → split comma s ≡ fs → of_fields f fs ≡ of_head f l.head l.args
      by [] q = absurd (none-some _ (rw q at e))
      by (w ∷ ws) q = by_kind w ws q (find kind_rules w) refl

  head_adds : (T : Tables) (n : ℕ) (h : Head) (xa : List Arg) → line_sum f ((add_line T n h xa).nodes) ≡ line_sum f T.nodes + of_head f h xa
  unfolding add_line
  head_adds T n f_line xa = omega arith
  head_adds T n s_line xa = omega arith
  head_adds T n v_line xa = omega arith
  head_adds T n g_line xa = omega arith
  head_adds T n (t_line w) xa = omega arith
  head_adds T n (p_line w) xa = omega arith
  head_adds T n (n_line w) xa = line_sum_append f T.nodes _

  -- ------------------------------------------------------------ the text

  refused≢accepted : {n l : ℕ} {T : Tables} → refused n l ≡ accepted T → ⊥
  refused≢accepted {n} {l} {T} e = let z : ◌≡◌ {A = ℕ} 0 1 = cc in omega arith

  stop≢go : {n : ℕ} {R : Reading} → stop n ≡ go R → ⊥
  stop≢go {n} {R} e = let z : ◌≡◌ {A = ℕ} 0 1 = cc in omega arith

  step_adds : (R R' : Reading) (s : List ℕ) → step R (line_of s) ≡ go R'
      → line_sum f (R'.tables.nodes) ≡ line_sum f (R.tables.nodes) + of_fields f (split comma s)
  unfolding step add
  step_adds R R' s e = by (line_of s) refl
    where
      by_refusal : (l : Line) → line_of s ≡ Some l → (o : Option ℕ) → refusal_of R l ≡ o
          → line_sum f (R'.tables.nodes) ≡ line_sum f (R.tables.nodes) + of_fields f (split comma s)
      by_refusal l q (Some n) p = absurd (stop≢go (rw (q, p) at e))
      by_refusal l q None p =
          let e' : go (add R l) ≡ go R' = rw (q, p) at e in
          let r : add R l ≡ R' = cc in
          let a = head_adds R.tables (suc R.lines) l.head l.args in
          rw (← r, line_adds s l q) a

      by : (o : Option Line) → line_of s ≡ o → line_sum f (R'.tables.nodes) ≡ line_sum f (R.tables.nodes) + of_fields f (split comma s)
      by None q = absurd (stop≢go (rw q at e))
      by (Some l) q = by_refusal l q (refusal_of R l) refl

  end_adds : (R : Reading) (T : Tables) → at_end R ≡ accepted T → line_sum f T.nodes ≡ line_sum f (R.tables.nodes)
  unfolding at_end
  end_adds R T e = by (left_over R) refl (eqb (length (R.tables.nodes)) 0) refl
    where
      by : (o : Option ℕ) → left_over R ≡ o → (b : Bool) → eqb (length (R.tables.nodes)) 0 ≡ b → line_sum f T.nodes ≡ line_sum f (R.tables.nodes)
      by (Some n) q b p = absurd (refused≢accepted (rw q at e))
      by None q true p = absurd (refused≢accepted (rw (q, p) at e))
      by None q false p =
          let e' : accepted R.tables ≡ accepted T = rw (q, p) at e in
          let r : R.tables ≡ T = cc in
          rw (← r) refl

  no_line : of_fields f (split comma []) ≡ 0
  unfolding split same
  no_line = refl

  lines_add : (ls : List (List ℕ)) (R : Reading) (T : Tables) → read_lines ls R ≡ accepted T
      → line_sum f T.nodes ≡ line_sum f (R.tables.nodes) + text_sum f ls
  unfolding read_lines text_sum
  lines_add [] R T e = let a = end_adds R T e in omega arith
  lines_add ([] ∷ []) R T e = let a = end_adds R T e in let b = no_line in omega arith
  lines_add ((x ∷ xs) ∷ []) R T e = absurd (refused≢accepted e)
  lines_add (l ∷ m ∷ ls) R T e = by (step R (line_of l)) refl (λ R'. lines_add (m ∷ ls) R' T)
    where
      by : (o : Step) → step R (line_of l) ≡ o
          → ((R' : Reading) → read_lines (m ∷ ls) R' ≡ accepted T → line_sum f T.nodes ≡ line_sum f (R'.tables.nodes) + text_sum f (m ∷ ls))
          → line_sum f T.nodes ≡ line_sum f (R.tables.nodes) + text_sum f (l ∷ m ∷ ls)
      by (stop n) q later = absurd (refused≢accepted (rw (q, read_lines) at e))
      by (go R') q later =
          let a = step_adds R R' l q in
          let b = later R' (rw (q, read_lines) at e) in
          omega arith

  pub text_adds : (s : List ℕ) (T : Tables) → read_ticket s ≡ accepted T → line_sum f T.nodes ≡ text_sum f (split line_feed s)
  unfolding read_ticket line_sum
  text_adds s T e = by (leb (length s) text_limit) refl
    where
      by : (b : Bool) → leb (length s) text_limit ≡ b → line_sum f T.nodes ≡ text_sum f (split line_feed s)
      by false q = absurd (refused≢accepted (rw (q, read_ticket) at e))
      by true q = let a = lines_add (split line_feed s) start T (rw (q, read_ticket) at e) in omega arith

-- ---------------------------------------------------------------- n and S

ones : (ns : List NodeLine) → line_sum (λ ty. 1) ns ≡ length ns
unfolding line_sum
ones [] = refl
ones (n ∷ ns) = let a = ones ns in omega arith

pub counted : (s : List ℕ) (T : Tables) → read_ticket s ≡ accepted T → length T.nodes ≡ text_nodes s
unfolding text_nodes
counted s T e = sym (ones T.nodes) ∙ text_adds (λ ty. 1) s T e

pub sized : (s : List ℕ) (T : Tables) → read_ticket s ≡ accepted T → total_size T ≡ text_size T s
unfolding text_size total_size
sized s T e = text_adds (λ ty. type_size_in type_depth_limit T ty) s T e

-- what a listing costs, with n and S of the text
pub costs_of_the_text : (ticket buffer s : List ℕ) (T : Tables) → read_ticket ticket ≡ accepted T → answering.answer ticket (length buffer) ≡ answering.accepted s
    → Costs (text_size T ticket) (text_nodes ticket) (length T.storages) s
costs_of_the_text ticket buffer s T r a = rw (← counted ticket T r, ← sized ticket T r) (demand_3 ticket buffer s T r a)
