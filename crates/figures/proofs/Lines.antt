-- Reading from line to line: a line's fields, the lines of a text, and the columns behind them.
use Prim.Native.Nat.{ℕ, suc, ◌+◌, ◌-◌, ◌≤◌, ◌<◌}
use mathlib.Core.Path.{◌≡◌, refl, sym, ap, ◌∙◌}
use mathlib.Core.Bool.{Bool, true, false, ◌&&◌}
use mathlib.Core.List.{List, ◌∷◌, []}
use Rattle.std.specs.Prelude.{Option, None, Some}
use native.Mathlib.Omega.{arith}
use lib.Dec.{eqb, leb}
use lib.ListN.{length, take, drop, length-drop, drop_of_length-le}
use lib.Seq.{length-take-le}
use borrow.Author.Tests.{le-leb, lt-leb, leb-true}
use Rattle.spec.specs.Text.{bytes, same, split, comma, line_feed, number}
use Rattle.spec.proofs.Split.{split_step}
use Rattle.fields.specs.Fields.{Found, Taken, taken, first_number, cons_number, numbers_of, position, first_word, fields_from, NumberAt, WordAt}
use Rattle.fields.proofs.Marks.{split_from, split_some, fields_start}
use Rattle.figures.specs.Annex.{Done}
use Rattle.figures.specs.Lines.{count_limit, line_limit, bounded, counts, done_of, Read, refused, lines, joined, few_enough, last_part, read_from}
use Rattle.figures.specs.Totals.{line_of, StepAt}

-- ---------------------------------------------------------------- the numbers of a line

pub bounded_in : (i s : ℕ) → i ≤ count_limit → s ≤ count_limit → Some (record { instructions = i; storages = s }) ≡ bounded i s
unfolding bounded
bounded_in i s h g = rw (bounded, le-leb i count_limit h, le-leb s count_limit g)

pub bounded_first : (i s : ℕ) → count_limit < i → None ≡ bounded i s
unfolding bounded
bounded_first i s h = rw (bounded, lt-leb i count_limit h)

pub bounded_second : (i s : ℕ) → i ≤ count_limit → count_limit < s → None ≡ bounded i s
unfolding bounded
bounded_second i s h g = rw (bounded, le-leb i count_limit h, lt-leb s count_limit g)

pub ruleset bounds = (bounded_in, bounded_first, bounded_second)

-- a number, and those behind it
pub number_more : (ws : List (List ℕ)) (v : ℕ) (rest : List (List ℕ)) → Some (record { value = v; rest = rest }) ≡ first_number ws
    → numbers_of ws ≡ cons_number (Some v) (numbers_of rest)
unfolding first_number numbers_of
number_more [] v rest e = cc
number_more (w ∷ ws) v rest e = by (number w) e
  where
    by : (o : Option ℕ) → Some (record { value = v; rest = rest }) ≡ taken o ws → cons_number o (numbers_of ws) ≡ cons_number (Some v) (numbers_of rest)
    by None q = cc
    by (Some x) q = let t : ◌≡◌ {A = Taken} (record { value = x; rest = ws }) (record { value = v; rest = rest }) = cc in rw (ap (λ (u : Taken). u.value) t, ap (λ (u : Taken). u.rest) t)

-- where no number is first, there is no field, or the fields are not numbers
pub number_none : (f : Option (List ℕ) → Option Done) (ws : List (List ℕ)) → f None ≡ None → f (Some []) ≡ None → None ≡ first_number ws → None ≡ f (numbers_of ws)
unfolding first_number numbers_of
number_none f [] p q e = sym q
number_none f (w ∷ ws) p q e = by (number w) e
  where
    by : (o : Option ℕ) → None ≡ taken o ws → None ≡ f (cons_number o (numbers_of ws))
    by None h = sym p
    by (Some x) h = cc

-- no field may follow the third number
pub no_fourth : (i s n : ℕ) (ws : List (List ℕ)) → (ws ≡ [] → ⊥) → None ≡ counts (cons_number (Some i) (cons_number (Some s) (cons_number (Some n) (numbers_of ws))))
unfolding numbers_of counts
no_fourth i s n [] h = absurd (h refl)
no_fourth i s n (w ∷ ws) h = by (number w) (numbers_of ws)
  where
    by : (o : Option ℕ) (p : Option (List ℕ)) → None ≡ counts (cons_number (Some i) (cons_number (Some s) (cons_number (Some n) (cons_number o p))))
    by None p = refl
    by (Some x) None = refl
    by (Some x) (Some xs) = refl

-- three numbers
pub three : (i s n : ℕ) (ws : List (List ℕ)) → ws ≡ [] → bounded i s ≡ counts (cons_number (Some i) (cons_number (Some s) (cons_number (Some n) (numbers_of ws))))
unfolding numbers_of counts
three i s n ws e = rw e

-- ---------------------------------------------------------------- the word

word_by : (t : Bool) (ws : List (List ℕ)) → Option Taken
word_by true ws = Some (record { value = 0; rest = ws })
word_by false ws = None

word_is : (w : List ℕ) (ws : List (List ℕ)) (t : Bool) → same (bytes "done") w ≡ t → first_word (split comma (bytes "done")) (w ∷ ws) ≡ word_by t ws
unfolding split position word_by
word_is w ws true e = rw (position, e)
word_is w ws false e = rw (position, e)

done_is : (w : List ℕ) (ws : List (List ℕ)) → same (bytes "done") w ≡ true → done_of (w ∷ ws) ≡ counts (numbers_of ws)
unfolding done_of
done_is w ws e = rw (done_of, e)

done_not : (w : List ℕ) (ws : List (List ℕ)) → same (bytes "done") w ≡ false → done_of (w ∷ ws) ≡ None
unfolding done_of
done_not w ws e = rw (done_of, e)

pub word_none : (ws : List (List ℕ)) → None ≡ first_word (split comma (bytes "done")) ws → None ≡ done_of ws
unfolding done_of word_by
word_none [] e = refl
word_none (w ∷ ws) e = by (same (bytes "done") w) refl
  where
    by : (t : Bool) → same (bytes "done") w ≡ t → None ≡ done_of (w ∷ ws)
    by true q = let z = e ∙ word_is w ws true q in cc
    by false q = sym (done_not w ws q)

pub word_more : (ws : List (List ℕ)) (k : ℕ) (rest : List (List ℕ)) → Some (record { value = k; rest = rest }) ≡ first_word (split comma (bytes "done")) ws → done_of ws ≡ counts (numbers_of rest)
unfolding word_by
word_more [] k rest e = cc
word_more (w ∷ ws) k rest e = by (same (bytes "done") w) refl
  where
    by : (t : Bool) → same (bytes "done") w ≡ t → done_of (w ∷ ws) ≡ counts (numbers_of rest)
    by true q =
        let z = e ∙ word_is w ws true q in
        let t : ◌≡◌ {A = Taken} (record { value = k; rest = rest }) (record { value = 0; rest = ws }) = cc in
        done_is w ws q ∙ rw (ap (λ (u : Taken). u.rest) t)
    by false q = let z = e ∙ word_is w ws false q in cc

-- ---------------------------------------------------------------- from field to field

module _ (s : List ℕ) where
  pub line_no_word : WordAt s (bytes "done") 0 None → None ≡ done_of (split comma s)
  line_no_word w = rw (fields_start s) (word_none (fields_from s 0) w.answer)

  pub line_word : (k next : ℕ) → WordAt s (bytes "done") 0 (Some (k, next)) → done_of (split comma s) ≡ counts (numbers_of (fields_from s next))
  line_word k next w = rw (fields_start s) (word_more (fields_from s 0) k (fields_from s next) w.answer)

-- the count where one number, or two, stand before the others
abbrev pub behind_one : ℕ → Option (List ℕ) → Option Done
behind_one i o = counts (cons_number (Some i) o)

abbrev pub behind_two : ℕ → ℕ → Option (List ℕ) → Option Done
behind_two i n o = counts (cons_number (Some i) (cons_number (Some n) o))

-- f is what the fields before this one make of the numbers from here on
module _ (s : List ℕ) (p : ℕ) (f : Option (List ℕ) → Option Done) (q : done_of (split comma s) ≡ f (numbers_of (fields_from s p))) where
  pub line_no_number : f None ≡ None → f (Some []) ≡ None → NumberAt s p None → None ≡ done_of (split comma s)
  line_no_number g h a = number_none f (fields_from s p) g h a.answer ∙ sym q

  pub line_number : (v next : ℕ) → NumberAt s p (Some (v, next)) → done_of (split comma s) ≡ f (cons_number (Some v) (numbers_of (fields_from s next)))
  line_number v next a = q ∙ ap f (number_more (fields_from s p) v (fields_from s next) a.answer)

-- ---------------------------------------------------------------- what a line counts is within the limit

Limits : Option Done → Type 0
Limits None = Unit {0}
Limits (Some d) = (d.instructions ≤ count_limit) × (d.storages ≤ count_limit)

limits_bounded : (i s : ℕ) → Limits (bounded i s)
unfolding bounded Limits
limits_bounded i s = by (leb i count_limit) (leb s count_limit) refl refl
  where
    by : (t u : Bool) → leb i count_limit ≡ t → leb s count_limit ≡ u
        → Limits (elim (t && u) as (λ _. Option Done) [ true ↦ Some (record { instructions = i; storages = s }) | false ↦ None ])
    by true true e f = (leb-true i count_limit e, leb-true s count_limit f)
    by true false e f = tt
    by false true e f = tt
    by false false e f = tt

limits_counts : (o : Option (List ℕ)) → Limits (counts o)
unfolding counts Limits
limits_counts None = tt
limits_counts (Some []) = tt
limits_counts (Some (i ∷ [])) = tt
limits_counts (Some (i ∷ s ∷ [])) = tt
limits_counts (Some (i ∷ s ∷ n ∷ [])) = limits_bounded i s
limits_counts (Some (i ∷ s ∷ n ∷ m ∷ ms)) = tt

limits_done : (ws : List (List ℕ)) → Limits (done_of ws)
unfolding done_of Limits
limits_done [] = tt
limits_done (w ∷ ws) = by (same (bytes "done") w) refl
  where
    by : (t : Bool) → same (bytes "done") w ≡ t → Limits (done_of (w ∷ ws))
    by true e = rw (done_is w ws e) (limits_counts (numbers_of ws))
    by false e = rw (done_not w ws e) tt

pub done_limits : (ws : List (List ℕ)) (d : Done) → done_of ws ≡ Some d → (d.instructions ≤ count_limit) × (d.storages ≤ count_limit)
unfolding Limits
done_limits ws d e = rw e at (limits_done ws)

-- ---------------------------------------------------------------- the lines of a text

few : (k : ℕ) (r : Read) → k ≤ line_limit → few_enough k r ≡ r
unfolding few_enough
few k r h = rw (few_enough, le-leb k line_limit h)

many : (k : ℕ) (r : Read) → line_limit < k → few_enough k r ≡ refused 41 k
unfolding few_enough
many k r h = rw (few_enough, lt-leb k line_limit h)

-- what is left of a text has more than an empty last part
data Parted : List (List ℕ) → Type 0 where
  whole : (b : ℕ) (l : List ℕ) → Parted ((b ∷ l) ∷ [])
  more : (l m : List ℕ) (ls : List (List ℕ)) → Parted (l ∷ m ∷ ls)

many_parted : (k : ℕ) (ps : List (List ℕ)) → line_limit < k → Parted ps → read_from k ps ≡ refused 41 k
unfolding read_from last_part
many_parted k _ h (whole b l) = many k (refused 42 k) h
many_parted k _ h (more l m ls) = many k _ h

part_more : (b : ℕ) (l : List ℕ) (ls : List (List ℕ)) → Parted ((b ∷ l) ∷ ls)
part_more b l [] = whole b l
part_more b l (m ∷ ls) = more (b ∷ l) m ls

parted : (b : ℕ) (s : List ℕ) → 0 < length s → Parted (split b s)
unfolding split
parted b [] h = absurd (omega arith)
parted b (x ∷ xs) h = by (eqb x b) refl
  where
    by : (t : Bool) → eqb x b ≡ t → Parted (split b (x ∷ xs))
    by true e = rw (split, e, split_some b xs) (more _ _ _)
    by false e = rw (split_step b x xs _ _ e (split_some b xs)) (part_more x _ _)

module _ (s : List ℕ) (at k : ℕ) where
  pub too_many : at < length s → line_limit < k → read_from k (split line_feed (drop at s)) ≡ refused 41 k
  too_many h g = many_parted k _ g (parted line_feed (drop at s) (simp length-drop (omega arith)))

  pub text_ends : length s ≤ at → read_from k (split line_feed (drop at s)) ≡ lines []
  unfolding read_from last_part split
  text_ends h = rw (drop_of_length-le s h)

last_some : (k : ℕ) (l : List ℕ) → 0 < length l → k ≤ line_limit → read_from k (l ∷ []) ≡ refused 42 k
unfolding read_from last_part
last_some k [] h g = absurd (omega arith)
last_some k (b ∷ l) h g = few k (refused 42 k) g

read_two : (k : ℕ) (l : List ℕ) (ps : List (List ℕ)) {f : List ℕ} {fs : List (List ℕ)} → ps ≡ f ∷ fs → k ≤ line_limit
    → read_from k (l ∷ ps) ≡ joined k (done_of (split comma l)) (read_from (suc k) ps)
unfolding read_from
read_two k l ps e h = rw e (few k _ h)

-- ---------------------------------------------------------------- a line at a position

module _ (s : List ℕ) (at e : ℕ) (f : Found s at line_feed e) where
  -- no line feed ends the line
  pub step_unended : at < length s → length s ≤ e → StepAt s at None
  step_unended h g =
      record {
        step =
            λ k l.
            rw (split_from line_feed s at e f, lt-leb (e + 1) (length s) (omega arith))
            (last_some k (take (e - at) (drop at s)) (rw (length-take-le (e - at) (drop at s) (rw (length-drop at s) (omega (arith, f.high)))) (omega arith)) l);
      }

  whole_line : e < length s → (k : ℕ) → k ≤ line_limit
      → read_from k (split line_feed (drop at s)) ≡ joined k (done_of (split comma (take (e - at) (drop at s)))) (read_from (suc k) (split line_feed (drop (e + 1) s)))
  whole_line h k l =
      rw (split_from line_feed s at e f, le-leb (e + 1) (length s) (omega arith))
      (read_two k (take (e - at) (drop at s)) (split line_feed (drop (e + 1) s)) (split_some line_feed (drop (e + 1) s)) l)

  module _ (h : e < length s) where
    pub step_done : (i n : ℕ) → line_of (Some (i, n)) ≡ done_of (split comma (take (e - at) (drop at s))) → StepAt s at (Some (i, n, e + 1))
    step_done i n q =
        let l = done_limits _ _ (sym q) in
        record { step = (omega (arith, f.low), omega arith, l.0, l.1, λ k m. whole_line h k m ∙ rw (← q)) }

    pub step_malformed : None ≡ done_of (split comma (take (e - at) (drop at s))) → StepAt s at None
    unfolding joined
    step_malformed q = record { step = λ k m. whole_line h k m ∙ rw (← q) }
