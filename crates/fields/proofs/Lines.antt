-- From field to field: a number, the numbers to a line's end, the place of a word.
use mathlib.Core.Path.{◌≡◌, refl, sym, ap, ◌∙◌}
use mathlib.Core.Bool.{Bool, true, false, ◌&&◌, cond}
use mathlib.Core.List.{List, ◌∷◌, ◌++◌, append_assoc, append-nil, []}
use Rattle.std.specs.Prelude.{Option, None, Some}
use Prim.Native.Nat.{ℕ, suc, ◌+◌, ◌-◌, ◌*◌, ◌≤◌, ◌<◌}
use native.Mathlib.Omega.{arith}
use native.Mathlib.Numerals.{one-add}
use lib.Dec.{eqb, ltb}
use borrow.Author.Tests.{eqb-true, ltb-true, ltb-false, lt-ltb, le-ltb}
use lib.ListN.{length, take, drop, set, length-drop}
use lib.Seq.{length-take-le}
use Rattle.std.specs.List.{slice_split, prefix_len, position_or_len, position as place}
use Rattle.std.proofs.lemmas.List.Splits.{slice_split-cons_yes, slice_split-cons_no}
use Rattle.spec.specs.Text.{split, comma, number, numeral, good_start, same}
use Rattle.tables.specs.Tables.{tab, run}
use Rattle.fields.specs.Fields.{Found, fields_from, Taken, taken, first_number, NumberAt, cons_number, numbers_of, onto, Kept, Listing, position, WordAt, Tried, Same}
use Rattle.fields.proofs.Marks.{fields_first, fields_none, fields_some, split_some}
use Rattle.fields.proofs.Tabs.{run_put, kept_put, kept_all, length_put}

-- ---------------------------------------------------------------- a number at a position

-- no number is empty
number_long : (f : List ℕ) (v : ℕ) → number f ≡ Some v → 1 ≤ length f
unfolding number numeral good_start
number_long [] v e = let z : ◌≡◌ {A = ℕ} 0 1 = cc in omega arith
number_long (d ∷ ds) v e = omega arith

pub number_past : (s : List ℕ) (p : ℕ) → length s < p → NumberAt s p None
unfolding first_number
number_past s p h = record { answer = rw (fields_none s p h); ahead = tt }

module _ (s : List ℕ) (p e : ℕ) (h : p ≤ length s) (f : Found s p comma e) where
  part_length : length (take (e - p) (drop p s)) ≡ e - p
  part_length = length-take-le (e - p) (drop p s) (rw (length-drop p s) (omega (arith, f.high)))

  pub number_value : (v : ℕ) → Some v ≡ number (take (e - p) (drop p s)) → NumberAt s p (Some (v, e + 1))
  unfolding first_number
  number_value v g =
      let l = number_long (take (e - p) (drop p s)) v (sym g) in
      record {
        answer = rw (fields_first s p e h f, ← g);
        ahead = (omega (arith, part_length, f.low), omega (arith, f.high));
      }

  pub number_unread : None ≡ number (take (e - p) (drop p s)) → NumberAt s p None
  unfolding first_number
  number_unread g = record { answer = rw (fields_first s p e h f, ← g); ahead = tt }

pub ruleset number_at = (number_past, number_value, number_unread)

-- ---------------------------------------------------------------- the numbers to the line's end

pub first_none : (ws : List (List ℕ)) → (ws ≡ [] → ⊥) → None ≡ first_number ws → numbers_of ws ≡ None
unfolding first_number numbers_of
first_none [] h e = absurd (h refl)
first_none (w ∷ ws) h e = by (number w) e
  where
    by : (o : Option ℕ) → None ≡ taken o ws → cons_number o (numbers_of ws) ≡ None
    by None q = refl
    by (Some x) q = cc

pub first_some : (ws : List (List ℕ)) (v : ℕ) (rest : List (List ℕ)) → Some (record { value = v; rest = rest }) ≡ first_number ws
    → numbers_of ws ≡ cons_number (Some v) (numbers_of rest)
unfolding first_number numbers_of
first_some [] v rest e = cc
first_some (w ∷ ws) v rest e = by (number w) e
  where
    by : (o : Option ℕ) → Some (record { value = v; rest = rest }) ≡ taken o ws → cons_number o (numbers_of ws) ≡ cons_number (Some v) (numbers_of rest)
    by None q = cc
    by (Some x) q = let t : ◌≡◌ {A = Taken} (record { value = x; rest = ws }) (record { value = v; rest = rest }) = cc in rw (ap (λ (u : Taken). u.value) t, ap (λ (u : Taken). u.rest) t)

onto_more : (xs : List ℕ) (v : ℕ) (o : Option (List ℕ)) → onto xs (cons_number (Some v) o) ≡ onto (xs ++ (v ∷ [])) o
unfolding onto
onto_more xs v None = refl
onto_more xs v (Some ys) = rw (append_assoc xs (v ∷ []) ys)

onto_none : (o : Option (List ℕ)) → o ≡ onto [] o
unfolding onto
onto_none None = refl
onto_none (Some ys) = refl

list_start : (s ls : List ℕ) (used p : ℕ) → numbers_of (fields_from s p) ≡ onto (run ls used 0) (numbers_of (fields_from s p))
unfolding tab run
list_start s ls used p = onto_none (numbers_of (fields_from s p))

module _ (o : Option (List ℕ)) (s ls : List ℕ) (used n p : ℕ) (q : o ≡ onto (run ls used n) (numbers_of (fields_from s p))) where
  list_end : length s < p → Some (run ls used n) ≡ o
  unfolding numbers_of onto
  list_end h = sym (q ∙ rw (fields_none s p h, append-nil (run ls used n)))

  list_broken : p ≤ length s → NumberAt s p None → None ≡ o
  unfolding onto
  list_broken h a = sym (q ∙ rw (first_none (fields_from s p) (fields_some s p h) a.answer))

  list_more : (v next : ℕ) → NumberAt s p (Some (v, next)) → used + n < length ls
      → o ≡ onto (run (set ls (used + n) v) used (n + 1)) (numbers_of (fields_from s next))
  list_more v next a l =
      q ∙ rw (first_some (fields_from s p) v (fields_from s next) a.answer, run_put ls used n v l)
      (onto_more (run ls used n) v (numbers_of (fields_from s next)))

-- from `start` to p stand n numbers, which the lists have behind the first `used`
pub record Gone (s us : List ℕ) (used start : ℕ) (ls : List ℕ) (n p : ℕ) : Type 0 where
  pub low : start + n * 2 ≤ p
  pub high : p ≤ length s + 1
  pub long : length ls ≡ length us
  pub answer : numbers_of (fields_from s start) ≡ onto (run ls used n) (numbers_of (fields_from s p))
  pub kept : Kept used us ls

pub gone_none : (s ls : List ℕ) (used p : ℕ) → p ≤ length s + 1 → Gone s ls used p ls 0 p
gone_none s ls used p h =
    record {
      low = omega arith;
      high = h;
      long = refl;
      answer = list_start s ls used p;
      kept = kept_all used ls;
    }

module _ (s us : List ℕ) (used start : ℕ) (ls : List ℕ) (n p : ℕ) (g : Gone s us used start ls n p) where
  -- one number more, for which there is room
  pub gone_more : (v next : ℕ) → used * 2 + length s ≤ start + length us * 2 → NumberAt s p (Some (v, next))
      → Gone s us used start (set ls (used + n) v) (n + 1) next
  gone_more v next room a =
      let ahead = a.ahead in
      let l : used + n < length ls = omega (arith, g.low, g.long) in
      record {
        low = omega (arith, g.low);
        high = a.ahead.1;
        long = length_put us ls (used + n) v g.long;
        answer = list_more (numbers_of (fields_from s start)) s ls used n p g.answer v next a l;
        kept = kept_put us ls used (used + n) v g.kept (omega arith);
      }

  pub gone_broken : p ≤ length s → NumberAt s p None → Listing s start us ls used None
  gone_broken h a =
      record {
        answer = list_broken (numbers_of (fields_from s start)) s ls used n p g.answer h a;
        fewer = tt;
        kept = g.kept;
      }

  pub gone_end : length s < p → Listing s start us ls used (Some n)
  gone_end h =
      record {
        answer = list_end (numbers_of (fields_from s start)) s ls used n p g.answer h;
        fewer = omega (arith, g.low, g.high);
        kept = g.kept;
      }

pub ruleset gone_laws = (gone_none, gone_more, gone_broken, gone_end)

-- ---------------------------------------------------------------- the place of a word

-- in the library's words
split_is : (b : ℕ) (s : List ℕ) → slice_split (λ x. eqb x b) s ≡ split b s
unfolding split
split_is b [] = refl
split_is b (x ∷ xs) = go (eqb x b) refl (split_is b xs)
  where
    go : (t : Bool) → eqb x b ≡ t → slice_split (λ x. eqb x b) xs ≡ split b xs → slice_split (λ x. eqb x b) (x ∷ xs) ≡ split b (x ∷ xs)
    go true e ih = slice_split-cons_yes (λ x. eqb x b) x xs e ∙ rw (ih, split, e)
    go false e ih = slice_split-cons_no (λ x. eqb x b) x xs e ∙ rw (ih, split, e, split_some b xs)

place_next : (k n : ℕ) (t : Bool) → ltb k n ≡ t → cond (ltb (1 + k) (suc n)) (Some (1 + k)) None ≡ elim (cond (ltb k n) (Some k) None) as (λ x. Option ℕ) [ None ↦ None | Some j ↦ Some (suc j) ]
place_next k n true e = let l = ltb-true k n e in rw (e, lt-ltb (1 + k) (suc n) (omega arith), one-add)
place_next k n false e = let l = ltb-false k n e in rw (e, le-ltb (1 + k) (suc n) (omega arith))

place_is : (w : List ℕ) (vs : List (List ℕ)) → place (λ v. same v w) vs ≡ position w vs
unfolding position
place_is w [] = refl
place_is w (v ∷ vs) = go (same v w) refl (place_is w vs)
  where
    go : (t : Bool) → same v w ≡ t → place (λ v. same v w) vs ≡ position w vs → place (λ v. same v w) (v ∷ vs) ≡ position w (v ∷ vs)
    go true e ih = rw (prefix_len, position, e, lt-ltb 0 (suc (length vs)) (omega arith))
    go false e ih = rw (prefix_len, position, e, ← ih) (place_next (position_or_len (λ v. same v w) vs) (length vs) (ltb (position_or_len (λ v. same v w) vs) (length vs)) refl)

pub place_among : (w s : List ℕ) → place (λ v. same v w) (slice_split (λ x. eqb x comma) s) ≡ position w (split comma s)
place_among w s = rw (split_is comma s) (place_is w (split comma s))

-- ---------------------------------------------------------------- a word at a position

pub word_past : (s vs : List ℕ) (p : ℕ) → length s < p → WordAt s vs p None
word_past s vs p h = record { answer = rw (fields_none s p h); ahead = tt }

module _ (s vs : List ℕ) (p e : ℕ) (h : p ≤ length s) (f : Found s p comma e) where
  pub word_value : (k : ℕ) → Some k ≡ position (take (e - p) (drop p s)) (split comma vs) → WordAt s vs p (Some (k, e + 1))
  word_value k g =
      record {
        answer = rw (fields_first s p e h f, ← g);
        ahead = (omega (arith, f.low), omega (arith, f.high));
      }

  pub word_unread : None ≡ position (take (e - p) (drop p s)) (split comma vs) → WordAt s vs p None
  word_unread g = record { answer = rw (fields_first s p e h f, ← g); ahead = tt }

pub ruleset word_at = (word_past, word_value, word_unread)

-- ---------------------------------------------------------------- a word that is tried

-- both tests are passed
pub both_true : (a b : Bool) → (a && b) ≡ true → (a ≡ true) × (b ≡ true)
both_true true b e = (refl, e)
both_true false b e = absurd (let z : ◌≡◌ {A = ℕ} 0 1 = cc in omega arith)

same_equal : (xs ys : List ℕ) → same xs ys ≡ true → xs ≡ ys
unfolding same
same_equal [] [] e = refl
same_equal [] (y ∷ ys) e = cc
same_equal (x ∷ xs) [] e = cc
same_equal (x ∷ xs) (y ∷ ys) e =
    let h = both_true (eqb x y) (same xs ys) e in
    rw (eqb-true x y h.0, same_equal xs ys h.1)

pub tried_here : (vs w : List ℕ) (k s e : ℕ) (r : Bool) → Tried vs k s e → Same vs w s e r → r ≡ true → Some k ≡ position w (split comma vs)
tried_here vs w k s e r t m g =
    rw (← same_equal (take (e - s) (drop s vs)) w (m.word g)) (sym (t.place (m.low g) (m.high g)))
