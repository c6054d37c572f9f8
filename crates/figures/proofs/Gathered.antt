-- What the code keeps of the lines is what the definitions say of all of them; and what it prints of that is the annex.
use Prim.Native.Nat.{ℕ, suc, ◌+◌, ◌-◌, ◌*◌, ◌≤◌, ◌<◌, min, max}
use mathlib.Core.Path.{◌≡◌, refl, sym, ap, subst, ◌∙◌}
use mathlib.Core.Bool.{Bool, true, false}
use mathlib.Core.Logic.{inl, inr}
use mathlib.Core.List.{List, ◌∷◌, append_assoc, []}
use Rattle.std.specs.Prelude.{Option, None, Some, Ok, Err}
use native.Mathlib.Omega.{arith}
use native.Mathlib.Nat.{mul-le-mul, zero-add}
use native.Mathlib.Numerals.{add-one}
use lib.Dec.{leb}
use lib.ListN.{length, drop}
use borrow.Author.Tests.{leb-true, eq-eqb, ne_eqb}
use Rattle.spec.specs.Text.{line, fields, split, comma, line_feed}
use Rattle.spec.specs.Answer as spec-answer
use Rattle.figures.specs.Annex.{least, greatest, sum, squares, mean, variance, figures_line, Done, all_instructions, all_storages, annex}
use Rattle.figures.specs.Lines.{count_limit, line_limit, done_of, Read, refused, lines, joined, few_enough, last_part, read_from, of_lines, answer}
use Rattle.figures.specs.Totals.{nothing, with_number, Small, Sound, range_of, moments_of, figures_of, no_lines, with_line, with_lines, printed, Held, StepAt, onto, of_columns}
use Rattle.figures.specs.declared.Totals.{Totals}
use Rattle.figures.specs.declared.Columns.{Columns}
use Rattle.figures.proofs.Variance.{no_deficit}
use Rattle.figures.proofs.Lines.{done_limits, too_many, text_ends}

-- ---------------------------------------------------------------- a column, number by number

pub small_none : Small 0 nothing
small_none = record { count = refl; sum = omega arith; squares = omega arith }

pub square_limit : (x : ℕ) → x ≤ count_limit → x * x ≤ count_limit * count_limit
square_limit x h = mul-le-mul h h

pub small_more : (n : ℕ) (t : Totals) (x : ℕ) → Small n t → x ≤ count_limit → Small (n + 1) (with_number t x)
unfolding with_number
small_more n t x s h =
    let q = square_limit x h in
    record { count = omega (arith, s.count); sum = omega (arith, s.sum); squares = omega (arith, s.squares) }

-- numbers one after another
with_numbers : Totals → List ℕ → Totals
with_numbers t [] = t
with_numbers t (x ∷ xs) = with_numbers (with_number t x) xs

columns : (c : Columns) (ds : List Done) → with_lines c ds ≡ record { instructions = with_numbers c.instructions (all_instructions ds); storages = with_numbers c.storages (all_storages ds) }
unfolding with_lines with_line with_numbers all_instructions all_storages
columns c [] = refl
columns c (d ∷ ds) = columns (with_line c d.instructions d.storages) ds

-- the figures of a list
totals : List ℕ → Totals
totals xs = record { count = length xs; least = least xs; greatest = greatest xs; sum = sum xs; squares = squares xs }

-- a list behind what is already kept
behind : Totals → List ℕ → Totals
behind t xs =
    record {
      count = t.count + length xs;
      least = min (least xs) t.least;
      greatest = max (greatest xs) t.greatest;
      sum = t.sum + sum xs;
      squares = t.squares + squares xs;
    }

alike : {a b c d e a' b' c' d' e' : ℕ} → a ≡ a' → b ≡ b' → c ≡ c' → d ≡ d' → e ≡ e'
    → ◌≡◌ {A = Totals} (record { count = a; least = b; greatest = c; sum = d; squares = e }) (record { count = a'; least = b'; greatest = c'; sum = d'; squares = e' })
alike p q r s t = rw (p, q, r, s, t)

gathered : (t : Totals) (x : ℕ) (xs : List ℕ) → with_numbers t (x ∷ xs) ≡ behind t (x ∷ xs)
unfolding with_numbers with_number behind least greatest sum squares
gathered t x [] = alike (omega arith) refl (omega arith) (omega arith) (omega arith)
gathered t x (y ∷ ys) = gathered (with_number t x) y ys ∙ alike (omega arith) (omega arith) (omega arith) (omega arith) (omega arith)

-- ---------------------------------------------------------------- numbers within the limit

Limited : List ℕ → Type 0
Limited [] = Unit {0}
Limited (x ∷ xs) = (x ≤ count_limit) × Limited xs

least_limited : (x : ℕ) (xs : List ℕ) → Limited (x ∷ xs) → least (x ∷ xs) ≤ count_limit
unfolding least Limited
least_limited x [] h = h.0
least_limited x (y ∷ ys) h = omega (arith, h.0)

-- what the code keeps of a column
kept : (x : ℕ) (xs : List ℕ) → Limited (x ∷ xs) → with_numbers nothing (x ∷ xs) ≡ totals (x ∷ xs)
unfolding behind totals
kept x xs h =
    let l = least_limited x xs h in
    gathered nothing x xs ∙ alike (omega arith) (omega arith) (omega arith) (omega arith) (omega arith)

small_all : (n : ℕ) (t : Totals) (xs : List ℕ) → Small n t → Limited xs → Small (n + length xs) (with_numbers t xs)
unfolding with_numbers Limited
small_all n t [] s h = let z : n + 0 ≡ n = omega arith in rw z s
small_all n t (x ∷ xs) s h = let z : n + suc (length xs) ≡ n + 1 + length xs = omega arith in rw z (small_all (n + 1) (with_number t x) xs (small_more n t x s h.0) h.1)

sound : (x : ℕ) (xs : List ℕ) → Limited (x ∷ xs) → length (x ∷ xs) ≤ line_limit → Sound (totals (x ∷ xs))
unfolding totals
sound x xs h n =
    record {
      some = omega arith;
      few = n;
      small = rw (kept x xs h, zero-add) at (small_all 0 nothing (x ∷ xs) small_none h);
      spread = no_deficit (x ∷ xs) (omega arith);
    }

-- ---------------------------------------------------------------- the lines that are read

-- at most 1,000 lines, each within the limit
record Readable (k : ℕ) (ds : List Done) : Type 0 where
  pub instructions : Limited (all_instructions ds)
  pub storages : Limited (all_storages ds)
  pub few : length ds + k ≤ suc line_limit

few_lines : (k : ℕ) (r : Read) (ds : List Done) → few_enough k r ≡ lines ds → (k ≤ line_limit) × (r ≡ lines ds)
unfolding few_enough
few_lines k r ds = by (leb k line_limit) refl
  where
    by : (t : Bool) → leb k line_limit ≡ t → (elim t as (λ _. Read) [ true ↦ r | false ↦ refused 41 k ]) ≡ lines ds → (k ≤ line_limit) × (r ≡ lines ds)
    by true q e = (leb-true k line_limit q, e)
    by false q e = absurd (let z : ◌≡◌ {A = ℕ} 0 1 = cc in omega arith)

record Joined (o : Option Done) (r : Read) (ds : List Done) : Type 0 where
  first : Done
  rest : List Done
  is_first : o ≡ Some first
  are_rest : r ≡ lines rest
  both : ds ≡ first ∷ rest

joined_lines : (k : ℕ) (o : Option Done) (r : Read) (ds : List Done) → joined k o r ≡ lines ds → Joined o r ds
unfolding joined
joined_lines k None r ds e = absurd (let z : ◌≡◌ {A = ℕ} 0 1 = cc in omega arith)
joined_lines k (Some d) (refused n l) ds e = absurd (let z : ◌≡◌ {A = ℕ} 0 1 = cc in omega arith)
joined_lines k (Some d) (lines es) ds e = record { first = d; rest = es; is_first = refl; are_rest = refl; both = cc }

none_readable : (k : ℕ) (ds : List Done) → k ≤ suc line_limit → lines [] ≡ lines ds → Readable k ds
unfolding Limited all_instructions all_storages
none_readable k [] h e = record { instructions = tt; storages = tt; few = omega arith }
none_readable k (d ∷ ds) h e = absurd (let z : ◌≡◌ {A = ℕ} 0 1 = cc in omega arith)

more_readable : (k : ℕ) (d : Done) (ds : List Done) → (d.instructions ≤ count_limit) × (d.storages ≤ count_limit) → Readable (suc k) ds → Readable k (d ∷ ds)
unfolding Limited all_instructions all_storages
more_readable k d ds l r = record { instructions = (l.0, r.instructions); storages = (l.1, r.storages); few = omega (arith, r.few) }

readable : (k : ℕ) (ps : List (List ℕ)) (ds : List Done) → k ≤ suc line_limit → read_from k ps ≡ lines ds → Readable k ds
unfolding read_from last_part
readable k [] ds h e = none_readable k ds h e
readable k ([] ∷ []) ds h e = none_readable k ds h e
readable k ((b ∷ l) ∷ []) ds h e = let q = (few_lines k (refused 42 k) ds e).1 in absurd (let z : ◌≡◌ {A = ℕ} 0 1 = cc in omega arith)
readable k (l ∷ m ∷ ls) ds h e =
    let q = few_lines k (joined k (done_of (split comma l)) (read_from (suc k) (m ∷ ls))) ds e in
    let j = joined_lines k (done_of (split comma l)) (read_from (suc k) (m ∷ ls)) ds q.1 in
    rw j.both (more_readable k j.first j.rest (done_limits (split comma l) j.first j.is_first) (readable (suc k) (m ∷ ls) j.rest (omega (arith, q.0)) j.are_rest))

-- ---------------------------------------------------------------- the columns of all lines

count_instructions : (ds : List Done) → length (all_instructions ds) ≡ length ds
unfolding all_instructions
count_instructions [] = refl
count_instructions (d ∷ ds) = ap suc (count_instructions ds)

count_storages : (ds : List Done) → length (all_storages ds) ≡ length ds
unfolding all_storages
count_storages [] = refl
count_storages (d ∷ ds) = ap suc (count_storages ds)

columns_of : List Done → Columns
columns_of ds = record { instructions = totals (all_instructions ds); storages = totals (all_storages ds) }

module _ (d : Done) (ds : List Done) (r : Readable 1 (d ∷ ds)) where
  columns_are : with_lines no_lines (d ∷ ds) ≡ columns_of (d ∷ ds)
  unfolding columns_of all_instructions all_storages
  columns_are =
      columns no_lines (d ∷ ds)
      ∙ rw (kept d.instructions (all_instructions ds) r.instructions, kept d.storages (all_storages ds) r.storages)

  both_sound : (Sound (totals (all_instructions (d ∷ ds)))) × (Sound (totals (all_storages (d ∷ ds))))
  unfolding all_instructions all_storages
  both_sound =
      let n = count_instructions ds in
      let m = count_storages ds in (
        sound d.instructions (all_instructions ds) r.instructions (omega (arith, r.few)),
        sound d.storages (all_storages ds) r.storages (omega (arith, r.few)),
      )

-- ---------------------------------------------------------------- what is printed of them

figures_are : (xs : List ℕ) → figures_of (totals xs) ≡ figures_line xs
unfolding figures_of range_of moments_of totals figures_line mean variance line fields
figures_are xs = simp append_assoc

annex_is : (ds : List Done) → printed (columns_of ds) ≡ annex ds
unfolding printed columns_of annex
annex_is ds = rw (figures_are (all_instructions ds), figures_are (all_storages ds))

-- ---------------------------------------------------------------- from the lines read to the answer

-- no line, or the columns of all that were read
data Gathers (c : Columns) : Read → Type 0 where
  nothing_read : c ≡ no_lines → Gathers c (lines [])
  all_read : (d : Done) (ds : List Done) → Readable 1 (d ∷ ds) → c ≡ columns_of (d ∷ ds) → Gathers c (lines (d ∷ ds))

gathers : (ps : List (List ℕ)) (c : Columns) → Ok c ≡ onto no_lines (read_from 1 ps) → Gathers c (read_from 1 ps)
unfolding onto with_lines
gathers ps c = by (read_from 1 ps) (λ ds q. readable 1 ps ds (omega arith) q)
  where
    by : (r : Read) → ((ds : List Done) → r ≡ lines ds → Readable 1 ds) → Ok c ≡ onto no_lines r → Gathers c r
    by (refused n l) f e = absurd (let z : ◌≡◌ {A = ℕ} 0 1 = cc in omega arith)
    by (lines []) f e = nothing_read (cc)
    by (lines (d ∷ ds)) f e = let r = f (d ∷ ds) refl in let z : c ≡ with_lines no_lines (d ∷ ds) = cc in all_read d ds r (z ∙ columns_are d ds r)

held_by : (c : Columns) {r : Read} → Gathers c r → Held c
unfolding Held columns_of
held_by c (nothing_read e) = inl (rw e)
held_by c (all_read d ds r e) = inr (rw e (both_sound d ds r))

pub held_some : (c : Columns) → Held c → (c.instructions.count ≡ 0 → ⊥) → (Sound c.instructions) × (Sound c.storages)
unfolding Held
held_some c (inl e) n = absurd (n e)
held_some c (inr h) n = h

module _ (room : ℕ) (c : Columns) where
  pub none_counted : c.instructions.count ≡ 0 → of_columns room c ≡ spec-answer.refused 41 0
  unfolding of_columns
  none_counted e = rw (of_columns, eq-eqb c.instructions.count 0 e)

  pub some_counted : (c.instructions.count ≡ 0 → ⊥) → of_columns room c ≡ spec-answer.fitted room (printed c)
  unfolding of_columns
  some_counted n = rw (of_columns, ne_eqb c.instructions.count 0 n)

counted : (d : Done) (ds : List Done) → (columns_of (d ∷ ds)).instructions.count ≡ 0 → ⊥
unfolding columns_of totals all_instructions
counted d ds z = omega arith

answered_by : (room : ℕ) (c : Columns) {r : Read} → Gathers c r → of_columns room c ≡ of_lines room r
unfolding of_lines
answered_by room c (nothing_read e) = none_counted room c (rw e)
answered_by room c (all_read d ds r e) = rw e (some_counted room (columns_of (d ∷ ds)) (counted d ds) ∙ ap (λ (x : List ℕ). spec-answer.fitted room x) (annex_is (d ∷ ds)))

-- what `count_lines` hands on
module _ (text : List ℕ) (c : Columns) (e : Ok c ≡ onto no_lines (read_from 1 (split line_feed text))) where
  pub held : Held c
  held = held_by c (gathers (split line_feed text) c e)

  pub answered : (room : ℕ) → of_columns room c ≡ answer text room
  unfolding answer
  answered room = answered_by room c (gathers (split line_feed text) c e)

refused_by : (n l room : ℕ) (r : Read) → Err (n, l) ≡ onto no_lines r → of_lines room r ≡ spec-answer.refused n l
unfolding onto of_lines
refused_by n l room (refused m k) e = let t : ◌≡◌ {A = ℕ × ℕ} (n, l) (m, k) = cc in rw (ap (λ (x : ℕ × ℕ). x.0) t, ap (λ (x : ℕ × ℕ). x.1) t)
refused_by n l room (lines ds) e = cc

pub answered_refused : (text : List ℕ) (n l room : ℕ) → Err (n, l) ≡ onto no_lines (read_from 1 (split line_feed text)) → answer text room ≡ spec-answer.refused n l
unfolding answer
answered_refused text n l room e = refused_by n l room (read_from 1 (split line_feed text)) e

-- ---------------------------------------------------------------- one line behind others

onto_more : (c : Columns) (k i s : ℕ) (r : Read) → onto c (joined k (Some (record { instructions = i; storages = s })) r) ≡ onto (with_line c i s) r
unfolding onto joined with_lines
onto_more c k i s (refused n l) = refl
onto_more c k i s (lines ds) = refl

own : {n : ℕ} {t : Totals} → Small n t → Small t.count t
own {t} s = subst (λ (k : ℕ). Small k t) (sym s.count) s

-- k - 1 lines of a text are in the columns, and the rest begins at a position
pub record Going (s : List ℕ) (c : Columns) (k at : ℕ) : Type 0 where
  pub low : 1 ≤ k
  pub high : k ≤ suc line_limit
  pub within : at ≤ length s
  pub instructions : Small (k - 1) c.instructions
  pub storages : Small (k - 1) c.storages
  pub reads : onto c (read_from k (split line_feed (drop at s))) ≡ onto no_lines (read_from 1 (split line_feed s))

pub going_start : (s : List ℕ) (c : Columns) → c ≡ no_lines → Going s c 1 0
going_start s c e = rw e (record { low = omega arith; high = omega arith; within = omega arith; instructions = small_none; storages = small_none; reads = refl })

module _ (s : List ℕ) (c : Columns) (k at : ℕ) (g : Going s c k at) where
  pub going_over : at < length s → line_limit < k → Err (41, k) ≡ onto no_lines (read_from 1 (split line_feed s))
  unfolding onto
  going_over h m = rw (too_many s at k h m) at g.reads

  pub going_end : length s ≤ at → Ok c ≡ onto no_lines (read_from 1 (split line_feed s))
  unfolding onto with_lines
  going_end h = rw (text_ends s at k h) at g.reads

  pub going_bad : k ≤ line_limit → StepAt s at None → Err (42, k) ≡ onto no_lines (read_from 1 (split line_feed s))
  unfolding onto
  going_bad h a = rw (a.step k h) at g.reads

  module _ (i n next : ℕ) (a : StepAt s at (Some (i, n, next))) where
    pub going_more : (d : Columns) → k ≤ line_limit → d ≡ with_line c i n → Going s d (k + 1) next
    unfolding with_line
    going_more d h q =
        let z : k + 1 - 1 ≡ k - 1 + 1 = omega (arith, g.low) in
        rw q
        (record {
          low = omega arith;
          high = omega arith;
          within = a.step.1;
          instructions = rw z (small_more (k - 1) c.instructions i g.instructions a.step.2);
          storages = rw z (small_more (k - 1) c.storages n g.storages a.step.3);
          reads = rw add-one (sym (onto_more c k i n _) ∙ ap (λ (x : Read). onto c x) (sym (a.step.4 k h)) ∙ g.reads);
        })

    -- there is room for one line more, and the text that is left gets shorter
    pub going_room : k ≤ line_limit
        → (Small c.instructions.count c.instructions) × (Small c.storages.count c.storages) × (c.instructions.count < line_limit) × (c.storages.count < line_limit) × (i ≤ count_limit) × (n ≤ count_limit)
    going_room h =
        (own g.instructions, own g.storages, omega (arith, g.low, g.instructions.count), omega (arith, g.low, g.storages.count), a.step.2, a.step.3)

    pub going_less : length s - next < length s - at
    going_less = omega (arith, a.step.0, a.step.1)
