-- Types compared and measured, from number to number.
use mathlib.Core.Path.{◌≡◌, refl, sym, ◌∙◌}
use mathlib.Core.Bool.{Bool, true, false, ◌&&◌}
use mathlib.Core.List.{List, ◌∷◌, []}
use Rattle.std.specs.Prelude.{Option, None, Some}
use Prim.Native.Nat.{ℕ, zero, suc, ◌+◌, ◌-◌, ◌≤◌, ◌<◌}
use native.Mathlib.Omega.{arith}
use native.Mathlib.Nat.{add-zero}
use native.Mathlib.Numerals.{add-one}
use lib.Dec.{eqb, leb, lit≤}
use lib.ListN.{length, get_or, take, drop, drop_of_length-le}
use lib.Seq.{drop-cons}
use borrow.Author.Tests.{le-leb, lt-leb, eq-eqb, ne_eqb, leb-true, leb-false, lt-ltb}
use Rattle.std.specs.Cmp.Lexicographic.{pointwise}
use Rattle.spec.specs.Text.{same}
use Rattle.tables.specs.Tables.{tab, pick, row_of, run, cell, type_word_by}
use Rattle.fields.proofs.Tabs.{tab_here, tab_done}
use Rattle.spec.specs.Ticket.{TypeWord, t_unit, t_bool, t_bits, t_float, t_pointer, t_array, t_struct, t_tuple, t_opaque, sum, weight_by}
use Rattle.spec.specs.Read.{alike, type_number}
use Rattle.line_checks.specs.Rows.{row_at, section, type_row, word_at, numbers, Held}
use Rattle.tables.specs.declared.Counts.{Counts}
use Rattle.line_checks.specs.declared.Measure.{Measure}
use Rattle.line_checks.specs.Steps.{capped, both_within, alike_to}

-- ---------------------------------------------------------------- within a limit

pub cap_in : (limit n : ℕ) → n ≤ limit → Some n ≡ capped limit n
unfolding capped
cap_in limit n h = rw (le-leb n limit h)

pub cap_out : (limit n : ℕ) → limit < n → None ≡ capped limit n
unfolding capped
cap_out limit n h = rw (lt-leb n limit h)

pub cap_some : (limit n m : ℕ) → Some m ≡ capped limit n → (m ≡ n) × (n ≤ limit)
unfolding capped
cap_some limit n m e = by (leb n limit) refl e
  where
    by : (t : Bool) → leb n limit ≡ t → Some m ≡ pick t (Some n) None → (m ≡ n) × (n ≤ limit)
    by true q h = (cc, leb-true n limit q)
    by false q h = absurd (let z : ◌≡◌ {A = ℕ} 0 1 = cc in omega arith)

pub cap_none : (limit n : ℕ) → None ≡ capped limit n → limit < n
unfolding capped
cap_none limit n e = by (leb n limit) refl e
  where
    by : (t : Bool) → leb n limit ≡ t → None ≡ pick t (Some n) None → limit < n
    by true q h = absurd (let z : ◌≡◌ {A = ℕ} 0 1 = cc in omega arith)
    by false q h = leb-false n limit q

pub ruleset capping = (cap_in, cap_out, cap_some, cap_none)

-- ---------------------------------------------------------------- runs

pub run_taken : (ls : List ℕ) (a n : ℕ) → a + n ≤ length ls → take n (drop a ls) ≡ run ls a n
unfolding run tab
run_taken ls a zero h = refl
run_taken ls a (suc n) h = rw (drop-cons ls a 0 (omega arith), run_taken ls (suc a) n (omega arith))

-- numbers as they are lent
pub slice_run : (ls : List ℕ) (a n : ℕ) → a + n ≤ length ls → take (a + n - a) (drop a ls) ≡ run ls a n
slice_run ls a n h = let e : a + n - a ≡ n = omega arith in rw e (run_taken ls a n h)

-- `same` as `==` has it
pub same_is : (xs ys : List ℕ) → pointwise eqb xs ys ≡ same xs ys
unfolding same
same_is [] [] = refl
same_is [] (y ∷ ys) = refl
same_is (x ∷ xs) [] = refl
same_is (x ∷ xs) (y ∷ ys) = rw (same_is xs ys)

-- ---------------------------------------------------------------- sums and products

module _ (o : Option ℕ) (f : ℕ → ℕ) (xs : List ℕ) (limit total i : ℕ) (q : o ≡ capped limit (total + sum f (drop i xs))) where
  pub sum_end : length xs ≤ i → total ≤ limit → Some total ≡ o
  sum_end h l = sym (q ∙ rw (drop_of_length-le xs h, add-zero) (sym (cap_in limit total l)))

  pub sum_over : (x : ℕ) → i < length xs → x ≡ f (get_or xs i 0) → limit < total + x → None ≡ o
  sum_over x h e l = sym (q ∙ rw (drop-cons xs i 0 h) (sym (cap_out limit _ (omega arith))))

  pub sum_more : (x : ℕ) → i < length xs → x ≡ f (get_or xs i 0) → o ≡ capped limit (total + x + sum f (drop (i + 1) xs))
  sum_more x h e =
      let g : total + (f (get_or xs i 0) + sum f (drop (suc i) xs)) ≡ total + x + sum f (drop (i + 1) xs) = rw add-one (omega arith) in
      q ∙ rw (drop-cons xs i 0 h, g)

pub ruleset summing = (sum_end, sum_over, sum_more)

-- a type weighs one at least
pub weighs : (f : ℕ → ℕ) (w : TypeWord) (xs : List ℕ) → 1 ≤ weight_by f w xs
weighs f t_unit xs = lit≤ tt
weighs f t_bool xs = lit≤ tt
weighs f t_bits xs = lit≤ tt
weighs f t_float xs = lit≤ tt
weighs f t_pointer xs = lit≤ tt
weighs f t_array xs = omega arith
weighs f t_struct xs = omega arith
weighs f t_tuple xs = omega arith
weighs f t_opaque xs = lit≤ tt

-- ---------------------------------------------------------------- a size and a weight within their limits

module _ (a b s w : ℕ) where
  pub size_over : None ≡ capped a s → None ≡ both_within a b s w
  unfolding both_within
  size_over e = rw (lt-leb s a (cap_none a s e))

  pub weight_over : None ≡ capped b w → None ≡ both_within a b s w
  unfolding both_within
  weight_over e = rw (lt-leb w b (cap_none b w e)) (by (leb s a))
    where
      by : (t : Bool) → ◌≡◌ {A = Option Measure} None (pick (t && false) (Some (record { size = s; weight = w })) None)
      by true = refl
      by false = refl

  pub measured_in : (x y : ℕ) → Some x ≡ capped a s → Some y ≡ capped b w → Some (record { size = x; weight = y }) ≡ both_within a b s w
  unfolding both_within
  measured_in x y e g =
      let p = cap_some a s x e in
      let q = cap_some b w y g in
      rw (le-leb s a p.1, le-leb w b q.1, p.0, q.0)

pub ruleset measuring = (size_over, weight_over, measured_in)

-- ---------------------------------------------------------------- alike types

module _ (ls ws : List ℕ) (w : TypeWord) (n : ℕ) (xs : List ℕ) where
  pub alike_start : alike w xs (section (type_row ls) ws 0 n) ≡ alike w xs (tab (λ k. type_row ls (row_at ws (row_of 0 k))) 0 (n - 0))
  unfolding section
  alike_start = let z : n - 0 ≡ n = omega arith in rw z

  module _ (o : Bool) (i : ℕ) (q : o ≡ alike w xs (tab (λ k. type_row ls (row_at ws (row_of 0 k))) i (n - i))) where
    pub alike_end : n ≤ i → false ≡ o
    unfolding alike
    alike_end h = sym (q ∙ rw (tab_done (λ k. type_row ls (row_at ws (row_of 0 k))) i n h))

    pub alike_here : (b : Bool) → i < n → b ≡ alike_to w xs (type_row ls (row_at ws (row_of 0 i))) → b ≡ true → true ≡ o
    unfolding alike
    alike_here b h p g = sym (q ∙ rw (tab_here (λ k. type_row ls (row_at ws (row_of 0 k))) i n h, ← p, g))

    pub alike_next : (b : Bool) → i < n → b ≡ alike_to w xs (type_row ls (row_at ws (row_of 0 i))) → b ≡ false
        → o ≡ alike w xs (tab (λ k. type_row ls (row_at ws (row_of 0 k))) (i + 1) (n - (i + 1)))
    unfolding alike
    alike_next b h p g = q ∙ rw (tab_here (λ k. type_row ls (row_at ws (row_of 0 k))) i n h, ← p, g)

-- ---------------------------------------------------------------- a row compared

row_cell : (ws : List ℕ) (n k j other v : ℕ) → k < n → v ≡ cell ws 0 n k j other → v ≡ word_at ws (row_of 0 k) j
unfolding cell word_at
row_cell ws n k j other v h e = e ∙ rw (lt-ltb k n h)

module _ (ls ws xs : List ℕ) (w : TypeWord) (n k v : ℕ) (h : k < n) (p : v ≡ cell ws 0 n k 0 0) where
  pub row_other : (type_number w ≡ type_number (type_word_by v) → ⊥) → false ≡ alike_to w xs (type_row ls (row_at ws (row_of 0 k)))
  unfolding row_at
  row_other o = rw (← row_cell ws n k 0 0 v h p, ne_eqb (type_number w) (type_number (type_word_by v)) o)

  pub row_same : w ≡ type_word_by v → (a b : ℕ) → a ≡ cell ws 0 n k 1 0 → b ≡ cell ws 0 n k 2 0 → a + b ≤ length ls
      → pointwise eqb xs (take (a + b - a) (drop a ls)) ≡ alike_to w xs (type_row ls (row_at ws (row_of 0 k)))
  unfolding row_at numbers
  row_same e a b s t l =
      rw (
        slice_run ls a b l,
        same_is xs (run ls a b),
        ← row_cell ws n k 0 0 v h p,
        ← e,
        eq-eqb (type_number w) (type_number w) refl,
        ← row_cell ws n k 1 0 a h s,
        ← row_cell ws n k 2 0 b h t,
      )

-- a row's numbers are within those in use
pub row_ends : (ws : List ℕ) (c : Counts) (k a b : ℕ) → Held ws c → k < c.types → a ≡ cell ws 0 c.types k 1 0 → b ≡ cell ws 0 c.types k 2 0 → a + b ≤ c.used
row_ends ws c k a b held h s t =
    rw (row_cell ws c.types k 1 0 a h s, row_cell ws c.types k 2 0 b h t) (held.types.ends k h)
