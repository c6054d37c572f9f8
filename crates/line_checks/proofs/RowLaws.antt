-- Rows in the words of a table: what a store changes, and sections of rows.
use mathlib.Core.Path.{◌≡◌, refl, sym, ap, ◌∙◌}
use mathlib.Core.Bool.{Bool, true, false}
use mathlib.Core.List.{List, ◌∷◌, ◌++◌, []}
use mathlib.Core.Logic.{◌≢◌}
use Prim.Native.Nat.{ℕ, zero, suc, ◌+◌, ◌-◌, ◌*◌, ◌≤◌, ◌<◌}
use native.Mathlib.Omega.{arith}
use native.Mathlib.Nat.{add-zero, zero-add}
use lib.Dec.{ltb, lit<}
use lib.ListN.{length, get_or, set, take, drop, length-set, length-append, length-drop, get_or-append, get_or-eq_default}
use lib.Seq.{get_or-set_same, get_or-set_other, set_out, length-take-le}
use Rattle.std.proofs.lemmas.List.{get_or-take, get_or-drop, get_or-append_right}
use borrow.Author.Tests.{lt-ltb, ltb-true, ltb-false, ne_eqb}
use Rattle.tables.specs.Tables.{tab, row_of, cell}
use Rattle.tables.proofs.Laws.{length_tab, get_d_tab_in}
use Rattle.fields.proofs.Tabs.{tab_more, tab_same}
use Rattle.line_checks.specs.Rows.{word_at, row_at, section, marked, RowPut, MarkAt}
use Rattle.line_checks.specs.declared.rows.Row.{Row}

-- a word stored
pub record Stored (u t : List ℕ) (r j v : ℕ) : Type 0 where
  pub here : word_at t r j ≡ v
  pub others : (q i : ℕ) → i < 6 → (q ≡ r → i ≡ j → ⊥) → word_at t q i ≡ word_at u q i
  pub long : length t ≡ length u

pub stored : (u : List ℕ) (r j v : ℕ) → j < 6 → r * 6 + j < length u → Stored u (set u (r * 6 + j) v) r j v
unfolding word_at
stored u r j v h l =
    record {
      here = get_or-set_same u (r * 6 + j) v 0 l;
      others = λ q i g n. get_or-set_other u (r * 6 + j) (q * 6 + i) v 0 (other q i g n);
      long = length-set u (r * 6 + j) v;
    }
  where
    other : (q i : ℕ) → i < 6 → (q ≡ r → i ≡ j → ⊥) → q * 6 + i ≢ r * 6 + j
    other q i g n e = n (omega arith) (omega arith)

-- six words from p on anew
abbrev with_six : ℕ → List ℕ → List ℕ → List ℕ
with_six p u xs = take p u ++ (xs ++ drop 6 (drop p u))

module _ (u xs : List ℕ) (p : ℕ) (n : length xs ≡ 6) (l : p + 6 ≤ length u) where
  front : length (take p u) ≡ p
  front = length-take-le p u (omega arith)

  six_before : (i : ℕ) → i < p → get_or (with_six p u xs) i 0 ≡ get_or u i 0
  six_before i h = get_or-append (take p u) (xs ++ drop 6 (drop p u)) 0 i (rw front h) ∙ get_or-take p u i 0 h

  six_at : (j : ℕ) → j < 6 → get_or (with_six p u xs) (p + j) 0 ≡ get_or xs j 0
  six_at j h =
      get_or-append_right (take p u) (xs ++ drop 6 (drop p u)) p (p + j) 0 front (omega arith)
      ∙ (let z : p + j - p ≡ j = omega arith in rw z (get_or-append xs (drop 6 (drop p u)) 0 j (rw n h)))

  six_behind : (i : ℕ) → p + 6 ≤ i → get_or (with_six p u xs) i 0 ≡ get_or u i 0
  six_behind i h =
      get_or-append_right (take p u) (xs ++ drop 6 (drop p u)) p i 0 front (omega arith)
      ∙ get_or-append_right xs (drop 6 (drop p u)) 6 (i - p) 0 n (omega arith)
      ∙ get_or-drop 6 (drop p u) (i - p - 6) 0
      ∙ get_or-drop p u (6 + (i - p - 6)) 0
      ∙ (let z : p + (6 + (i - p - 6)) ≡ i = omega arith in rw z)

  six_long : length (with_six p u xs) ≡ length u
  six_long =
      let a = length-append (take p u) (xs ++ drop 6 (drop p u)) in
      let b = length-append xs (drop 6 (drop p u)) in
      omega (arith, a, b, front, n, length-drop 6 (drop p u), length-drop p u)

module _ (u xs : List ℕ) (r : ℕ) (n : length xs ≡ 6) (l : r * 6 + 6 ≤ length u) where
  six_others : (q j : ℕ) → (q ≡ r → ⊥) → j < 6 → get_or (with_six (r * 6) u xs) (q * 6 + j) 0 ≡ get_or u (q * 6 + j) 0
  six_others q j o h = by (ltb q r) refl
    where
      by : (t : Bool) → ltb q r ≡ t → get_or (with_six (r * 6) u xs) (q * 6 + j) 0 ≡ get_or u (q * 6 + j) 0
      by true e = let g = ltb-true q r e in six_before u xs (r * 6) n l (q * 6 + j) (omega arith)
      by false e = let g = ltb-false q r e in six_behind u xs (r * 6) n l (q * 6 + j) (omega (arith, o))

pub put_row : (u xs : List ℕ) (r : ℕ) (x : Row) → r * 6 + 6 ≤ length u → xs ≡ x.word ∷ x.start ∷ x.count ∷ x.third ∷ x.fourth ∷ x.fifth ∷ []
    → RowPut u (take (r * 6) u ++ (xs ++ drop (r * 6 + 6 - r * 6) (drop (r * 6) u))) r x
unfolding row_at word_at
put_row u xs r x l e =
    let z : r * 6 + 6 - r * 6 ≡ 6 = omega arith in
    let n : length xs ≡ 6 = rw e in
    let here = six_at u xs (r * 6) n l in
    rw z record {
      here = rw (here 0 (lit< tt), here 1 (lit< tt), here 2 (lit< tt), here 3 (lit< tt), here 4 (lit< tt), here 5 (lit< tt), e);
      others = λ q o. let same = λ (j : ℕ) (h : j < 6). six_others u xs r n l q j o h in rw (same 0 (lit< tt), same 1 (lit< tt), same 2 (lit< tt), same 3 (lit< tt), same 4 (lit< tt), same 5 (lit< tt));
      long = six_long u xs (r * 6) n l;
    }

-- ---------------------------------------------------------------- sections

module _ {A : Type 0} (f : Row → A) where
  pub length_section : (ws : List ℕ) (base n : ℕ) → length (section f ws base n) ≡ n
  unfolding section
  length_section ws base n = length_tab (λ k. f (row_at ws (row_of base k))) 0 n

  pub section_at : (ws : List ℕ) (base n k : ℕ) (d : A) → k < n → get_or (section f ws base n) k d ≡ f (row_at ws (row_of base k))
  unfolding section
  section_at ws base n k d h = get_d_tab_in (λ k. f (row_at ws (row_of base k))) d 0 n k h ∙ rw zero-add

  pub section_past : (ws : List ℕ) (base n k : ℕ) (d : A) → n ≤ k → get_or (section f ws base n) k d ≡ d
  section_past ws base n k d h = get_or-eq_default (section f ws base n) d (rw (length_section ws base n) h)

  -- rows that f reads alike
  pub section_same : (u t : List ℕ) (base n : ℕ) → ((k : ℕ) → k < n → f (row_at t (row_of base k)) ≡ f (row_at u (row_of base k))) → section f t base n ≡ section f u base n
  unfolding section
  section_same u t base n h = tab_same (λ k. f (row_at t (row_of base k))) (λ k. f (row_at u (row_of base k))) 0 n (λ k l g. h k (omega arith))

  -- one row more
  pub section_more : (u t : List ℕ) (base n : ℕ) (x : Row) → RowPut u t (row_of base n) x → section f t base (n + 1) ≡ section f u base n ++ (f x ∷ [])
  unfolding section
  section_more u t base n x p =
      tab_more (λ k. f (row_at t (row_of base k))) 0 n
      ∙ rw (zero-add, p.here, section_same u t base n (λ k h. ap f (p.others (row_of base k) (before k h))))
    where
      before : (k : ℕ) → k < n → row_of base k ≡ row_of base n → ⊥
      before k h e = omega arith

  -- rows elsewhere
  pub section_kept : (u t : List ℕ) (base n r : ℕ) (x : Row) → RowPut u t r x → ((k : ℕ) → k < n → row_of base k ≡ r → ⊥) → section f t base n ≡ section f u base n
  section_kept u t base n r x p h = section_same u t base n (λ k l. ap f (p.others (row_of base k) (h k l)))

-- a word of a row that there is, looked up
pub cell_here : (ws : List ℕ) (base n k j other : ℕ) → k < n → word_at ws (row_of base k) j ≡ cell ws base n k j other
unfolding word_at cell
cell_here ws base n k j other h = rw (lt-ltb k n h)

-- ---------------------------------------------------------------- marks

tab_set : {A : Type 0} (f g : ℕ → A) (v : A) (j n k : ℕ) → k < n → g (j + k) ≡ v → ((i : ℕ) → (i ≡ j + k → ⊥) → g i ≡ f i) → tab g j n ≡ set (tab f j n) k v
unfolding tab
tab_set f g v j zero k h e o = absurd (omega arith)
tab_set f g v j (suc n) zero h e o =
    let e' : g j ≡ v = rw add-zero at e in
    rw (e', tab_same g f (suc j) n (λ i l u. o i (λ (q : i ≡ j + 0). omega arith)))
tab_set f g v j (suc n) (suc k) h e o =
    let s : suc j + k ≡ j + suc k = omega arith in
    rw (o j (λ (q : j ≡ j + suc k). omega arith), tab_set f g v (suc j) n k (omega arith) (rw s e) (λ i q. o i (rw s at q)))

cell_is : (u : List ℕ) (r j v : ℕ) → get_or u (r * 6 + j) 0 ≡ v → word_at u r j ≡ v
unfolding word_at
cell_is u r j v e = e

module _ (u : List ℕ) (base n k : ℕ) where
  pub mark_out : n ≤ k → MarkAt u u base n k true
  mark_out h =
      record {
        answer = sym (section_past marked u base n k false h);
        marks = sym (set_out (section marked u base n) k true (rw (length_section marked u base n) h));
        cells = λ q j a b. refl;
        others = λ q o. refl;
      }

  pub mark_was : k < n → (get_or u (row_of base k * 6 + 5) 0 ≡ 0 → ⊥) → MarkAt u u base n k false
  unfolding row_at word_at section
  mark_was h e =
      let was : marked (row_at u (row_of base k)) ≡ true = rw (ne_eqb (get_or u (row_of base k * 6 + 5) 0) 0 e) in
      record {
        answer = sym (section_at marked u base n k false h ∙ was);
        marks = tab_set (λ i. marked (row_at u (row_of base i))) (λ i. marked (row_at u (row_of base i))) true 0 n k h (rw (zero-add) was) (λ i o. refl);
        cells = λ q j a b. refl;
        others = λ q o. refl;
      }

  pub mark_now : k < n → base < 6 → n * 36 ≤ length u → get_or u (row_of base k * 6 + 5) 0 ≡ 0 → MarkAt u (set u (row_of base k * 6 + 5) 1) base n k true
  unfolding row_at section
  mark_now h b l e =
      let s = stored u (row_of base k) 5 1 (lit< tt) (omega arith) in
      let z : word_at u (row_of base k) 5 ≡ 0 = cell_is u (row_of base k) 5 0 e in
      record {
        answer = sym (section_at marked u base n k false h ∙ rw z);
        marks = tab_set (λ i. marked (row_at u (row_of base i))) (λ i. marked (row_at (set u (row_of base k * 6 + 5) 1) (row_of base i))) true 0 n k h (rw (zero-add, s.here)) (λ i o. rw (s.others (row_of base i) 5 (lit< tt) (λ (p : row_of base i ≡ row_of base k) q. o (omega arith))));
        cells = λ q j a b. s.others q j b (λ p g. a g);
        others = λ q o.
            rw (
              s.others q 0 (lit< tt) (λ p g. o h p),
              s.others q 1 (lit< tt) (λ p g. o h p),
              s.others q 2 (lit< tt) (λ p g. o h p),
              s.others q 3 (lit< tt) (λ p g. o h p),
              s.others q 4 (lit< tt) (λ p g. o h p),
              s.others q 5 (lit< tt) (λ p g. o h p),
            );
      }

pub ruleset marking = (mark_out, mark_was, mark_now)
