-- Keys of types: what their words say, and what keeps them.
use mathlib.Core.Path.{◌≡◌, refl, sym, ap, ◌∙◌}
use mathlib.Core.Bool.{Bool, true, false}
use mathlib.Core.List.{List, ◌∷◌, []}
use mathlib.Core.Logic.{⊎_elim}
use Prim.Native.Nat.{ℕ, zero, suc, ◌+◌, ◌*◌, ◌/◌, ◌%◌, ◌≤◌, ◌<◌, min}
use native.Mathlib.Omega.{arith}
use native.Mathlib.Nat.{mod-lt, eq-or-lt_of_le, le_of_suc-le-suc}
use native.Mathlib.Numerals.{add-one}
use lib.Dec.{eqb, leb, lit<}
use lib.ListN.{length, get_or, set, drop, length-set, drop_of_length-le}
use lib.Seq.{drop-cons, get_or-set_same, get_or-set_other}
use borrow.Author.Tests.{leb-true, leb-false, eqb-true, eqb-false, eq-eqb, ne_eqb}
use Rattle.spec.specs.Limits.{type_lines}
use Rattle.spec.specs.Text.{same}
use Rattle.spec.specs.Ticket.{TypeWord}
use Rattle.spec.specs.Read.{alike, type_number}
use Rattle.fields.proofs.Lines.{both_true}
use Rattle.tables.specs.Tables.{tab, pick, row_of, type_word_by}
use Rattle.line_checks.specs.Rows.{word_at, row_at, section, type_row, numbers, RowPut}
use Rattle.line_checks.specs.declared.rows.Row.{Row}
use Rattle.line_checks.specs.Keys.{key_from, key_lines, key_of, key_row, key_place, slot_of, stands, with_key, has_key, noted, row_key, Keyed}
use Rattle.line_checks.specs.Steps.{Alike, alike_to}
use Rattle.line_checks.proofs.RowLaws.{Stored, stored}

-- ---------------------------------------------------------------- a key, number by number

-- no number taken yet
pub key_start : (w : ℕ) (xs : List ℕ) → (w % 4294967296 < 4294967296) × (key_of w xs ≡ key_from (w % 4294967296) xs)
unfolding key_of
key_start w xs = (omega arith, refl)

module _ (o h : ℕ) (xs : List ℕ) (i : ℕ) (q : o ≡ key_from h (drop i xs)) where
  -- one number more
  pub key_more : i < length xs → o ≡ key_from ((h * 31 + get_or xs i 0 % 4294967296) % 4294967296) (drop (i + 1) xs)
  unfolding key_from
  key_more l = q ∙ rw (drop-cons xs i 0 l, add-one)

  -- all of them
  pub key_end : length xs ≤ i → h ≡ o
  unfolding key_from
  key_end l = sym (q ∙ rw (drop_of_length-le xs l))

pub ruleset keying = (key_start, key_more, key_end)

-- ---------------------------------------------------------------- where a key's word stands

-- words for keys: for no more lines than there are rows, and for one if there is a row
pub keys_in : (n : ℕ) → key_lines n ≤ n / 40
unfolding key_lines
keys_in n = by (leb (n / 40) type_lines) refl
  where
    by : (t : Bool) → leb (n / 40) type_lines ≡ t → pick t (n / 40) type_lines ≤ n / 40
    by true e = omega arith
    by false e = let g = leb-false (n / 40) type_lines e in omega arith

pub keys_some : (n : ℕ) → 40 ≤ n → 0 < key_lines n
unfolding key_lines
keys_some n l = by (leb (n / 40) type_lines)
  where
    by : (t : Bool) → 0 < pick t (n / 40) type_lines
    by true = omega arith
    by false = lit< tt

-- as the code works it out
pub keys_least : (n : ℕ) → min type_lines (n / 40) ≡ key_lines n
unfolding key_lines
keys_least n = by (leb (n / 40) type_lines) refl
  where
    by : (t : Bool) → leb (n / 40) type_lines ≡ t → min type_lines (n / 40) ≡ pick t (n / 40) type_lines
    by true e = let g = leb-true (n / 40) type_lines e in omega arith
    by false e = let g = leb-false (n / 40) type_lines e in omega arith

module _ (n h : ℕ) where
  -- behind the rows of lines
  pub slot_behind : n / 40 * 6 ≤ key_row n h
  unfolding key_row
  slot_behind = omega arith

  -- not where marks are
  place_low : key_place n h < 5
  unfolding key_place
  place_low = omega arith

  -- one of three for each line
  pub slot_share : (k : ℕ) → k ≡ key_lines n → 40 ≤ n → h % (k * 3) < k * 3
  slot_share k e l = let g = keys_some n l in let p : 0 < k * 3 = omega (arith, e, g) in mod-lt h p

  -- within the words
  slot_in : 40 ≤ n → slot_of n h < n
  unfolding key_row key_place
  slot_in l = let b = slot_share (key_lines n) refl l in let k = keys_in n in omega arith

  -- as the code works it out
  pub slot_is : (k : ℕ) → k ≡ key_lines n → (n / 40 * 6 + h % (k * 3) / 5) * 6 + h % (k * 3) % 5 ≡ slot_of n h
  unfolding key_row key_place
  slot_is k e = rw e

-- ---------------------------------------------------------------- what a key's word says

-- the key that was noted last
stands_new : (f h : ℕ) → stands (with_key f h) h ≡ true
stands_new f h = by (eqb f 0)
  where
    by : (t : Bool) → stands (pick t (h + 2) 1) h ≡ true
    by true = rw (ne_eqb (h + 2) 1 (λ (e : h + 2 ≡ 1). omega arith), eq-eqb (h + 2) (h + 2) refl)
    by false = refl

-- those noted before it
stands_still : (f g h : ℕ) → stands f g ≡ true → stands (with_key f h) g ≡ true
stands_still f g h s = by (eqb f 0) refl
  where
    by : (t : Bool) → eqb f 0 ≡ t → stands (pick t (h + 2) 1) g ≡ true
    by true e =
        let z : f ≡ 0 = eqb-true f 0 e in
        let no : stands f g ≡ false = rw (z, ne_eqb 0 1 (λ (e : 0 ≡ 1). omega arith), ne_eqb 0 (g + 2) (λ (e : 0 ≡ g + 2). omega arith)) in
        cc
    by false e = refl

-- in the words, where one key's word is stored
slot_still : (u : List ℕ) (i j h g : ℕ) → i < length u → stands (get_or u j 0) g ≡ true → stands (get_or (set u i (with_key (get_or u i 0) h)) j 0) g ≡ true
slot_still u i j h g l s = by (eqb j i) refl
  where
    by : (t : Bool) → eqb j i ≡ t → stands (get_or (set u i (with_key (get_or u i 0) h)) j 0) g ≡ true
    by true e = rw (eqb-true j i e, get_or-set_same u i (with_key (get_or u i 0) h) 0 l) (stands_still (get_or u i 0) g h (rw (eqb-true j i e) at s))
    by false e = rw (get_or-set_other u i j (with_key (get_or u i 0) h) 0 (eqb-false j i e)) s

-- ---------------------------------------------------------------- a key's word looked up and stored

module _ (u : List ℕ) (h k at : ℕ) (e : k ≡ h) (q : at ≡ slot_of (length u) k) where
  -- looked up
  pub known_is : (r : Bool) → r ≡ stands (get_or u at 0) k → r ≡ has_key u h
  unfolding has_key
  known_is r g = g ∙ rw (q, e)

  -- stored as the first key, or as one of several
  pub note_first : get_or u at 0 ≡ 0 → set u at (k + 2) ≡ noted u h
  unfolding noted
  note_first z = rw (← e, ← q, eq-eqb (get_or u at 0) 0 z)

  pub note_more : (get_or u at 0 ≡ 0 → ⊥) → set u at 1 ≡ noted u h
  unfolding noted
  note_more z = rw (← e, ← q, ne_eqb (get_or u at 0) 0 z)

pub ruleset noting = (note_first, note_more)

-- ---------------------------------------------------------------- words that say the same of keys

-- the words behind the rows of lines are the same, but for the last of each row
module _ (u t : List ℕ) (l : length t ≡ length u) (e : (q j : ℕ) → length u / 40 * 6 ≤ q → j < 5 → word_at t q j ≡ word_at u q j) where
  keys_same : (h : ℕ) → has_key t h ≡ has_key u h
  unfolding has_key word_at
  keys_same h =
      let g : get_or t (slot_of (length u) h) 0 ≡ get_or u (slot_of (length u) h) 0 = e (key_row (length u) h) (key_place (length u) h) (slot_behind (length u) h) (place_low (length u) h) in
      rw (l, g)

-- keys stay, and the types have the same keys
keyed_as : (u t lu lt : List ℕ) (n : ℕ) → ((h : ℕ) → has_key u h ≡ true → has_key t h ≡ true)
    → ((k : ℕ) → k < n → row_key lt (row_at t (row_of 0 k)) ≡ row_key lu (row_at u (row_of 0 k))) → Keyed u lu n → Keyed t lt n
keyed_as u t lu lt n f g i = record { each = λ k h. rw (g k h) (f (row_key lu (row_at u (row_of 0 k))) (i.each k h)) }

-- a word of two rows that are the same
row_word : (u t : List ℕ) (q j : ℕ) → j < 5 → row_at t q ≡ row_at u q → word_at t q j ≡ word_at u q j
unfolding row_at
row_word u t q zero h e = ap (λ (r : Row). r.word) e
row_word u t q (suc zero) h e = ap (λ (r : Row). r.start) e
row_word u t q (suc (suc zero)) h e = ap (λ (r : Row). r.count) e
row_word u t q (suc (suc (suc zero))) h e = ap (λ (r : Row). r.third) e
row_word u t q (suc (suc (suc (suc zero)))) h e = ap (λ (r : Row). r.fourth) e
row_word u t q (suc (suc (suc (suc (suc j))))) h e = absurd (omega arith)

-- a line's row anew
module _ (u t ls : List ℕ) (r : ℕ) (x : Row) (p : RowPut u t r x) (l : r < length u / 40 * 6) where
  pub put_keys : (h : ℕ) → has_key t h ≡ has_key u h
  put_keys = keys_same u t p.long (λ q j g m. row_word u t q j m (p.others q (λ (e : q ≡ r). omega arith)))

  pub keyed_put : (n : ℕ) → ((k : ℕ) → k < n → row_of 0 k ≡ r → ⊥) → Keyed u ls n → Keyed t ls n
  keyed_put n o = keyed_as u t ls ls n (λ h g. put_keys h ∙ g) (λ k h. ap (row_key ls) (p.others (row_of 0 k) (o k h)))

-- marks made
pub keyed_marks : (u t ls : List ℕ) (n : ℕ) → Alike u t → length t ≡ length u → Keyed u ls n → Keyed t ls n
keyed_marks u t ls n a l =
    keyed_as u t ls ls n
    (λ h g. keys_same u t l (λ q j b m. a.cells q j (λ (e : j ≡ 5). omega arith) (omega arith)) h ∙ g)
    (λ k h. ap (row_key ls) (a.rows 0 k (lit< tt)))

-- numbers of the types' rows that are kept
pub keyed_lists : (ws u t : List ℕ) (n : ℕ) → ((k : ℕ) → k < n → numbers t (row_at ws (row_of 0 k)) ≡ numbers u (row_at ws (row_of 0 k))) → Keyed ws u n → Keyed ws t n
keyed_lists ws u t n e = keyed_as ws ws u t n (λ h g. g) (λ k h. rw (e k h))

-- ---------------------------------------------------------------- a key noted

module _ (u : List ℕ) (h : ℕ) (l : 40 ≤ length u) where
  -- one word is other than it was
  note_stored : Stored u (noted u h) (key_row (length u) h) (key_place (length u) h) (with_key (get_or u (slot_of (length u) h) 0) h)
  unfolding noted
  note_stored =
      let b = place_low (length u) h in
      stored u (key_row (length u) h) (key_place (length u) h) (with_key (get_or u (slot_of (length u) h) 0) h) (omega arith) (slot_in (length u) h l)

  -- and so one row
  pub note_put : RowPut u (noted u h) (key_row (length u) h) (row_at (noted u h) (key_row (length u) h))
  unfolding row_at
  note_put =
      let s = note_stored in
      record {
        here = refl;
        others = λ q o.
            rw (
              s.others q 0 (lit< tt) (λ p g. o p),
              s.others q 1 (lit< tt) (λ p g. o p),
              s.others q 2 (lit< tt) (λ p g. o p),
              s.others q 3 (lit< tt) (λ p g. o p),
              s.others q 4 (lit< tt) (λ p g. o p),
              s.others q 5 (lit< tt) (λ p g. o p),
            );
        long = s.long;
      }

  -- the key is there
  pub note_has : has_key (noted u h) h ≡ true
  unfolding has_key noted
  note_has =
      rw (
        length-set u (slot_of (length u) h) (with_key (get_or u (slot_of (length u) h) 0) h),
        get_or-set_same u (slot_of (length u) h) (with_key (get_or u (slot_of (length u) h) 0) h) 0 (slot_in (length u) h l),
      ) (stands_new (get_or u (slot_of (length u) h) 0) h)

  -- those that were there still are
  note_still : (g : ℕ) → has_key u g ≡ true → has_key (noted u h) g ≡ true
  unfolding has_key noted
  note_still g s =
      rw (length-set u (slot_of (length u) h) (with_key (get_or u (slot_of (length u) h) 0) h)) (slot_still u (slot_of (length u) h) (slot_of (length u) g) h g (slot_in (length u) h l) s)

  -- and so are the types'
  pub keyed_note : (ls : List ℕ) (n : ℕ) → n * 6 ≤ length u / 40 * 6 → Keyed u ls n → Keyed (noted u h) ls n
  keyed_note ls n m =
      let b = slot_behind (length u) h in
      keyed_as u (noted u h) ls ls n note_still (λ k g. ap (row_key ls) (note_put.others (row_of 0 k) (λ (e : row_of 0 k ≡ key_row (length u) h). omega arith)))

-- one type more
pub keyed_more : (t ls : List ℕ) (n : ℕ) → Keyed t ls n → has_key t (row_key ls (row_at t (row_of 0 n))) ≡ true → Keyed t ls (n + 1)
keyed_more t ls n i e = record { each = λ k h. by k h }
  where
    suc_of : (k : ℕ) → k < n + 1 → suc k ≤ suc n
    suc_of k h = omega arith

    by : (k : ℕ) → k < n + 1 → has_key t (row_key ls (row_at t (row_of 0 k))) ≡ true
    by k h = ⊎_elim (λ (q : k ≡ n). rw q e) (λ (b : k < n). i.each k b) (eq-or-lt_of_le (le_of_suc-le-suc (suc_of k h)))

-- ---------------------------------------------------------------- no type is alike where the key is not there

-- the same numbers make the same key
same_keys : (h : ℕ) (xs ys : List ℕ) → same xs ys ≡ true → key_from h xs ≡ key_from h ys
unfolding same key_from
same_keys h [] [] e = refl
same_keys h [] (y ∷ ys) e = cc
same_keys h (x ∷ xs) [] e = cc
same_keys h (x ∷ xs) (y ∷ ys) e =
    let g = both_true (eqb x y) (same xs ys) e in
    rw (eqb-true x y g.0) (same_keys ((h * 31 + y % 4294967296) % 4294967296) xs ys g.1)

module _ (ws ls : List ℕ) (w : TypeWord) (n : ℕ) (xs : List ℕ) (i : Keyed ws ls n) (o : has_key ws (key_of (type_number w) xs) ≡ false) where
  -- a type has another key
  unlike_row : (k : ℕ) → k < n → alike_to w xs (type_row ls (row_at ws (row_of 0 k))) ≡ false
  unfolding key_of
  unlike_row k h = by (alike_to w xs (type_row ls (row_at ws (row_of 0 k)))) refl
    where
      by : (t : Bool) → alike_to w xs (type_row ls (row_at ws (row_of 0 k))) ≡ t → t ≡ false
      by true e =
          let g = both_true (eqb (type_number w) (type_number (type_word_by (row_at ws (row_of 0 k)).word))) (same xs (numbers ls (row_at ws (row_of 0 k)))) e in
          let d : key_of (type_number w) xs ≡ row_key ls (row_at ws (row_of 0 k)) = rw (eqb-true (type_number w) (type_number (type_word_by (row_at ws (row_of 0 k)).word)) g.0) (same_keys _ xs (numbers ls (row_at ws (row_of 0 k))) g.1) in
          sym (i.each k h) ∙ ap (has_key ws) (sym d) ∙ o
      by false e = refl

  -- and so have those from the j-th on
  unlike_rows : (j m : ℕ) → j + m ≤ n → alike w xs (tab (λ k. type_row ls (row_at ws (row_of 0 k))) j m) ≡ false
  unfolding tab alike
  unlike_rows j zero h = refl
  unlike_rows j (suc m) h = rw (unlike_row j (omega arith), unlike_rows (suc j) m (omega arith))

  -- all
  unlike_all : alike w xs (section (type_row ls) ws 0 n) ≡ false
  unfolding section
  unlike_all = unlike_rows 0 n (omega arith)

-- as the code finds it
pub unlike_known : (ws ls : List ℕ) (w : TypeWord) (n k : ℕ) (xs : List ℕ) (b : Bool) → Keyed ws ls n → k ≡ type_number w → b ≡ has_key ws (key_of k xs) → b ≡ false
    → false ≡ alike w xs (section (type_row ls) ws 0 n)
unlike_known ws ls w n k xs b i e g h = sym (unlike_all ws ls w n xs i (rw (← e) (sym g ∙ h)))
