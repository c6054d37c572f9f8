-- Positions of marks, and `split` by them.
use mathlib.Core.Path.{◌≡◌, refl, sym, ◌∙◌}
use mathlib.Core.Bool.{Bool, true, false}
use mathlib.Core.List.{List, ◌∷◌, []}
use Prim.Native.Nat.{ℕ, suc, ◌+◌, ◌-◌, ◌≤◌, ◌<◌}
use native.Mathlib.Omega.{arith}
use native.Mathlib.Numerals.{add-one}
use lib.Dec.{eqb, leb, ltb, leb-suc-suc}
use lib.ListN.{length, get_or, take, drop, drop_of_length-le, length-drop}
use lib.Seq.{drop-cons, drop-drop}
use borrow.Author.Tests.{lt-ltb, le-leb, lt-leb, eq-eqb, ne_eqb, leb-true, leb-false}
use Rattle.spec.specs.Text.{split, comma}
use Rattle.tables.specs.Tables.{pick}
use Rattle.fields.specs.Fields.{index, Found, fields_from}

-- ---------------------------------------------------------------- `index` from byte to byte

module _ (s : List ℕ) (b i n : ℕ) (p : n ≡ i + index b (drop i s)) where
  pub index_end : length s ≤ i → i ≡ n
  unfolding index
  index_end h = sym (p ∙ rw (drop_of_length-le s h) (omega arith))

  pub index_here : i < length s → get_or s i 0 ≡ b → i ≡ n
  unfolding index
  index_here h e = sym (p ∙ rw (drop-cons s i 0 h, index, eq-eqb (get_or s i 0) b e) (omega arith))

  pub index_more : i < length s → (get_or s i 0 ≡ b → ⊥) → n ≡ (i + 1) + index b (drop (i + 1) s)
  unfolding index
  index_more h e = p ∙ rw (drop-cons s i 0 h, index, ne_eqb (get_or s i 0) b e, add-one) (omega arith)

-- the mark is not before i, and stands there, or the text ends there
module _ (s : List ℕ) (from b i : ℕ) (p : from + index b (drop from s) ≡ i + index b (drop i s)) (l : from ≤ i) where
  pub found_end : i ≡ length s → Found s from b i
  found_end e = record { low = l; high = omega arith; here = index_end s b i (from + index b (drop from s)) p (omega arith) }

  pub found_here : i < length s → get_or s i 0 ≡ b → Found s from b i
  found_here h e = record { low = l; high = omega arith; here = index_here s b i (from + index b (drop from s)) p h e }

pub ruleset find_laws = (found_end, found_here, index_more)

-- ---------------------------------------------------------------- `split` at the first mark

behind : ℕ → List ℕ → ℕ → List (List ℕ)
behind b s k = pick (ltb k (length s)) (split b (drop (suc k) s)) []

split_head : (b x : ℕ) (xs : List ℕ) (t : Bool) → eqb x b ≡ t → split b xs ≡ take (index b xs) xs ∷ behind b xs (index b xs)
    → split b (x ∷ xs) ≡ take (index b (x ∷ xs)) (x ∷ xs) ∷ behind b (x ∷ xs) (index b (x ∷ xs))
unfolding split index behind
split_head b x xs true e h = rw (split, index, e, lt-ltb 0 (length (x ∷ xs)) (omega arith))
split_head b x xs false e h = rw (split, index, e, h, leb-suc-suc)

split_at : (b : ℕ) (s : List ℕ) → split b s ≡ take (index b s) s ∷ behind b s (index b s)
unfolding split index behind
split_at b [] = refl
split_at b (x ∷ xs) = split_head b x xs (eqb x b) refl (split_at b xs)

pub index_most : (b : ℕ) (s : List ℕ) → index b s ≤ length s
unfolding index
index_most b [] = omega arith
index_most b (x ∷ xs) = most (eqb x b) refl (index_most b xs)
  where
    most : (t : Bool) → eqb x b ≡ t → index b xs ≤ length xs → index b (x ∷ xs) ≤ suc (length xs)
    most true e h = rw (index, e) (omega arith)
    most false e h = rw (index, e) (omega arith)

pub fields_start : (s : List ℕ) → split comma s ≡ fields_from s 0
unfolding fields_from
fields_start s = rw (le-leb 0 (length s) (omega arith))

pub fields_none : (s : List ℕ) (p : ℕ) → length s < p → fields_from s p ≡ []
unfolding fields_from
fields_none s p h = rw (lt-leb p (length s) h)

-- what follows a mark at e, seen from p
behind_from : (b : ℕ) (s : List ℕ) (p e : ℕ) → p ≤ e → e ≤ length s → behind b (drop p s) (e - p) ≡ pick (leb (e + 1) (length s)) (split b (drop (e + 1) s)) []
unfolding behind
behind_from b s p e l h =
    let n : suc (e - p) ≡ e + 1 - p = omega arith in
    let m : p + suc (e - p) ≡ e + 1 = omega arith in
    rw (drop-drop (suc (e - p)) p s, m, length-drop p s, n) (by (leb (e + 1) (length s)) refl)
  where
    by : (t : Bool) → leb (e + 1) (length s) ≡ t
        → pick (leb (e + 1 - p) (length s - p)) (split b (drop (e + 1) s)) [] ≡ pick (leb (e + 1) (length s)) (split b (drop (e + 1) s)) []
    by true q = rw (q, le-leb (e + 1 - p) (length s - p) (omega (arith, leb-true (e + 1) (length s) q)))
    by false q = rw (q, lt-leb (e + 1 - p) (length s - p) (omega (arith, leb-false (e + 1) (length s) q)))

-- a split from p on: what stands before the first mark, and the split behind it
pub split_from : (b : ℕ) (s : List ℕ) (p e : ℕ) → Found s p b e → split b (drop p s) ≡ take (e - p) (drop p s) ∷ pick (leb (e + 1) (length s)) (split b (drop (e + 1) s)) []
split_from b s p e f =
    let k : index b (drop p s) ≡ e - p = omega (arith, f.here) in
    split_at b (drop p s) ∙ rw (k, behind_from b s p e f.low f.high)

-- the first field ends at the first comma, and the fields behind it follow that comma
pub fields_first : (s : List ℕ) (p e : ℕ) → p ≤ length s → Found s p comma e → fields_from s p ≡ take (e - p) (drop p s) ∷ fields_from s (e + 1)
unfolding fields_from
fields_first s p e h f = rw (le-leb p (length s) h) (split_from comma s p e f)

pub fields_some : (s : List ℕ) (p : ℕ) → p ≤ length s → fields_from s p ≡ [] → ⊥
unfolding fields_from
fields_some s p h e =
    let g : split comma (drop p s) ≡ [] = rw (le-leb p (length s) h) at e in
    let n = split_at comma (drop p s) in
    let z : ◌≡◌ {A = ℕ} 0 1 = cc in omega arith

-- what is split has a first part
pub split_some : (b : ℕ) (s : List ℕ) → split b s ≡ take (index b s) s ∷ pick (ltb (index b s) (length s)) (split b (drop (suc (index b s)) s)) []
unfolding behind
split_some b s = split_at b s
