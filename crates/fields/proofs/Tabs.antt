-- Lists made of a function's values, and lists compared byte by byte.
use mathlib.Core.Path.{◌≡◌, refl, ap, ◌∙◌}
use mathlib.Core.Bool.{Bool, true, false, ◌&&◌}
use mathlib.Core.List.{List, ◌∷◌, ◌++◌, []}
use mathlib.Core.Logic.{◌≢◌}
use Prim.Native.Nat.{ℕ, suc, ◌+◌, ◌-◌, ◌≤◌, ◌<◌}
use native.Mathlib.Omega.{arith}
use native.Mathlib.Numerals.{add-one}
use lib.Dec.{eqb}
use lib.ListN.{length, get_or, set, length-set}
use lib.Seq.{get_or-set_same, get_or-set_other}
use Rattle.std.specs.Str.{bytes_eq}
use Rattle.spec.specs.Text.{same}
use Rattle.tables.specs.Tables.{tab, run}
use Rattle.tables.proofs.Laws as tables
use Rattle.fields.specs.Fields.{Kept}

-- ---------------------------------------------------------------- `same` from byte to byte

pub same_lengths : (xs ys : List ℕ) → (length xs ≡ length ys → ⊥) → false ≡ same xs ys
unfolding same
same_lengths [] [] h = absurd (h refl)
same_lengths [] (y ∷ ys) h = refl
same_lengths (x ∷ xs) [] h = refl
same_lengths (x ∷ xs) (y ∷ ys) h = by (eqb x y) (same_lengths xs ys (λ e. h (ap suc e)))
  where
    by : (t : Bool) → false ≡ same xs ys → false ≡ (t && same xs ys)
    by true e = e
    by false e = refl

-- what `==` computes
pub same_bytes : (xs ys : List ℕ) → bytes_eq xs ys ≡ same xs ys
unfolding same
same_bytes [] [] = refl
same_bytes [] (y ∷ ys) = refl
same_bytes (x ∷ xs) [] = refl
same_bytes (x ∷ xs) (y ∷ ys) = rw (same_bytes xs ys)

-- ---------------------------------------------------------------- `tab`

module _ {A : Type 0} where
  -- one value more at the end
  pub tab_more : (f : ℕ → A) (j n : ℕ) → tab f j (n + 1) ≡ tab f j n ++ (f (j + n) ∷ [])
  tab_more f j n = rw (add-one) (tables.tab_more f j n)

  -- two functions that agree on the range
  pub tab_same : (f g : ℕ → A) (j n : ℕ) → ((i : ℕ) → j ≤ i → i < j + n → f i ≡ g i) → tab f j n ≡ tab g j n
  tab_same f g j n h = tables.tab_same f g j n (λ k l. h (j + k) (omega arith) (omega arith))

  -- the rest of a list, from i on
  pub tab_here : (f : ℕ → A) (i n : ℕ) → i < n → tab f i (n - i) ≡ f i ∷ tab f (i + 1) (n - (i + 1))
  unfolding tab
  tab_here f i n h = let e : n - i ≡ suc (n - (i + 1)) = omega arith in rw (e, tab, add-one)

  pub tab_done : (f : ℕ → A) (i n : ℕ) → n ≤ i → tab f i (n - i) ≡ []
  unfolding tab
  tab_done f i n h = let e : n - i ≡ 0 = omega arith in rw e

pub run_put : (ls : List ℕ) (a n v : ℕ) → a + n < length ls → run (set ls (a + n) v) a (n + 1) ≡ run ls a n ++ (v ∷ [])
unfolding run
run_put ls a n v h =
    tab_more (λ i. get_or (set ls (a + n) v) i 0) a n
    ∙ rw (get_or-set_same ls (a + n) v 0 h, tab_same (λ i. get_or (set ls (a + n) v) i 0) (λ i. get_or ls i 0) a n (λ i l u. get_or-set_other ls (a + n) i v 0 (other i u)))
  where
    other : (i : ℕ) → i < a + n → i ≢ a + n
    other i u = omega arith

pub run_kept : (u t : List ℕ) (m a n : ℕ) → Kept m u t → a + n ≤ m → run t a n ≡ run u a n
unfolding run
run_kept u t m a n k h = tab_same (λ i. get_or t i 0) (λ i. get_or u i 0) a n (λ i l b. k.same i (omega arith))

pub kept_all : (n : ℕ) (u : List ℕ) → Kept n u u
kept_all n u = record { same = λ i h. refl }

pub kept_put : (u t : List ℕ) (n i v : ℕ) → Kept n u t → n ≤ i → Kept n u (set t i v)
kept_put u t n i v k l = record { same = λ j h. get_or-set_other t i j v 0 (other j h) ∙ k.same j h }
  where
    other : (j : ℕ) → j < n → j ≢ i
    other j h = omega arith

pub length_put : (u t : List ℕ) (i v : ℕ) → length t ≡ length u → length (set t i v) ≡ length u
length_put u t i v h = length-set t i v ∙ h
