-- The variance is the mean of the squared differences from the mean: over n numbers x of sum s, n * x - s is n times such a difference.
use Prim.Native.Nat.{ℕ, ◌+◌, ◌-◌, ◌*◌, ◌≤◌, ◌<◌}
use mathlib.Core.Path.{◌≡◌, refl, ◌∙◌}
use mathlib.Core.Bool.{Bool, true, false}
use mathlib.Core.List.{List, ◌∷◌, []}
use native.Mathlib.Omega.{arith}
use native.Mathlib.Nat.{mul-sub, le_of_mul-le-mul_left}
use lib.Dec.{leb}
use lib.ListN.{length}
use borrow.Author.Tests.{leb-true, leb-false}
use Rattle.figures.specs.Annex.{sum, squares}

-- the absolute difference: one of the two is 0
unfoldable pub difference : ℕ → ℕ → ℕ
difference a b = (a - b) + (b - a)

-- the sum of the squares of n * x - s
unfoldable pub squared_differences : ℕ → ℕ → List ℕ → ℕ
squared_differences n s [] = 0
squared_differences n s (x ∷ xs) = difference (n * x) s * difference (n * x) s + squared_differences n s xs

only : (a b : ℕ) → a ≤ b → difference a b ≡ b - a
unfolding difference
only a b h = omega arith

other : (a b : ℕ) → b < a → difference a b ≡ a - b
unfolding difference
other a b h = omega arith

squared : (a b : ℕ) → difference a b * difference a b + 2 * (a * b) ≡ a * a + b * b
squared a b = by (leb a b) refl
  where
    up : (a d e : ℕ) → e ≡ d → e * e + 2 * (a * (a + d)) ≡ a * a + (a + d) * (a + d)
    up a d e q = rw q (omega arith)

    down : (b d e : ℕ) → e ≡ d → e * e + 2 * ((b + d) * b) ≡ (b + d) * (b + d) + b * b
    down b d e q = rw q (omega arith)

    by : (t : Bool) → leb a b ≡ t → difference a b * difference a b + 2 * (a * b) ≡ a * a + b * b
    by true e =
        let h = leb-true a b e in
        let z : a + (b - a) ≡ b = omega arith in
        rw z at (up a (b - a) (difference a b) (only a b h))
    by false e =
        let h = leb-false a b e in
        let z : b + (a - b) ≡ a = omega arith in
        rw z at (down b (a - b) (difference a b) (other a b h))

all_squared : (n s : ℕ) (xs : List ℕ) → squared_differences n s xs + 2 * (n * (s * sum xs)) ≡ n * (n * squares xs) + length xs * (s * s)
unfolding squared_differences sum squares
all_squared n s [] = omega arith
all_squared n s (x ∷ xs) = omega (arith, all_squared n s xs, squared (n * x) s)

module _ (xs : List ℕ) where
  balanced : squared_differences (length xs) (sum xs) xs + length xs * (sum xs * sum xs) ≡ length xs * (length xs * squares xs)
  balanced = omega (arith, all_squared (length xs) (sum xs) xs)

  -- n * (n * Σ x² - (Σ x)²) ≡ Σ (n * x - Σ x)²
  pub variance_of_differences : length xs * (length xs * squares xs - sum xs * sum xs) ≡ squared_differences (length xs) (sum xs) xs
  variance_of_differences = let b = balanced in mul-sub (length xs) (length xs * squares xs) (sum xs * sum xs) ∙ omega arith

  -- so the difference is not below 0
  pub no_deficit : 0 < length xs → sum xs * sum xs ≤ length xs * squares xs
  no_deficit h = let b = balanced in le_of_mul-le-mul_left {k = length xs} (omega arith) h
