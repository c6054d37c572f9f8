-- The annex's mean and variance are right: each is in lowest terms, and the variance is the mean of the squared differences from the mean.
use Prim.Native.Nat.{ℕ, ◌-◌, ◌*◌, ◌<◌}
use mathlib.Core.Path.{◌≡◌}
use mathlib.Core.List.{List}
use native.Mathlib.Omega.{arith}
use native.Mathlib.Nat.{mul-pos}
use lib.ListN.{length}
use Rattle.figures.specs.Annex.{sum, squares, mean, variance}
use Rattle.figures.proofs.Lowest.{LowestTerms, lowest_terms}
use Rattle.figures.proofs.Variance.{squared_differences, variance_of_differences}

-- from p * (n * n) ≡ v * q, with v as n * v ≡ d
times : (n p q v d : ℕ) → n * v ≡ d → p * (n * n) ≡ v * q → p * (n * (n * n)) ≡ d * q
times n p q v d e h = let k : n * (p * (n * n)) ≡ n * (v * q) = rw h in rw (← e) (omega arith)

module _ (xs : List ℕ) (h : 0 < length xs) where
  pub mean_lowest : LowestTerms (sum xs) (length xs) (mean xs)
  unfolding mean
  mean_lowest = lowest_terms (sum xs) (length xs) h

  pub variance_lowest : LowestTerms (length xs * squares xs - sum xs * sum xs) (length xs * length xs) (variance xs)
  unfolding variance
  variance_lowest = lowest_terms _ _ (mul-pos h h)

  -- of n numbers of sum s: variance ≡ Σ (x - s / n)² / n, and (x - s / n)² ≡ (n * x - s)² / (n * n)
  pub variance_right : (variance xs).numerator * (length xs * (length xs * length xs)) ≡ squared_differences (length xs) (sum xs) xs * (variance xs).denominator
  variance_right = times (length xs) _ _ _ _ (variance_of_differences xs) variance_lowest.value
