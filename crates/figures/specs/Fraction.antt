-- Fractions in lowest terms, by Euclid's algorithm. That these are lowest terms is a theorem (proofs/Lowest.antt).
use Rattle.std.specs.Prelude.{ℕ, zero, suc, ◌/◌, ◌%◌, true, false, eqb}

-- in as many steps as the fuel counts
unfoldable pub gcd_in : ℕ → ℕ → ℕ → ℕ
gcd_in zero a b = a
gcd_in (suc k) a b = elim (eqb b 0) [ true ↦ a | false ↦ gcd_in k b (a % b) ]

-- the greatest common divisor: the second number falls at each step
unfoldable pub gcd : ℕ → ℕ → ℕ
gcd a b = gcd_in (suc b) a b

pub record Fraction : Type 0 where
  pub numerator : ℕ
  pub denominator : ℕ

-- a / b in lowest terms
unfoldable pub lowest : ℕ → ℕ → Fraction
lowest a b = record { numerator = a / gcd a b; denominator = b / gcd a b }
