-- One computed test of every number below a bound gives its rule at each.
use Prim.Native.Nat.{ℕ, zero, suc, ◌<◌}
use mathlib.Core.Path.{◌≡◌, sym, subst}
use mathlib.Core.Bool.{Bool, true, ◌&&◌}
use mathlib.Core.Logic.{⊎_elim}
use native.Mathlib.Nat.{eq-or-lt_of_le, le_of_suc-le-suc, not-suc-le-zero}
use Rattle.spec.proofs.Bools.{and_left, and_right}

unfoldable pub all_below : ℕ → (ℕ → Bool) → Bool
all_below zero test = true
all_below (suc n) test = test n && all_below n test

pub below_at : (n : ℕ) (test : ℕ → Bool) → all_below n test ≡ true → (k : ℕ) → k < n → test k ≡ true
unfolding all_below
below_at zero test t k h = absurd (not-suc-le-zero h)
below_at (suc n) test t k h =
    ⊎_elim (λ e. subst (λ (m : ℕ). test m ≡ true) (sym e) (and_left (test n) _ t)) (λ l. below_at n test (and_right (test n) _ t) k l)
    (eq-or-lt_of_le (le_of_suc-le-suc h))
