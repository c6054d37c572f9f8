-- Tests joined, and what no test gives.
use Prim.Native.Nat.{ℕ}
use mathlib.Core.Bool.{Bool, true, false, ◌&&◌, ◌||◌}
use mathlib.Core.Path.{◌≡◌, refl}
use native.Mathlib.Omega.{arith}

pub both : (a b : Bool) → a && b ≡ true → (a ≡ true) × (b ≡ true)
both true b e = (refl, e)
both false b e = (cc, cc)

pub either : (a b : Bool) {A : Type 0} → a || b ≡ true → (a ≡ true → A) → (b ≡ true → A) → A
either true b e f g = f refl
either false b e f g = g e

pub never_true : {A : Type 0} → false ≡ true → A
never_true p = let z : ◌≡◌ {A = ℕ} 0 1 = cc in absurd (omega arith)
