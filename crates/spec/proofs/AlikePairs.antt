-- Two lists related line by line.
use Prim.Native.Nat.{ℕ, zero, suc}
use mathlib.Core.List.{List, [], ◌∷◌, ◌++◌}
use mathlib.Core.Path.{◌≡◌, refl}
use lib.ListN.{get_or, length}
use Rattle.spec.specs.Alike.{Pairwise, both_end, ◌with◌}

-- at a number that neither has, both have the default
pub pair_at : {A : Type 0} {R : A → A → Type 0} {xs ys : List A} (n : ℕ) (d : A) → R d d → Pairwise R xs ys → R (get_or xs n d) (get_or ys n d)
pair_at n d r both_end = r
pair_at zero d r (p with ps) = p
pair_at (suc n) d r (p with ps) = pair_at n d r ps

pub pair_length : {A : Type 0} {R : A → A → Type 0} {xs ys : List A} → Pairwise R xs ys → length xs ≡ length ys
pair_length both_end = refl
pair_length (p with ps) = cc (pair_length ps)

pub pair_append : {A : Type 0} {R : A → A → Type 0} {xs ys : List A} {x y : A} → Pairwise R xs ys → R x y → Pairwise R (xs ++ (x ∷ [])) (ys ++ (y ∷ []))
pair_append both_end r = r with both_end
pair_append (p with ps) r = p with pair_append ps r
