-- Tables: their entries one by one, their lengths, and what is printed of them.
use Rattle.std.specs.Prelude.{◌≡◌, refl, ◌∷◌, ◌++◌, [], ℕ, zero, suc, ◌+◌, length}
use Rattle.std.proofs.Common.{ap, arith, add-zero, add-one}
use Rattle.spec.specs.Lir as lir
use Rattle.spec.specs.Allocation.{bytes_from}
use Rattle.lir.specs.Abstract.{tab}

pub tab_snoc : {A : Type 0} (g : ℕ → A) (j n : ℕ) → tab g j (suc n) ≡ tab g j n ++ (g (j + n) ∷ [])
unfolding tab
tab_snoc g j zero = rw add-zero
tab_snoc g j (suc n) = let e : suc j + n ≡ j + suc n = omega arith in rw (tab_snoc g (suc j) n, e)

pub tab_more : {A : Type 0} (g : ℕ → A) (i : ℕ) → tab g 0 (i + 1) ≡ tab g 0 i ++ (g i ∷ [])
tab_more g i = let e : 0 + i ≡ i = omega arith in rw (add-one, tab_snoc g 0 i, e)

pub length_tab : {A : Type 0} (g : ℕ → A) (j n : ℕ) → length (tab g j n) ≡ n
unfolding tab
length_tab g j zero = refl
length_tab g j (suc n) = ap suc (length_tab g (suc j) n)

abbrev pub spot : ℕ → ℕ → lir.ByteStorage
spot s i = record { storage = s; offset = i }

pub from_tab : (s o n : ℕ) → bytes_from s o n ≡ tab (spot s) o n
unfolding tab bytes_from
from_tab s o zero = refl
from_tab s o (suc n) = rw (from_tab s (suc o) n)
