-- Bytes mirrored through a table: one computed test of the whole table gives its rule at each index.
use Prim.Native.Nat.{ℕ, zero, suc, ◌<◌}
use mathlib.Core.Path.{◌≡◌, refl}
use mathlib.Core.Bool.{Bool, true}
use mathlib.Core.List.{List, ◌∷◌, []}
use native.Mathlib.Nat.{le_of_suc-le-suc, not-suc-le-zero}
use borrow.Author.Tests.{eqb-true}
use lib.Dec.{eqb}
use lib.ListN.{length, get_or, length-map}
use Rattle.blocks.specs.declared.table.TheConstants.{MIRRORED}
use Rattle.blocks.specs.Blocks.{bit, packed, mirrored, Mirrors, all_mirrored}
use Rattle.blocks.proofs.Below.{all_below, below_at}

-- entry x of a table is x mirrored
abbrev pub entry_mirrored : List ℕ → ℕ → Bool
entry_mirrored table x = eqb (get_or table x 0) (mirrored x)

pub table_mirrors : (table : List ℕ) → all_below 256 (entry_mirrored table) ≡ true → Mirrors table
table_mirrors table t = record { entry = λ (x : ℕ) h. eqb-true (get_or table x 0) (mirrored x) (below_at 256 (entry_mirrored table) t x h) }

pub table_is : Mirrors MIRRORED
unfolding bit packed mirrored all_below
table_is = table_mirrors MIRRORED refl

-- ---------------------------------------------------------------- a text of bytes

pub length_mirrored : (xs : List ℕ) → length (all_mirrored xs) ≡ length xs
unfolding all_mirrored
length_mirrored xs = length-map xs mirrored

pub mirrored_at : (xs : List ℕ) (k : ℕ) → k < length xs → get_or (all_mirrored xs) k 0 ≡ mirrored (get_or xs k 0)
unfolding all_mirrored
mirrored_at [] k h = absurd (not-suc-le-zero h)
mirrored_at (x ∷ xs) zero h = refl
mirrored_at (x ∷ xs) (suc k) h = mirrored_at xs k (le_of_suc-le-suc h)
