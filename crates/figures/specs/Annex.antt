-- The two lines of the tender annex: for instructions, then for new storages, count, least, greatest, mean and population variance.
use Rattle.std.specs.Prelude.{ℕ, ◌+◌, ◌-◌, ◌*◌, min, max, List, ◌∷◌, ◌++◌, [], length}
use Rattle.spec.specs.Text.{digits, line}
use Rattle.figures.specs.Fraction.{Fraction, lowest}

-- ---------------------------------------------------------------- figures of a list of numbers

unfoldable pub least : List ℕ → ℕ
least [] = 0
least (x ∷ []) = x
least (x ∷ y ∷ ys) = min x (least (y ∷ ys))

unfoldable pub greatest : List ℕ → ℕ
greatest [] = 0
greatest (x ∷ xs) = max x (greatest xs)

unfoldable pub sum : List ℕ → ℕ
sum [] = 0
sum (x ∷ xs) = x + sum xs

-- the sum of the squares
unfoldable pub squares : List ℕ → ℕ
squares [] = 0
squares (x ∷ xs) = x * x + squares xs

unfoldable pub mean : List ℕ → Fraction
mean xs = lowest (sum xs) (length xs)

-- the mean of the squared differences from the mean (proofs/Variance.antt), over one denominator
unfoldable pub variance : List ℕ → Fraction
variance xs = lowest (length xs * squares xs - sum xs * sum xs) (length xs * length xs)

-- ---------------------------------------------------------------- their text

abbrev pub slash : ℕ
slash = 47

-- NUMERATOR/DENOMINATOR
unfoldable pub fraction : Fraction → List ℕ
fraction f = digits f.numerator ++ slash ∷ digits f.denominator

-- COUNT,LEAST,GREATEST,MEAN,VARIANCE
unfoldable pub figures_line : List ℕ → List ℕ
figures_line xs =
    line (digits (length xs)) (digits (least xs) ∷ digits (greatest xs) ∷ fraction (mean xs) ∷ fraction (variance xs) ∷ [])

-- what a `done` line counts
pub record Done : Type 0 where
  pub instructions : ℕ
  pub storages : ℕ

unfoldable pub all_instructions : List Done → List ℕ
all_instructions [] = []
all_instructions (d ∷ ds) = d.instructions ∷ all_instructions ds

unfoldable pub all_storages : List Done → List ℕ
all_storages [] = []
all_storages (d ∷ ds) = d.storages ∷ all_storages ds

unfoldable pub annex : List Done → List ℕ
annex ds = figures_line (all_instructions ds) ++ figures_line (all_storages ds)
