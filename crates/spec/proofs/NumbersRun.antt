-- Each OP that runs, by its number in a ticket: what it means, and what its listing leaves when run.
use Prim.Native.String.{String}
use mathlib.Core.List.{List, [], ◌∷◌, ◌++◌, map}
use Rattle.std.specs.Prelude.{Some}
use mathlib.Core.Path.{◌≡◌, refl}
use Rattle.spec.specs.Text.{text}
use Rattle.spec.specs.Readable.{root}
use Rattle.spec.specs.Read.{read_ticket}
use Rattle.spec.specs.Eval.{Data, flag, number}
use Rattle.spec.proofs.RunEnds.{reading_back, left_by}
use Rattle.spec.proofs.RunNested.{meaning}
use Rattle.spec.proofs.RunPremises.{M}

-- the root's line, and its value
pub record Row : Type 0 where
  pub line : String
  pub result : Data

abbrev row : String → Data → Row
row l d = record { line = l; result = d }

abbrev head : List String
head = "f,0,0" ∷ "t,bool" ∷ "t,pointer" ∷ "t,bits,8" ∷ "t,bits,9" ∷ "t,bits,16" ∷ []

-- behind these operands
abbrev Run : List String → List Row → Type 0
Run operands rows =
    (map (λ r. meaning M (read_ticket (text (head ++ operands ++ r.line ∷ [])))) rows ≡ map (λ r. Some r.result) rows) ×
    (map (λ r. left_by (head ++ operands ++ r.line ∷ []) M) rows ≡ map (λ r. Some r.result) rows)

-- Neg, Not, Clz, Ctz, Popcnt of 120
unfoldable pub unaries : List Row
unaries =
    row "n,2,unary,0,0" (number 1 136) ∷
    row "n,2,unary,1,0" (number 1 135) ∷
    row "n,2,unary,2,0" (number 1 1) ∷
    row "n,2,unary,3,0" (number 1 3) ∷
    row "n,2,unary,4,0" (number 1 4) ∷
    []

pub unaries_run : Run ("n,2,int,120" ∷ []) unaries
unfolding unaries reading_back root
unaries_run = (refl, refl)

-- 0 to 14 of 65,000, which is -536 where it is signed, and 11
unfoldable pub binaries : List Row
binaries =
    row "n,4,binary,0,0,1" (number 2 65011) ∷
    row "n,4,binary,1,0,1" (number 2 64989) ∷
    row "n,4,binary,2,0,1" (number 2 59640) ∷
    row "n,4,binary,3,0,1" (number 2 65488) ∷
    row "n,4,binary,4,0,1" (number 2 5909) ∷
    row "n,4,binary,5,0,1" (number 2 65528) ∷
    row "n,4,binary,6,0,1" (number 2 1) ∷
    row "n,4,binary,7,0,1" (number 2 8) ∷
    row "n,4,binary,8,0,1" (number 2 65003) ∷
    row "n,4,binary,9,0,1" (number 2 64995) ∷
    row "n,4,binary,10,0,1" (number 2 16384) ∷
    row "n,4,binary,11,0,1" (number 2 65535) ∷
    row "n,4,binary,12,0,1" (number 2 31) ∷
    row "n,4,binary,13,0,1" (number 2 18415) ∷
    row "n,4,binary,14,0,1" (number 2 48415) ∷
    []

pub binaries_run : Run ("n,4,int,65000" ∷ "n,4,int,11" ∷ []) binaries
unfolding binaries reading_back root
binaries_run = (refl, refl)

-- 15 to 18 of 40,000, which is -25,536 where it is signed, and 30,000
unfoldable pub saturations : List Row
saturations =
    row "n,4,binary,15,0,1" (number 2 4464) ∷
    row "n,4,binary,16,0,1" (number 2 65535) ∷
    row "n,4,binary,17,0,1" (number 2 32768) ∷
    row "n,4,binary,18,0,1" (number 2 10000) ∷
    []

pub saturations_run : Run ("n,4,int,40000" ∷ "n,4,int,30000" ∷ []) saturations
unfolding saturations reading_back root
saturations_run = (refl, refl)

-- 0 to 9 of 200, which is -56 where it is signed, and 100
unfoldable pub comparisons : List Row
comparisons =
    row "n,0,compare,0,0,1" (flag 0) ∷
    row "n,0,compare,1,0,1" (flag 1) ∷
    row "n,0,compare,2,0,1" (flag 1) ∷
    row "n,0,compare,3,0,1" (flag 0) ∷
    row "n,0,compare,4,0,1" (flag 1) ∷
    row "n,0,compare,5,0,1" (flag 0) ∷
    row "n,0,compare,6,0,1" (flag 0) ∷
    row "n,0,compare,7,0,1" (flag 1) ∷
    row "n,0,compare,8,0,1" (flag 0) ∷
    row "n,0,compare,9,0,1" (flag 1) ∷
    []

pub comparisons_run : Run ("n,2,int,200" ∷ "n,2,int,100" ∷ []) comparisons
unfolding comparisons reading_back root
comparisons_run = (refl, refl)

-- ZeroExtend, SignExtend and IntegerToBoolean of 200
unfoldable pub widenings : List Row
widenings =
    row "n,4,convert,1,0" (number 2 200) ∷
    row "n,4,convert,2,0" (number 2 65480) ∷
    row "n,0,convert,13,0" (flag 1) ∷
    []

pub widenings_run : Run ("n,2,int,200" ∷ []) widenings
unfolding widenings reading_back root
widenings_run = (refl, refl)

-- Truncate and Reinterpret of 65,000
unfoldable pub narrowings : List Row
narrowings =
    row "n,2,convert,0,0" (number 1 232) ∷
    row "n,1,convert,11,0" (number 2 65000) ∷
    []

pub narrowings_run : Run ("n,4,int,65000" ∷ []) narrowings
unfolding narrowings reading_back root
narrowings_run = (refl, refl)

-- BooleanToInteger
unfoldable pub of_bools : List Row
of_bools =
    row "n,4,convert,12,0" (number 2 1) ∷
    []

pub of_bools_run : Run ("n,0,bool,1" ∷ []) of_bools
unfolding of_bools reading_back root
of_bools_run = (refl, refl)
