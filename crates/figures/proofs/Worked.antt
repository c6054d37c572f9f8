-- Worked cases by computation: document 01's printed `done` line, figures of several lines, and each refusal.
use Prim.Native.Nat.{ℕ, zero, suc}
use mathlib.Core.Path.{◌≡◌, refl}
use mathlib.Core.List.{List, ◌∷◌, ◌++◌, []}
use Rattle.spec.specs.Text as text
use Rattle.spec.specs.Text.{text as lines_of, bytes}
use Rattle.spec.specs.Answer.{refused, accepted, fitted}
use Rattle.fields.specs.Fields.{numbers_of}
use Rattle.figures.specs.Fraction as fraction
use Rattle.figures.specs.Annex as annex
use Rattle.figures.specs.Lines as reading
use Rattle.figures.specs.Lines.{answer}

-- to unfold this is to unfold all that an answer is computed of
unfoldable computing : Unit {0}
unfolding text.same text.split text.fields text.line text.digits_in text.digits text.horner text.all_digits text.good_start text.numeral text.number fitted numbers_of fraction.gcd_in fraction.gcd fraction.lowest annex.least annex.greatest annex.sum annex.squares annex.mean annex.variance annex.fraction annex.figures_line annex.all_instructions annex.all_storages annex.annex reading.bounded reading.counts reading.done_of reading.joined reading.few_enough reading.last_part reading.read_from reading.of_lines reading.answer
computing = tt

-- a text n times over
unfoldable pub repeated : ℕ → List ℕ → List ℕ
repeated zero l = []
repeated (suc n) l = l ++ repeated n l

-- the printed case of document 01, with exact room and a byte short; several lines
pub the_figures_hold :
    (answer (lines_of ("done,3,2,2" ∷ [])) 28 ≡ accepted (lines_of ("1,3,3,3/1,0/1" ∷ "1,2,2,2/1,0/1" ∷ [])))
    × (answer (lines_of ("done,3,2,2" ∷ [])) 27 ≡ refused 28 0)
    × (answer (lines_of ("done,1,10,0" ∷ "done,4,10,7" ∷ [])) 100 ≡ accepted (lines_of ("2,1,4,5/2,9/4" ∷ "2,10,10,10/1,0/1" ∷ [])))
    × (answer (lines_of ("done,2,0,0" ∷ "done,4,0,0" ∷ "done,4,3,0" ∷ [])) 100 ≡ accepted (lines_of ("3,2,4,10/3,8/9" ∷ "3,0,3,1/1,2/1" ∷ [])))
    × (answer (lines_of ("done,0,65535,18446744073709551615" ∷ "done,65535,0,0" ∷ [])) 100
    ≡ accepted (lines_of ("2,0,65535,65535/2,4294836225/4" ∷ "2,0,65535,65535/2,4294836225/4" ∷ [])))
    × (answer (repeated 1000 (lines_of ("done,3,2,2" ∷ []))) 100 ≡ accepted (lines_of ("1000,3,3,3/1,0/1" ∷ "1000,2,2,2/1,0/1" ∷ [])))
unfolding computing repeated
the_figures_hold = (refl, refl, refl, refl, refl, refl)

-- 41 and 42; the first faulty line decides
pub the_refusals_hold :
    (answer [] 100 ≡ refused 41 0)
    × (answer (repeated 1000 (lines_of ("done,3,2,2" ∷ [])) ++ bytes "x") 100 ≡ refused 41 1001)
    × (answer (bytes "done,3,2,2") 100 ≡ refused 42 1)
    × (answer (lines_of ("done,3,2,2" ∷ "done,65536,2,2" ∷ [])) 100 ≡ refused 42 2)
    × (answer (lines_of ("done,3,65536,2" ∷ "done" ∷ [])) 100 ≡ refused 42 1)
    × (answer (lines_of ("done,3,2,18446744073709551616" ∷ [])) 100 ≡ refused 42 1)
    × (answer (lines_of ("done,03,2,2" ∷ [])) 100 ≡ refused 42 1)
    × (answer (lines_of ("done,3,2,2," ∷ [])) 100 ≡ refused 42 1)
    × (answer (lines_of ("done,3,2,2" ∷ "" ∷ [])) 0 ≡ refused 42 2)
unfolding computing repeated
the_refusals_hold = (refl, refl, refl, refl, refl, refl, refl, refl, refl)
