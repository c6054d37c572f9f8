-- Reading `done` lines, with the refusals 41 and 42, and the answer for every text and every lent buffer.
use Rattle.std.specs.Prelude.{ℕ, suc, true, false, ◌&&◌, List, ◌∷◌, [], leb}
use Rattle.std.specs.Prelude.{Option, None, Some}
use Rattle.spec.specs.Text.{bytes, same, split, comma, line_feed}
use Rattle.spec.specs.Answer.{Answer, fitted}
use Rattle.spec.specs.Answer as spec-answer
use Rattle.fields.specs.Fields.{numbers_of}
use Rattle.figures.specs.Annex.{Done, annex}

-- the most lines, and the most that a line may count
abbrev pub line_limit : ℕ
line_limit = 1000

abbrev pub count_limit : ℕ
count_limit = 65535

-- ---------------------------------------------------------------- a line

unfoldable pub bounded : ℕ → ℕ → Option Done
bounded i s = elim (leb i count_limit && leb s count_limit) [ true ↦ Some (record { instructions = i; storages = s }) | false ↦ None ]

-- INSTRUCTIONS, NEW STORAGES and NEXT, and no more
unfoldable pub counts : Option (List ℕ) → Option Done
counts None = None
counts (Some []) = None
counts (Some (i ∷ [])) = None
counts (Some (i ∷ s ∷ [])) = None
counts (Some (i ∷ s ∷ next ∷ [])) = bounded i s
counts (Some (i ∷ s ∷ next ∷ m ∷ ms)) = None

-- the fields of a line: the word `done`, and numbers
unfoldable pub done_of : List (List ℕ) → Option Done
done_of [] = None
done_of (w ∷ ws) = elim (same (bytes "done") w) [ true ↦ counts (numbers_of ws) | false ↦ None ]

-- ---------------------------------------------------------------- the lines of a text

pub data Read : Type 0 where
  refused : ℕ → ℕ → Read
  lines : List Done → Read

-- line k, and what is read behind it
unfoldable pub joined : ℕ → Option Done → Read → Read
joined k None r = refused 42 k
joined k (Some d) (refused n l) = refused n l
joined k (Some d) (lines ds) = lines (d ∷ ds)

-- a line past the most is refused before it is read
unfoldable pub few_enough : ℕ → Read → Read
few_enough k r = elim (leb k line_limit) [ true ↦ r | false ↦ refused 41 k ]

-- what stands behind the last line feed: nothing, or a line that none ends
unfoldable pub last_part : ℕ → List ℕ → Read
last_part k [] = lines []
last_part k (b ∷ bs) = few_enough k (refused 42 k)

-- the lines from line k on, given what line feeds part
unfoldable pub read_from : ℕ → List (List ℕ) → Read
read_from k [] = lines []
read_from k (l ∷ []) = last_part k l
read_from k (l ∷ m ∷ ls) = few_enough k (joined k (done_of (split comma l)) (read_from (suc k) (m ∷ ls)))

-- ---------------------------------------------------------------- the answer

-- 41 with no line; 28, last, where the annex is longer than the buffer
unfoldable pub of_lines : ℕ → Read → Answer
of_lines room (refused n l) = spec-answer.refused n l
of_lines room (lines []) = spec-answer.refused 41 0
of_lines room (lines (d ∷ ds)) = fitted room (annex (d ∷ ds))

-- the answer to a text, given the length of the lent buffer
unfoldable pub answer : List ℕ → ℕ → Answer
answer text room = of_lines room (read_from 1 (split line_feed text))
