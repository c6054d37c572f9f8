-- What the code keeps of the lines read so far, and the line that it prints of it.
use Rattle.std.specs.Prelude.{ℕ, suc, ◌+◌, ◌-◌, ◌*◌, ◌≤◌, ◌<◌, min, max, ◌≡◌, true, false, List, ◌∷◌, ◌++◌, [], ◌⊎◌, eqb, length, drop}
use Rattle.std.specs.Prelude.{Option, Some, MatchOption, option_map, Result, Ok, Err}
use Rattle.spec.specs.Text.{digits, split, comma, line_feed}
use Rattle.spec.specs.Answer as spec-answer
use Rattle.figures.specs.Fraction.{lowest}
use Rattle.figures.specs.Annex.{Done, fraction}
use Rattle.figures.specs.Lines.{Read, refused, lines, joined, read_from, line_limit, count_limit}
use Rattle.figures.specs.declared.Totals.{Totals}
use Rattle.figures.specs.declared.Columns.{Columns}

-- ---------------------------------------------------------------- a column

-- before the first line: no count is over the limit, and none is below 0
abbrev pub nothing : Totals
nothing = record { count = 0; least = count_limit; greatest = 0; sum = 0; squares = 0 }

unfoldable pub with_number : Totals → ℕ → Totals
with_number t x =
    record {
      count = t.count + 1;
      least = min x t.least;
      greatest = max x t.greatest;
      sum = t.sum + x;
      squares = t.squares + x * x;
    }

-- of n numbers within the limit
pub record Small (n : ℕ) (t : Totals) : Type 0 where
  pub count : t.count ≡ n
  pub sum : t.sum ≤ count_limit * n
  pub squares : t.squares ≤ count_limit * count_limit * n

-- what a line of figures is printed of: there is a number, and no difference below 0
pub record Sound (t : Totals) : Type 0 where
  pub some : 0 < t.count
  pub few : t.count ≤ line_limit
  pub small : Small t.count t
  pub spread : t.sum * t.sum ≤ t.count * t.squares

-- count, least and greatest
unfoldable pub range_of : Totals → List ℕ
range_of t = digits t.count ++ comma ∷ digits t.least ++ comma ∷ digits t.greatest

-- mean, variance and the line feed
unfoldable pub moments_of : Totals → List ℕ
moments_of t =
    (comma ∷ fraction (lowest t.sum t.count))
    ++ (comma ∷ fraction (lowest (t.count * t.squares - t.sum * t.sum) (t.count * t.count)))
    ++ line_feed ∷ []

unfoldable pub figures_of : Totals → List ℕ
figures_of t = range_of t ++ moments_of t

-- ---------------------------------------------------------------- both columns

abbrev pub no_lines : Columns
no_lines = record { instructions = nothing; storages = nothing }

unfoldable pub with_line : Columns → ℕ → ℕ → Columns
with_line c i s = record { instructions = with_number c.instructions i; storages = with_number c.storages s }

unfoldable pub with_lines : Columns → List Done → Columns
with_lines c [] = c
with_lines c (d ∷ ds) = with_lines (with_line c d.instructions d.storages) ds

unfoldable pub printed : Columns → List ℕ
printed c = figures_of c.instructions ++ figures_of c.storages

-- ---------------------------------------------------------------- what the readers answer

abbrev pub line_of : Option (ℕ × ℕ) → Option Done
line_of = option_map (λ d. record { instructions = d.0; storages = d.1 })

-- line k at a position: what it counts, and where the line behind it begins
abbrev pub NextStep : List ℕ → ℕ → ℕ → ℕ → ℕ → Type 0
NextStep s at i n next =
    (at < next) × (next ≤ length s) × (i ≤ count_limit) × (n ≤ count_limit)
    × ((k : ℕ) → k ≤ line_limit → read_from k (split line_feed (drop at s)) ≡ joined k (Some (record { instructions = i; storages = n })) (read_from (suc k) (split line_feed (drop next s))))

pub record StepAt (s : List ℕ) (at : ℕ) (r : Option (ℕ × ℕ × ℕ)) : Type 0 where
  pub step : MatchOption r ((k : ℕ) → k ≤ line_limit → read_from k (split line_feed (drop at s)) ≡ refused 42 k) (λ t. NextStep s at t.0 t.1 t.2)

-- either no line, or what the two lines are printed of
unfoldable pub Held : Columns → Type 0
Held c = (c.instructions.count ≡ 0) ⊎ ((Sound c.instructions) × (Sound c.storages))

-- the lines read, behind those that the columns hold
unfoldable pub onto : Columns → Read → Result Columns (ℕ × ℕ)
onto c (refused n l) = Err (n, l)
onto c (lines ds) = Ok (with_lines c ds)

-- the answer to lines whose columns these are
unfoldable pub of_columns : ℕ → Columns → spec-answer.Answer
of_columns room c = elim (eqb c.instructions.count 0) [ true ↦ spec-answer.refused 41 0 | false ↦ spec-answer.fitted room (printed c) ]
