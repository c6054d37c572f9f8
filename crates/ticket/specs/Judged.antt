-- A line judged by the words, and what is then kept.
use Rattle.std.specs.Prelude.{ℕ, ◌+◌, ◌*◌, ◌≤◌, ◌<◌, ◌≡◌, Bool, true, not, ◌&&◌, List, leb, length}
use Rattle.std.specs.Prelude.{Option, None, Some, Result, Ok, Err, IfOk}
use Rattle.tables.specs.Tables.{pick, run, type_word_by}
use Rattle.spec.specs.Limits.{depth_limit, type_depth_limit, size_sum_limit, weight_sum_limit}
use Rattle.spec.specs.Ticket.{arg, type_size_by, weight_by}
use Rattle.spec.specs.Read.{Reading, Step, stop, go, alike, right_start, once, mark}
use Rattle.answers.specs.Refusals.{refusal_number}
use Rattle.answers.specs.declared.Refusal.{Refusal}
use Rattle.line_checks.specs.Rows.{section, type_row, used_in, reading_of, Held, Roomy}
use Rattle.line_checks.specs.Keys.{Keyed}
use Rattle.line_checks.specs.Types.{part_of}
use Rattle.line_checks.specs.Steps.{both_within, measured, args_in, deepest_in}
use Rattle.line_checks.specs.declared.Measure.{Measure}
use Rattle.line_checks.specs.declared.types.Part.TheVariants.{Size, Weight}
use Rattle.ticket.specs.Grown.{grown}
use Rattle.line_forms.specs.declared.LineKind.{LineKind}
use Rattle.line_forms.specs.declared.LineKind.TheVariants.{Functions, Types, Storages, Variables, Statics, Places, Nodes}
use Rattle.tables.specs.declared.Counts.{Counts}
use Rattle.ticket.specs.declared.Extent.{Extent}
use Rattle.line_forms.specs.declared.Form.{Form}

-- what judging asks of the words
pub record Open (ws ls : List ℕ) (c : Counts) : Type 0 where
  pub held : Held ws c
  pub roomy : Roomy (length ws) c
  pub keyed : Keyed ws ls c.types
  pub lines : c.lines < 65536

-- ---------------------------------------------------------------- the later tests by the words

abbrev pub types_in : List ℕ → List ℕ → Counts → LineKind → ℕ → List ℕ → Bool
types_in ws ls c Functions w xs = true
types_in ws ls c Types w xs = not (alike (type_word_by w) xs (section (type_row ls) ws 0 c.types)) && right_start c.types (type_word_by w)
types_in ws ls c Storages w xs = leb 2 c.types
types_in ws ls c Variables w xs = leb 2 c.types
types_in ws ls c Statics w xs = leb 2 c.types
types_in ws ls c Places w xs = leb 2 c.types
types_in ws ls c Nodes w xs = leb 2 c.types

abbrev pub nothing : Measure
nothing = record { size = 0; weight = 0 }

abbrev pub sized_in : List ℕ → ℕ → LineKind → ℕ → List ℕ → Option Measure
sized_in ws n Functions w xs = Some nothing
sized_in ws n Types w xs = measured (type_size_by (part_of ws n Size) (type_word_by w) xs) (weight_by (part_of ws n Weight) (type_word_by w) xs)
sized_in ws n Storages w xs = Some nothing
sized_in ws n Variables w xs = Some nothing
sized_in ws n Statics w xs = Some nothing
sized_in ws n Places w xs = Some nothing
sized_in ws n Nodes w xs = Some nothing

abbrev pub allowed_in : LineKind → ℕ
allowed_in Functions = depth_limit
allowed_in Types = type_depth_limit
allowed_in Storages = depth_limit
allowed_in Variables = depth_limit
allowed_in Statics = depth_limit
allowed_in Places = depth_limit
allowed_in Nodes = depth_limit

abbrev pub added_in : List ℕ → ℕ → LineKind → List ℕ → Measure
added_in ws n Functions xs = nothing
added_in ws n Types xs = nothing
added_in ws n Storages xs = nothing
added_in ws n Variables xs = nothing
added_in ws n Statics xs = nothing
added_in ws n Places xs = nothing
added_in ws n Nodes xs = record { size = part_of ws n Size (arg xs 0); weight = part_of ws n Weight (arg xs 0) }

-- the sums over nodes with a line, where both are small enough
abbrev pub sums_with : Counts → Measure → Option Measure
sums_with c m = both_within size_sum_limit weight_sum_limit (c.sizes + m.size) (c.weights + m.weight)

abbrev pub sums_in : List ℕ → Counts → LineKind → List ℕ → Option Measure
sums_in ws c k xs = sums_with c (added_in ws c.types k xs)

-- ---------------------------------------------------------------- what follows the tests

abbrev pub extent : Measure → ℕ → Measure → Extent
extent m d n = record { own = m; depth = d; sums = n }

unfoldable pub with_test : Bool → ℕ → Step → Step
with_test t n s = pick t s (stop n)

unfoldable pub with_measure : Option Measure → ℕ → (Measure → Step) → Step
with_measure None n k = stop n
with_measure (Some m) n k = k m

unfoldable pub with_depth : ℕ → ℕ → Step → Step
with_depth d limit s = pick (leb limit d) (stop 9) s

-- the numbers behind those in use
abbrev pub numbers_of : List ℕ → Counts → Form → List ℕ
numbers_of ls c f = run ls c.used f.count

-- marks are made before the last two tests
unfoldable pub last_step : List ℕ → List ℕ → Counts → Form → List ℕ → Measure → Step
last_step ws ls c f xs m =
    with_depth (deepest_in ws c (args_in f.kind f.word xs)) (allowed_in f.kind)
    (with_measure (sums_in ws c f.kind xs) 10
    (λ n. go (grown (reading_of ws ls c) f.kind f.word xs (extent m (deepest_in ws c (args_in f.kind f.word xs) + 1) n))))

-- the reading whose marks are made
abbrev pub marking : Reading → Form → List ℕ → Reading
marking R f xs = record R { used = mark (args_in f.kind f.word xs) R.used }

unfoldable pub late_step : List ℕ → List ℕ → Counts → Form → List ℕ → Step
late_step ws ls c f xs =
    with_test (types_in ws ls c f.kind f.word xs) 5
    (with_measure (sized_in ws c.types f.kind f.word xs) 6 λ m.
    with_test (once (args_in f.kind f.word xs) (used_in ws c)) 7
    (with_depth (deepest_in ws c (args_in f.kind f.word xs)) (allowed_in f.kind)
    (with_measure (sums_in ws c f.kind xs) 10
    (λ n. go (grown (marking (reading_of ws ls c) f xs) f.kind f.word xs (extent m (deepest_in ws c (args_in f.kind f.word xs) + 1) n))))))

abbrev pub step_of : List ℕ → List ℕ → Result Counts Refusal → Step
step_of t ls (Ok c) = go (reading_of t ls c)
step_of t ls (Err e) = stop (refusal_number e)

-- the step is s, and what is kept where reading goes on: n numbers more
pub record Judged (s : Step) (t ls : List ℕ) (c : Counts) (n : ℕ) (r : Result Counts Refusal) : Type 0 where
  pub answer : step_of t ls r ≡ s
  pub goes : IfOk r (λ d. Held t d × Keyed t ls d.types × (d.used ≡ c.used + n) × (d.lines ≡ c.lines + 1))

-- and behind a line s: its numbers take at most half of it
pub record StepAt (o : Step) (s t ls : List ℕ) (c : Counts) (r : Result Counts Refusal) : Type 0 where
  pub answer : step_of t ls r ≡ o
  pub goes : IfOk r (λ d. Held t d × Keyed t ls d.types × (d.used * 2 ≤ c.used * 2 + length s) × (d.lines ≡ c.lines + 1))
