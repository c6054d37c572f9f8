-- Reading and the answer with other limits for places, nodes and the sums over nodes: what document 01 had, and what E5 raised.
use Rattle.std.specs.Prelude.{ℕ, suc, ◌+◌, Bool, true, false, ◌&&◌, List, [], ◌∷◌, leb, ltb, length}
use Rattle.std.specs.Prelude.{Option, None, Some}
use Rattle.spec.specs.Text.{split, line_feed}
use Rattle.spec.specs.Limits.{text_limit, type_lines, storage_lines, variable_lines, static_lines}
use Rattle.spec.specs.Ticket.{Tables}
use Rattle.spec.specs.Forms.{Head, f_line, s_line, v_line, g_line, t_line, p_line, n_line, Line, line_of, values}
use Rattle.spec.specs.Read as reading
use Rattle.spec.specs.Read.{Reading, Read, refused, Step, stop, go, test, first_failed, StepBy, at_end, at_tail, start}
use Rattle.spec.specs.Answer.{Answer, of_reading}

-- the limits that were raised
pub record Limits : Type 0 where
  pub places : ℕ
  pub nodes : ℕ
  pub sizes : ℕ
  pub weights : ℕ

abbrev pub document_01 : Limits
document_01 = record { places = 256; nodes = 256; sizes = 2048; weights = 2048 }

module _ (L : Limits) where
  abbrev pub few_enough : Tables → Head → Bool
  few_enough T f_line = true
  few_enough T (t_line w) = ltb (length T.types) type_lines
  few_enough T s_line = ltb (length T.storages) storage_lines
  few_enough T v_line = ltb (length T.variables) variable_lines
  few_enough T g_line = ltb (length T.statics) static_lines
  few_enough T (p_line w) = ltb (length T.places) L.places
  few_enough T (n_line w) = ltb (length T.nodes) L.nodes

  abbrev pub sums_fit : Reading → Head → List ℕ → Bool
  sums_fit R h xs =
      leb (R.sizes + reading.own_size R.tables h xs) L.sizes && leb (R.weights + reading.own_weight R.tables h xs) L.weights

  unfoldable pub refusal_of : Reading → Line → Option ℕ
  refusal_of R l =
      first_failed (
      test 2 (reading.in_order R.stage (reading.rank l.head)) ∷
      test 8 (few_enough R.tables l.head) ∷
      test 3 (reading.all reading.in_range l.args && reading.fields_fit l.head (values l.args)) ∷
      test 4 (reading.all (λ a. reading.earlier R.tables a) l.args) ∷
      test 5 (reading.types_right R.tables l.head (values l.args)) ∷
      test 6 (reading.small_enough R.tables l.head (values l.args)) ∷
      test 7 (reading.once l.args R.used) ∷
      test 9 (leb (reading.depth_of R.tables l.args) (reading.depth_allowed l.head)) ∷
      test 10 (sums_fit R l.head (values l.args)) ∷
      [])

  unfoldable pub step : Reading → Option Line → Step
  step R None = stop 2
  step R (Some l) = StepBy R l (refusal_of R l)

  unfoldable pub read_lines : List (List ℕ) → Reading → Read
  read_lines [] R = at_end R
  read_lines (l ∷ []) R = at_tail R l
  read_lines (l ∷ m ∷ ls) R = elim (step R (line_of l)) [ stop n ↦ refused n (suc R.lines) | go R' ↦ read_lines (m ∷ ls) R' ]

  unfoldable pub read_ticket : List ℕ → Read
  read_ticket s = elim (leb (length s) text_limit) [ true ↦ read_lines (split line_feed s) start | false ↦ refused 1 0 ]

  unfoldable pub answer : List ℕ → ℕ → Answer
  answer ticket room = of_reading room (read_ticket ticket)
