-- The code's answers to each test, as those of `Read`.
use Rattle.std.specs.Prelude.{ℕ, ◌<◌, max, ◌≡◌, Bool, true, not, ◌&&◌, List, ◌∷◌, [], eqb, leb, ltb, length, get_or}
use Rattle.std.specs.Prelude.{Option, None, Some, is_some, Result, Ok, Err}
use Rattle.tables.specs.Tables.{pick, tab, row_of, places_from, cell}
use Rattle.spec.specs.Limits.{type_lines, storage_lines, variable_lines, static_lines, place_lines, node_lines, type_size_limit, type_weight_limit}
use Rattle.spec.specs.Text.{same}
use Rattle.spec.specs.Ticket.{TypeWord, TypeLine}
use Rattle.spec.specs.Forms.{Field, between, float_width, type_part, type, storage, place, node, Arg}
use Rattle.spec.specs.Read.{all, rank, in_order, in_range, fields_fit, used_of, mark_of, once, mark, type_number, Test, test}
use Rattle.line_forms.specs.Classes.{head_of, class_at, arg_at}
use Rattle.line_checks.specs.Rows.{word_at, row_at, used_in, nodes_from}
use Rattle.line_forms.specs.declared.LineKind.{LineKind}
use Rattle.line_forms.specs.declared.LineKind.TheVariants.{Functions, Types, Storages, Variables, Statics, Places, Nodes}
use Rattle.line_forms.specs.declared.Form.{Form}
use Rattle.tables.specs.declared.Counts.{Counts}
use Rattle.answers.specs.declared.Refusal.{Refusal}
use Rattle.answers.specs.Refusals.{refusal_number}
use Rattle.line_checks.specs.declared.Measure.{Measure}

-- the number of the refusal, if any
abbrev pub verdict_of : {A : Type 0} → Result A Refusal → Option ℕ
verdict_of (Ok a) = None
verdict_of (Err e) = Some (refusal_number e)

-- ---------------------------------------------------------------- tests by the counts and the words in place of tables

abbrev pub few_by_counts : LineKind → Counts → Bool
few_by_counts Functions c = true
few_by_counts Types c = ltb c.types type_lines
few_by_counts Storages c = ltb c.storages storage_lines
few_by_counts Variables c = ltb c.variables variable_lines
few_by_counts Statics c = ltb c.statics static_lines
few_by_counts Places c = ltb c.places place_lines
few_by_counts Nodes c = ltb c.nodes node_lines

abbrev pub earlier_in : Counts → Field → ℕ → Bool
earlier_in c (between a b) x = true
earlier_in c float_width x = true
earlier_in c type_part x = ltb x c.types
earlier_in c type x = ltb x c.types
earlier_in c storage x = ltb x c.storages
earlier_in c place x = ltb x c.places
earlier_in c node x = ltb x c.nodes

abbrev pub earlier_arg : Counts → Arg → Bool
earlier_arg c a = earlier_in c a.class a.value

abbrev pub depth_in : List ℕ → Counts → Field → ℕ → ℕ
depth_in ws c (between a b) x = 0
depth_in ws c float_width x = 0
depth_in ws c type_part x = cell ws 0 c.types x 5 1
depth_in ws c type x = 0
depth_in ws c storage x = 0
depth_in ws c place x = cell ws places_from c.places x 4 0
depth_in ws c node x = cell ws nodes_from c.nodes x 4 0

unfoldable pub deepest_in : List ℕ → Counts → List Arg → ℕ
deepest_in ws c [] = 0
deepest_in ws c (a ∷ xa) = max (depth_in ws c a.class a.value) (deepest_in ws c xa)

-- a line's numbers with their classes
abbrev pub arg_in : LineKind → ℕ → List ℕ → ℕ → Arg
arg_in k w xs = arg_at (class_at k w) (λ i. get_or xs i 0)

unfoldable pub args_in : LineKind → ℕ → List ℕ → List Arg
args_in k w xs = tab (arg_in k w xs) 0 (length xs)

-- the first four tests of a line of these numbers
abbrev pub early_tests : Form → List ℕ → Counts → List Test
early_tests f xs c =
    test 2 (in_order c.stage (rank (head_of f.kind 0))) ∷
    test 8 (few_by_counts f.kind c) ∷
    test 3 (all in_range (args_in f.kind f.word xs) && fields_fit (head_of f.kind f.word) xs) ∷
    test 4 (all (earlier_arg c) (args_in f.kind f.word xs)) ∷
    []

-- ---------------------------------------------------------------- marks

-- words that differ in the marks of places and nodes alone
pub record Alike (u t : List ℕ) : Type 0 where
  pub cells : (q j : ℕ) → (j ≡ 5 → ⊥) → j < 6 → word_at t q j ≡ word_at u q j
  pub rows : (base k : ℕ) → base < places_from → row_at t (row_of base k) ≡ row_at u (row_of base k)

-- u with a number's line marked, where it was not, is t
pub record Marking (u t : List ℕ) (c : Counts) (f : Field) (x : ℕ) (r : Bool) : Type 0 where
  pub answer : not r ≡ used_of (used_in u c) f x
  pub marks : used_in t c ≡ mark_of (used_in u c) f x
  pub alike : Alike u t

pub record MarkedAll (u t : List ℕ) (c : Counts) (xa : List Arg) (r : Bool) : Type 0 where
  pub answer : r ≡ once xa (used_in u c)
  pub marks : r ≡ true → used_in t c ≡ mark xa (used_in u c)
  pub alike : Alike u t

-- the same with the depth, from number to number
pub record MarkedOne (u t : List ℕ) (c : Counts) (f : Field) (x most : ℕ) (r : Option ℕ) : Type 0 where
  pub marking : Marking u t c f x (is_some r)
  pub deep : (d : ℕ) → r ≡ Some d → d ≡ max most (depth_in t c f x)

pub record MarkedDeep (u t : List ℕ) (c : Counts) (xa : List Arg) (r : Option ℕ) : Type 0 where
  pub whole : MarkedAll u t c xa (is_some r)
  pub deep : (d : ℕ) → r ≡ Some d → d ≡ deepest_in t c xa

-- ---------------------------------------------------------------- measures

unfoldable pub capped : ℕ → ℕ → Option ℕ
capped limit n = pick (leb n limit) (Some n) None

-- a size and a weight, where both are within their limits
unfoldable pub both_within : ℕ → ℕ → ℕ → ℕ → Option Measure
both_within a b s w = pick (leb s a && leb w b) (Some (record { size = s; weight = w })) None

-- a type's
abbrev pub measured : ℕ → ℕ → Option Measure
measured s w = both_within type_size_limit type_weight_limit s w

-- a type line that has this word and these numbers
abbrev pub alike_to : TypeWord → List ℕ → TypeLine → Bool
alike_to w xs t = eqb (type_number w) (type_number t.word) && same xs t.args
