-- The code's step as `Read`'s: its tests by the words are those by the tables.
use mathlib.Core.Path.{◌≡◌, refl, sym, ap, fun_ext, ◌∙◌}
use mathlib.Core.Bool.{Bool, true, false, ◌&&◌}
use mathlib.Core.List.{List, ◌∷◌, ◌++◌, []}
use Rattle.std.specs.Prelude.{Option, None, Some, Result, Ok, Err, IfOk}
use Prim.Native.Nat.{ℕ, suc, ◌+◌, ◌*◌, ◌≤◌, ◌<◌}
use native.Mathlib.Omega.{arith}
use native.Mathlib.Numerals.{add-one}
use lib.Dec.{leb, ltb}
use lib.ListN.{length, get_or}
use borrow.Author.Tests.{le-leb, lt-leb, leb-true, leb-false, ltb-true, ltb-false}
use Rattle.tables.specs.Tables.{pick, row_of, run, storages_from, variables_from, statics_from, places_from, cell, type_word_by}
use Rattle.fields.specs.Fields.{Kept}
use Rattle.fields.proofs.Tabs.{run_kept, tab_same}
use Rattle.spec.specs.Limits.{size_sum_limit, weight_sum_limit, type_size_limit, type_weight_limit}
use Rattle.spec.specs.Ticket.{type_at, no_type, no_place, no_node, arg, type_size_by, weight_by}
use Rattle.spec.specs.Forms.{Arg, Field, between, float_width, type_part, type, storage, place, node, Line, line_of}
use Rattle.spec.specs.Read.{Reading, Step, stop, Test, test, first_failed, refusal_of, step, StepBy, add, add_line, all, rank, in_order, few_enough, in_range, fields_fit, earlier, earlier_of, types_right, small_enough, size_of, weight_of, once, depth_of, deepest, depth_of_field, depth_allowed, own_size, own_weight, sums_fit}
use Rattle.answers.specs.declared.Refusal.{Refusal}
use Rattle.answers.specs.Refusals.{refusal_number}
use Rattle.line_forms.specs.Classes.{head_of, line_from, FormAt}
use Rattle.line_checks.specs.Rows.{row_at, word_at, section, type_row, storage_row, placed_row, place_row, node_row, numbers, tables_by_counts, used_in, reading_of, Inside, Held, nodes_from}
use Rattle.line_checks.specs.declared.rows.Row.{Row}
use Rattle.line_checks.specs.declared.Measure.{Measure}
use Rattle.line_checks.specs.declared.types.Part.TheVariants.{Size, Weight}
use Rattle.line_checks.specs.Types.{part_of}
use Rattle.line_checks.specs.Keys.{Keyed}
use Rattle.line_checks.specs.Steps.{few_by_counts, earlier_in, earlier_arg, depth_in, deepest_in, args_in, early_tests, both_within}
use Rattle.ticket.specs.Grown.{grown}
use Rattle.ticket.specs.Judged.{types_in, sized_in, nothing, allowed_in, added_in, extent, with_test, with_measure, with_depth, late_step, marking, numbers_of, Open, Judged, StepAt}
use Rattle.line_forms.specs.declared.LineKind.{LineKind}
use Rattle.line_forms.specs.declared.LineKind.TheVariants.{Functions, Types, Storages, Variables, Statics, Places, Nodes}
use Rattle.tables.specs.declared.Counts.{Counts}
use Rattle.line_forms.specs.declared.Form.{Form}
use Rattle.line_checks.proofs.RowLaws.{section_at, section_past, length_section}
use Rattle.line_checks.proofs.CheckLaws.{args_run, values_in}
use Rattle.line_checks.proofs.KeyLaws.{keyed_lists}

-- ---------------------------------------------------------------- tables by the words

module _ (ws ls : List ℕ) (c : Counts) where
  type_entry : {A : Type 0} (f : Row → A) (d : A) (g : A → ℕ) (base n k j other : ℕ) → ((q : ℕ) → g (f (row_at ws q)) ≡ word_at ws q j) → g d ≡ other
      → g (get_or (section f ws base n) k d) ≡ cell ws base n k j other
  unfolding cell word_at
  type_entry f d g base n k j other h e = by (ltb k n) refl
    where
      by : (t : Bool) → ltb k n ≡ t → g (get_or (section f ws base n) k d) ≡ pick t (word_at ws (row_of base k) j) other
      by true q = rw (section_at f ws base n k d (ltb-true k n q)) (h (row_of base k))
      by false q = rw (section_past f ws base n k d (ltb-false k n q)) e

  size_entry : (x : ℕ) → (type_at (tables_by_counts ws ls c) x).size ≡ cell ws 0 c.types x 3 0
  unfolding tables_by_counts row_at
  size_entry x = type_entry (type_row ls) no_type (λ t. t.size) 0 c.types x 3 0 (λ q. refl) refl

  weight_entry : (x : ℕ) → (type_at (tables_by_counts ws ls c) x).weight ≡ cell ws 0 c.types x 4 1
  unfolding tables_by_counts row_at
  weight_entry x = type_entry (type_row ls) no_type (λ t. t.weight) 0 c.types x 4 1 (λ q. refl) refl

  depth_entry : (f : Field) (x : ℕ) → depth_of_field (tables_by_counts ws ls c) f x ≡ depth_in ws c f x
  unfolding tables_by_counts row_at
  depth_entry (between a b) x = refl
  depth_entry float_width x = refl
  depth_entry type_part x = type_entry (type_row ls) no_type (λ t. t.depth) 0 c.types x 5 1 (λ q. refl) refl
  depth_entry type x = refl
  depth_entry storage x = refl
  depth_entry place x = type_entry (place_row ls) no_place (λ t. t.depth) places_from c.places x 4 0 (λ q. refl) refl
  depth_entry node x = type_entry (node_row ls) no_node (λ t. t.depth) nodes_from c.nodes x 4 0 (λ q. refl) refl

  deepest_entry : (xa : List Arg) → deepest (tables_by_counts ws ls c) xa ≡ deepest_in ws c xa
  unfolding deepest_in
  deepest_entry [] = refl
  deepest_entry (a ∷ xa) = rw (depth_entry a.class a.value, deepest_entry xa)

  few_entry : (k : LineKind) (w : ℕ) → few_enough (tables_by_counts ws ls c) (head_of k w) ≡ few_by_counts k c
  unfolding tables_by_counts
  few_entry Functions w = refl
  few_entry Types w = rw (length_section (type_row ls) ws 0 c.types)
  few_entry Storages w = rw (length_section (storage_row ls) ws storages_from c.storages)
  few_entry Variables w = rw (length_section (placed_row ls) ws variables_from c.variables)
  few_entry Statics w = rw (length_section (placed_row ls) ws statics_from c.statics)
  few_entry Places w = rw (length_section (place_row ls) ws places_from c.places)
  few_entry Nodes w = rw (length_section (node_row ls) ws nodes_from c.nodes)

  earlier_entry : (f : Field) (x : ℕ) → earlier_of (tables_by_counts ws ls c) f x ≡ earlier_in c f x
  unfolding tables_by_counts
  earlier_entry (between a b) x = refl
  earlier_entry float_width x = refl
  earlier_entry type_part x = rw (length_section (type_row ls) ws 0 c.types)
  earlier_entry type x = rw (length_section (type_row ls) ws 0 c.types)
  earlier_entry storage x = rw (length_section (storage_row ls) ws storages_from c.storages)
  earlier_entry place x = rw (length_section (place_row ls) ws places_from c.places)
  earlier_entry node x = rw (length_section (node_row ls) ws nodes_from c.nodes)

  all_entry : (xa : List Arg) → all (λ a. earlier (tables_by_counts ws ls c) a) xa ≡ all (earlier_arg c) xa
  all_entry [] = refl
  all_entry (a ∷ xa) = rw (earlier_entry a.class a.value, all_entry xa)

  types_entry : (k : LineKind) (w : ℕ) (xs : List ℕ) → types_right (tables_by_counts ws ls c) (head_of k w) xs ≡ types_in ws ls c k w xs
  unfolding tables_by_counts
  types_entry Functions w xs = refl
  types_entry Types w xs = rw (length_section (type_row ls) ws 0 c.types)
  types_entry Storages w xs = rw (length_section (type_row ls) ws 0 c.types)
  types_entry Variables w xs = rw (length_section (type_row ls) ws 0 c.types)
  types_entry Statics w xs = rw (length_section (type_row ls) ws 0 c.types)
  types_entry Places w xs = rw (length_section (type_row ls) ws 0 c.types)
  types_entry Nodes w xs = rw (length_section (type_row ls) ws 0 c.types)

  own_size_entry : (k : LineKind) (w : ℕ) (xs : List ℕ) → own_size (tables_by_counts ws ls c) (head_of k w) xs ≡ (added_in ws c.types k xs).size
  own_size_entry Functions w xs = refl
  own_size_entry Types w xs = refl
  own_size_entry Storages w xs = refl
  own_size_entry Variables w xs = refl
  own_size_entry Statics w xs = refl
  own_size_entry Places w xs = refl
  own_size_entry Nodes w xs = size_entry (arg xs 0)

  own_weight_entry : (k : LineKind) (w : ℕ) (xs : List ℕ) → own_weight (tables_by_counts ws ls c) (head_of k w) xs ≡ (added_in ws c.types k xs).weight
  own_weight_entry Functions w xs = refl
  own_weight_entry Types w xs = refl
  own_weight_entry Storages w xs = refl
  own_weight_entry Variables w xs = refl
  own_weight_entry Statics w xs = refl
  own_weight_entry Places w xs = refl
  own_weight_entry Nodes w xs = weight_entry (arg xs 0)

  rank_entry : (k : LineKind) (w : ℕ) → rank (head_of k w) ≡ rank (head_of k 0)
  rank_entry Functions w = refl
  rank_entry Types w = refl
  rank_entry Storages w = refl
  rank_entry Variables w = refl
  rank_entry Statics w = refl
  rank_entry Places w = refl
  rank_entry Nodes w = refl

  allowed_entry : (k : LineKind) (w : ℕ) → depth_allowed (head_of k w) ≡ allowed_in k
  allowed_entry Functions w = refl
  allowed_entry Types w = refl
  allowed_entry Storages w = refl
  allowed_entry Variables w = refl
  allowed_entry Statics w = refl
  allowed_entry Places w = refl
  allowed_entry Nodes w = refl

-- ---------------------------------------------------------------- tests in a row

step_test : (R : Reading) (l : Line) (n : ℕ) (t : Bool) (ts : List Test) → StepBy R l (first_failed (test n t ∷ ts)) ≡ with_test t n (StepBy R l (first_failed ts))
unfolding with_test first_failed
step_test R l n true ts = refl
step_test R l n false ts = refl

none_failed : first_failed [] ≡ None
unfolding first_failed
none_failed = refl

or_else : Option ℕ → Option ℕ → Option ℕ
or_else None o = o
or_else (Some n) o = Some n

first_both : (ts us : List Test) → first_failed (ts ++ us) ≡ or_else (first_failed ts) (first_failed us)
unfolding first_failed or_else
first_both [] us = refl
first_both (t ∷ ts) us = by t.passes refl (first_both ts us)
  where
    by : (b : Bool) → t.passes ≡ b → first_failed (ts ++ us) ≡ or_else (first_failed ts) (first_failed us) → first_failed (t ∷ (ts ++ us)) ≡ or_else (first_failed (t ∷ ts)) (first_failed us)
    by true e h = rw (first_failed, e, h)
    by false e h = rw (first_failed, e)

-- ---------------------------------------------------------------- the later tests in a row

depth_test : (d limit : ℕ) (s : Step) → with_depth d limit s ≡ with_test (leb (suc d) limit) 9 s
unfolding with_depth with_test
depth_test d limit s = by (leb limit d) refl
  where
    by : (t : Bool) → leb limit d ≡ t → pick t (stop 9) s ≡ pick (leb (suc d) limit) s (stop 9)
    by true e = rw (lt-leb (suc d) limit (omega (arith, leb-true limit d e)))
    by false e = rw (le-leb (suc d) limit (omega (arith, leb-false limit d e)))

measure_test : (a b s w n : ℕ) (k : Measure → Step) → with_measure (both_within a b s w) n k ≡ with_test (leb s a && leb w b) n (k (record { size = s; weight = w }))
unfolding with_measure both_within with_test
measure_test a b s w n k = by (leb s a && leb w b)
  where
    by : (t : Bool) → with_measure (pick t (Some (record { size = s; weight = w })) None) n k ≡ pick t (k (record { size = s; weight = w })) (stop n)
    by true = refl
    by false = refl

-- what a line measures, whether it is small enough or not
measure_for : List ℕ → ℕ → LineKind → ℕ → List ℕ → Measure
measure_for ws n Functions w xs = nothing
measure_for ws n Types w xs = record { size = type_size_by (part_of ws n Size) (type_word_by w) xs; weight = weight_by (part_of ws n Weight) (type_word_by w) xs }
measure_for ws n Storages w xs = nothing
measure_for ws n Variables w xs = nothing
measure_for ws n Statics w xs = nothing
measure_for ws n Places w xs = nothing
measure_for ws n Nodes w xs = nothing

module _ (ws ls : List ℕ) (c : Counts) (w : ℕ) (xs : List ℕ) where
  size_is : size_of (tables_by_counts ws ls c) (type_word_by w) xs ≡ type_size_by (part_of ws c.types Size) (type_word_by w) xs
  size_is = ap (λ (g : ℕ → ℕ). type_size_by g (type_word_by w) xs) (fun_ext (size_entry ws ls c))

  weight_is : weight_of (tables_by_counts ws ls c) (type_word_by w) xs ≡ weight_by (part_of ws c.types Weight) (type_word_by w) xs
  weight_is = ap (λ (g : ℕ → ℕ). weight_by g (type_word_by w) xs) (fun_ext (weight_entry ws ls c))

  sized_test : (k : LineKind) (X : Measure → Step)
      → with_measure (sized_in ws c.types k w xs) 6 X ≡ with_test (small_enough (tables_by_counts ws ls c) (head_of k w) xs) 6 (X (measure_for ws c.types k w xs))
  unfolding with_measure with_test measure_for
  sized_test Functions X = refl
  sized_test Types X =
      measure_test type_size_limit type_weight_limit (type_size_by (part_of ws c.types Size) (type_word_by w) xs) (weight_by (part_of ws c.types Weight) (type_word_by w) xs) 6 X
      ∙ rw (size_is, weight_is)
  sized_test Storages X = refl
  sized_test Variables X = refl
  sized_test Statics X = refl
  sized_test Places X = refl
  sized_test Nodes X = refl

-- a line of these numbers
abbrev line_in : Form → List ℕ → Line
line_in f xs = record { head = head_of f.kind f.word; args = args_in f.kind f.word xs }

line_lent : (f : Form) (ls : List ℕ) (used : ℕ) → line_from f ls used ≡ line_in f (run ls used f.count)
unfolding line_from
line_lent f ls used = rw (args_run f ls used)

module _ (ws ls : List ℕ) (c : Counts) (w n : ℕ) (xs : List ℕ) where
  abbrev F : LineKind → Form
  F k = record { kind = k; word = w; count = n }

  abbrev D : LineKind → ℕ
  D k = deepest_in ws c (args_in k w xs)

  grown_add : (k : LineKind)
      → grown (marking (reading_of ws ls c) (F k) xs) k w xs
      (extent (measure_for ws c.types k w xs) (D k + 1) (record { size = c.sizes + (added_in ws c.types k xs).size; weight = c.weights + (added_in ws c.types k xs).weight }))
      ≡ add (reading_of ws ls c) (line_in (F k) xs)
  unfolding reading_of add add_line depth_of measure_for
  grown_add Functions = rw (values_in Functions w xs, add-one c.lines)
  grown_add Types = rw (values_in Types w xs, size_is ws ls c w xs, weight_is ws ls c w xs, deepest_entry ws ls c (args_in Types w xs), add-one (D Types), add-one c.lines)
  grown_add Storages = rw (values_in Storages w xs, add-one c.lines)
  grown_add Variables = rw (values_in Variables w xs, add-one c.lines)
  grown_add Statics = rw (values_in Statics w xs, add-one c.lines)
  grown_add Places = rw (values_in Places w xs, deepest_entry ws ls c (args_in Places w xs), add-one (D Places), add-one c.lines)
  grown_add Nodes = rw (values_in Nodes w xs, deepest_entry ws ls c (args_in Nodes w xs), add-one (D Nodes), size_entry ws ls c (arg xs 0), weight_entry ws ls c (arg xs 0), add-one c.lines)

module _ (ws ls : List ℕ) (c : Counts) (f : Form) (xs : List ℕ) where
  late_tests : List Test
  late_tests =
      test 5 (types_right (tables_by_counts ws ls c) (head_of f.kind f.word) xs) ∷
      test 6 (small_enough (tables_by_counts ws ls c) (head_of f.kind f.word) xs) ∷
      test 7 (once (args_in f.kind f.word xs) (used_in ws c)) ∷
      test 9 (leb (depth_of (tables_by_counts ws ls c) (args_in f.kind f.word xs)) (depth_allowed (head_of f.kind f.word))) ∷
      test 10 (sums_fit (reading_of ws ls c) (head_of f.kind f.word) xs) ∷
      []

  late_is : StepBy (reading_of ws ls c) (line_in f xs) (first_failed late_tests) ≡ late_step ws ls c f xs
  unfolding late_tests late_step depth_of reading_of
  late_is =
      step_test _ _ 5 _ _
      ∙ rw (
        step_test (reading_of ws ls c) (line_in f xs) 6 (small_enough (tables_by_counts ws ls c) (head_of f.kind f.word) xs) _,
        step_test (reading_of ws ls c) (line_in f xs) 7 (once (args_in f.kind f.word xs) (used_in ws c)) _,
        step_test (reading_of ws ls c) (line_in f xs) 9 (leb (suc (deepest (tables_by_counts ws ls c) (args_in f.kind f.word xs))) (depth_allowed (head_of f.kind f.word))) _,
        step_test (reading_of ws ls c) (line_in f xs) 10 (sums_fit (reading_of ws ls c) (head_of f.kind f.word) xs) [],
        types_entry ws ls c f.kind f.word xs,
        sized_test ws ls c f.word xs f.kind,
        depth_test (deepest_in ws c (args_in f.kind f.word xs)) (allowed_in f.kind),
        measure_test size_sum_limit weight_sum_limit (c.sizes + (added_in ws c.types f.kind xs).size) (c.weights + (added_in ws c.types f.kind xs).weight) 10,
        allowed_entry ws ls c f.kind f.word,
        deepest_entry ws ls c (args_in f.kind f.word xs),
        own_size_entry ws ls c f.kind f.word xs,
        own_weight_entry ws ls c f.kind f.word xs,
        none_failed,
        grown_add ws ls c f.word f.count xs f.kind,
      )

  tests_before : List Test
  tests_before =
      test 2 (in_order c.stage (rank (head_of f.kind f.word))) ∷
      test 8 (few_enough (tables_by_counts ws ls c) (head_of f.kind f.word)) ∷
      test 3 (all in_range (args_in f.kind f.word xs) && fields_fit (head_of f.kind f.word) xs) ∷
      test 4 (all (λ a. earlier (tables_by_counts ws ls c) a) (args_in f.kind f.word xs)) ∷
      []

  early_is : first_failed (early_tests f xs c) ≡ first_failed tests_before
  unfolding tests_before
  early_is = rw (rank_entry ws ls c f.kind f.word, few_entry ws ls c f.kind f.word, all_entry ws ls c (args_in f.kind f.word xs))

  refusal_is : refusal_of (reading_of ws ls c) (line_in f xs) ≡ or_else (first_failed (early_tests f xs c)) (first_failed late_tests)
  unfolding refusal_of reading_of tests_before late_tests
  refusal_is = rw (values_in f.kind f.word xs) (first_both tests_before late_tests ∙ rw (← early_is))

  step_early : (m : ℕ) → Some m ≡ first_failed (early_tests f xs c) → stop m ≡ step (reading_of ws ls c) (Some (line_in f xs))
  unfolding step or_else
  step_early m e = rw (refusal_is, ← e)

  step_late : None ≡ first_failed (early_tests f xs c) → late_step ws ls c f xs ≡ step (reading_of ws ls c) (Some (line_in f xs))
  unfolding step or_else
  step_late e = rw (refusal_is, ← e) (sym late_is)

-- ---------------------------------------------------------------- numbers behind those in use

module _ (ws u t : List ℕ) (c : Counts) (h : Held ws c) (k : Kept c.used u t) where
  kept_row : (base n : ℕ) → Inside ws c.used base n → (i : ℕ) → i < n → numbers t (row_at ws (row_of base i)) ≡ numbers u (row_at ws (row_of base i))
  unfolding numbers row_at
  kept_row base n s i l = run_kept u t c.used (word_at ws (row_of base i) 1) (word_at ws (row_of base i) 2) k (s.ends i l)

  -- the types' keys too
  keyed_kept : Keyed ws u c.types → Keyed ws t c.types
  keyed_kept = keyed_lists ws u t c.types (kept_row 0 c.types h.types)

  kept_section : {A : Type 0} (f : List ℕ → Row → A) → ((r : Row) → numbers t r ≡ numbers u r → f t r ≡ f u r) → (base n : ℕ) → Inside ws c.used base n
      → section (f t) ws base n ≡ section (f u) ws base n
  unfolding section
  kept_section f g base n s = tab_same (λ i. f t (row_at ws (row_of base i))) (λ i. f u (row_at ws (row_of base i))) 0 n (λ i l b. g (row_at ws (row_of base i)) (kept_row base n s i (omega arith)))

  reading_kept : reading_of ws t c ≡ reading_of ws u c
  unfolding reading_of tables_by_counts
  reading_kept =
      rw (
        kept_section type_row (λ r e. rw e) 0 c.types h.types,
        kept_section storage_row (λ r e. rw e) storages_from c.storages h.storages,
        kept_section placed_row (λ r e. rw e) variables_from c.variables h.variables,
        kept_section placed_row (λ r e. rw e) statics_from c.statics h.statics,
        kept_section place_row (λ r e. rw e) places_from c.places h.places,
        kept_section node_row (λ r e. rw e) nodes_from c.nodes h.nodes,
      )

-- ---------------------------------------------------------------- a line

pub few_passed : (f : Form) (xs : List ℕ) (c : Counts) → None ≡ first_failed (early_tests f xs c) → few_by_counts f.kind c ≡ true
unfolding first_failed
few_passed f xs c e = by (in_order c.stage (rank (head_of f.kind 0))) (few_by_counts f.kind c)
    (test 3 (all in_range (args_in f.kind f.word xs) && fields_fit (head_of f.kind f.word) xs) ∷ test 4 (all (earlier_arg c) (args_in f.kind f.word xs)) ∷ []) e
  where
    by : (a b : Bool) (ts : List Test) → None ≡ first_failed (test 2 a ∷ test 8 b ∷ ts) → b ≡ true
    by true true ts q = refl
    by true false ts q = cc
    by false b ts q = cc

-- what judging asks, once a line's numbers are read
pub open_kept : (ws u t : List ℕ) (c : Counts) → Kept c.used u t → Open ws u c → Open ws t c
open_kept ws u t c k o = record { held = o.held; roomy = o.roomy; keyed = keyed_kept ws u t c o.held k o.keyed; lines = o.lines }

module _ (s ws u : List ℕ) (c : Counts) where
  pub step_unformed : (t : List ℕ) → FormAt (line_of s) s u t c.used None → StepAt (step (reading_of ws u c) (line_of s)) s ws t c (Err Refusal.BadForm)
  unfolding step
  step_unformed t a = record { answer = rw (← a.answer); goes = tt }

  module _ (h : Held ws c) (t : List ℕ) (f : Form) (a : FormAt (line_of s) s u t c.used (Some f)) where
    line_is : line_of s ≡ Some (line_in f (numbers_of t c f))
    line_is = sym a.answer ∙ ap Some (line_lent f t c.used)

    pub step_refused : (x : Refusal) → Some (refusal_number x) ≡ first_failed (early_tests f (numbers_of t c f) c) → StepAt (step (reading_of ws u c) (line_of s)) s ws t c (Err x)
    step_refused x p =
        record {
          answer = step_early ws t c f (numbers_of t c f) _ p ∙ rw (reading_kept ws u t c h a.kept, line_is);
          goes = tt;
        }

    pub step_passed : None ≡ first_failed (early_tests f (numbers_of t c f) c) → (x : List ℕ) (k : Result Counts Refusal) → Judged (late_step ws t c f (numbers_of t c f)) x t c f.count k
        → StepAt (step (reading_of ws u c) (line_of s)) s x t c k
    step_passed p x k j =
        record {
          answer = j.answer ∙ step_late ws t c f (numbers_of t c f) p ∙ rw (reading_kept ws u t c h a.kept, line_is);
          goes = goes_on k j.goes;
        }
      where
        goes_on : (k : Result Counts Refusal) → IfOk k (λ d. Held x d × Keyed x t d.types × (d.used ≡ c.used + f.count) × (d.lines ≡ c.lines + 1))
            → IfOk k (λ d. Held x d × Keyed x t d.types × (d.used * 2 ≤ c.used * 2 + length s) × (d.lines ≡ c.lines + 1))
        goes_on (Ok d) g = (g.0, g.1, omega (arith, g.2, a.half), g.3)
        goes_on (Err y) g = tt

pub ruleset stepping = (few_passed, open_kept, step_unformed, step_refused, step_passed)
