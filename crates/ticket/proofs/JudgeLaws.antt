-- The later tests of a line, and what follows them.
use mathlib.Core.Path.{◌≡◌, refl, ap, ◌∙◌}
use mathlib.Core.Bool.{true, false}
use mathlib.Core.List.{List}
use Rattle.std.specs.Prelude.{Option, None, Some, Result, Ok, Err, IsErrAnd}
use Rattle.std.specs.Option.{ok_or}
use Rattle.std.proofs.lemmas.Result.{err_from_is_err_and}
use Prim.Native.Nat.{ℕ, ◌+◌, ◌≤◌, ◌<◌}
use lib.Dec.{lit<}
use borrow.Author.Tests.{le-leb, lt-leb, eqb-false}
use Rattle.tables.specs.Tables.{row_of, run, storages_from, variables_from, statics_from, places_from}
use Rattle.spec.specs.Ticket.{arg}
use Rattle.answers.specs.declared.Refusal.{Refusal}
use Rattle.line_checks.specs.Rows.{reading_of, tables_by_counts, Few, row_at, section, numbers, type_row, storage_row, placed_row, place_row, node_row, nodes_from}
use Rattle.line_checks.specs.declared.rows.Row.{Row}
use Rattle.line_checks.specs.declared.Measure.{Measure}
use Rattle.line_checks.specs.Keys.{Keyed}
use Rattle.line_checks.specs.Steps.{args_in, deepest_in, MarkedAll, Alike}
use Rattle.line_checks.proofs.RowLaws.{section_same}
use Rattle.line_checks.proofs.AlikeLaws.{alike_entry, word_same, deepest_alike}
use Rattle.line_forms.specs.declared.LineKind.{LineKind}
use Rattle.line_forms.specs.declared.LineKind.TheVariants.{Functions, Types, Storages, Variables, Statics, Places, Nodes}
use Rattle.line_forms.specs.declared.Form.{Form}
use Rattle.tables.specs.declared.Counts.{Counts}
use Rattle.ticket.specs.Grown.{Added}
use Rattle.ticket.specs.Judged.{types_in, sized_in, allowed_in, added_in, sums_in, extent, with_test, with_measure, with_depth, last_step, late_step, Judged}

-- where a function is left by `ok_or` and `?`: its error is that one, and there was no value
pub left : {A B E : Type 0} (o : Option A) (e x : E) (r : Result B E) → IsErrAnd r (λ y. y ≡ x) → Err x ≡ ok_or o e → (r ≡ Err e) × (None ≡ o)
left {A} {B} {E} o e x r h q = by o q (let p = err_from_is_err_and r h in p.1 ∙ ap Err p.2)
  where
    by : (o : Option A) → Err x ≡ ok_or o e → r ≡ Err x → (r ≡ Err e) × (None ≡ o)
    by None q g = (cc, refl)
    by (Some y) q g = cc

-- ---------------------------------------------------------------- the last two tests

module _ (ws ls : List ℕ) (c : Counts) (f : Form) (xs : List ℕ) (m : Measure) (d a : ℕ) (e : d ≡ deepest_in ws c (args_in f.kind f.word xs)) (g : a ≡ allowed_in f.kind) where
  pub last_deep : a ≤ d → Judged (last_step ws ls c f xs m) ws ls c f.count (Err Refusal.TooDeep)
  unfolding last_step with_depth
  last_deep h = record { answer = rw (← e, ← g, le-leb a d h); goes = tt }

  pub last_beyond : d < a → None ≡ sums_in ws c f.kind xs → Judged (last_step ws ls c f xs m) ws ls c f.count (Err Refusal.LargeSums)
  unfolding last_step with_depth with_measure
  last_beyond h p = record { answer = rw (← e, ← g, lt-leb a d h, ← p); goes = tt }

  pub last_goes : Keyed ws ls c.types → d < a → (n : Measure) → Some n ≡ sums_in ws c f.kind xs → (t : List ℕ) (k : Counts) → xs ≡ run ls c.used f.count
      → Added ws t ls f c (extent m (d + 1) n) k → Judged (last_step ws ls c f xs m) t ls c f.count (Ok k)
  unfolding last_step with_depth with_measure
  last_goes i h n p t k q b = record { answer = rw (b.reading, ← q, ← e, ← g, lt-leb a d h, ← p); goes = (b.held, b.keyed i, b.used, b.lines) }

pub ruleset lasting = (last_deep, last_beyond, last_goes)

-- ---------------------------------------------------------------- the three before them

module _ (ws ls : List ℕ) (c : Counts) (f : Form) (xs : List ℕ) where
  pub late_types : false ≡ types_in ws ls c f.kind f.word xs → Judged (late_step ws ls c f xs) ws ls c f.count (Err Refusal.BadTypes)
  unfolding late_step with_test
  late_types p = record { answer = rw (← p); goes = tt }

  module _ (p : true ≡ types_in ws ls c f.kind f.word xs) where
    pub late_size : None ≡ sized_in ws c.types f.kind f.word xs → Judged (late_step ws ls c f xs) ws ls c f.count (Err Refusal.LargeType)
    unfolding late_step with_test with_measure
    late_size q = record { answer = rw (← p, ← q); goes = tt }

    pub late_once : (m : Measure) → Some m ≡ sized_in ws c.types f.kind f.word xs → (t : List ℕ) → MarkedAll ws t c (args_in f.kind f.word xs) false
        → Judged (late_step ws ls c f xs) t ls c f.count (Err Refusal.NotOnce)
    unfolding late_step with_test with_measure
    late_once m q t a = record { answer = rw (← p, ← q, ← a.answer); goes = tt }

-- ---------------------------------------------------------------- words that differ in marks alone

module _ (u t ls : List ℕ) (c : Counts) (few : Few c) (a : Alike u t) where
  own_alike : (k : LineKind) (xs : List ℕ) → added_in t c.types k xs ≡ added_in u c.types k xs
  own_alike Functions xs = refl
  own_alike Types xs = refl
  own_alike Storages xs = refl
  own_alike Variables xs = refl
  own_alike Statics xs = refl
  own_alike Places xs = refl
  own_alike Nodes xs =
      rw (alike_entry u t a 0 c.types (arg xs 0) 3 0 (λ e. eqb-false 3 5 refl e) (lit< tt), alike_entry u t a 0 c.types (arg xs 0) 4 1 (λ e. eqb-false 4 5 refl e) (lit< tt))

  sums_alike : (k : LineKind) (xs : List ℕ) → sums_in t c k xs ≡ sums_in u c k xs
  sums_alike k xs = rw (own_alike k xs)

  plain_rows : {A : Type 0} (f : Row → A) (base n : ℕ) → base < places_from → section f t base n ≡ section f u base n
  plain_rows f base n h = section_same f u t base n (λ k l. ap f (a.rows base k h))

  place_rows : (base n : ℕ) → section (place_row ls) t base n ≡ section (place_row ls) u base n
  unfolding row_at numbers
  place_rows base n =
      section_same (place_row ls) u t base n (λ k l. let w = word_same u t a (row_of base k) in rw (w 0 (lit< tt), w 1 (lit< tt), w 2 (lit< tt), w 3 (lit< tt), w 4 (lit< tt)))

  node_rows : (base n : ℕ) → section (node_row ls) t base n ≡ section (node_row ls) u base n
  unfolding row_at numbers
  node_rows base n =
      section_same (node_row ls) u t base n (λ k l. let w = word_same u t a (row_of base k) in rw (w 0 (lit< tt), w 1 (lit< tt), w 2 (lit< tt), w 3 (lit< tt), w 4 (lit< tt)))

  tables_alike : tables_by_counts t ls c ≡ tables_by_counts u ls c
  unfolding tables_by_counts
  tables_alike =
      rw (
        plain_rows (type_row ls) 0 c.types (lit< tt),
        plain_rows (storage_row ls) storages_from c.storages (lit< tt),
        plain_rows (placed_row ls) variables_from c.variables (lit< tt),
        plain_rows (placed_row ls) statics_from c.statics (lit< tt),
        place_rows places_from c.places,
        node_rows nodes_from c.nodes,
      )

-- a line whose first tests are passed and whose marks are made
module _ (ws ls : List ℕ) (c : Counts) (f : Form) (xs : List ℕ) (few : Few c) (p : true ≡ types_in ws ls c f.kind f.word xs) (m : Measure) (q : Some m ≡ sized_in ws c.types f.kind f.word xs)
    (t : List ℕ) (a : MarkedAll ws t c (args_in f.kind f.word xs) true) where
  late_last : late_step ws ls c f xs ≡ last_step t ls c f xs m
  unfolding late_step last_step with_test with_measure reading_of
  late_last =
      rw (
        ← p,
        ← q,
        ← a.answer,
        deepest_alike ws t c a.alike (args_in f.kind f.word xs),
        sums_alike ws t ls c few a.alike f.kind xs,
        tables_alike ws t ls c few a.alike,
        a.marks refl,
      )

  pub late_goes : (v : List ℕ) (r : Result Counts Refusal) → Judged (last_step t ls c f xs m) v ls c f.count r → Judged (late_step ws ls c f xs) v ls c f.count r
  late_goes v r j = rw late_last j

pub ruleset lately = (late_types, late_size, late_once, late_goes)
