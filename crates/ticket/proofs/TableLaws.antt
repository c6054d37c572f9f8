-- The tables that reading makes are those that the look-ups see.
use mathlib.Core.Path.{◌≡◌}
use mathlib.Core.List.{List}
use Prim.Native.Nat.{ℕ, ◌<◌}
use native.Mathlib.Omega.{arith}
use Rattle.tables.specs.declared.Counts.{Counts}
use Rattle.tables.specs.Tables.{tab, row_of, numbers_at, type_line, storage_line, placed_line, placed_of, placed_list, place_line, node_line, tables_of, storages_from, places_from}
use Rattle.fields.proofs.Tabs.{tab_same}
use Rattle.line_checks.proofs.RowLaws.{cell_here}
use Rattle.line_checks.specs.Rows.{row_at, section, numbers, type_row, storage_row, placed_row, place_row, node_row, nodes_from, tables_by_counts}
use Rattle.line_checks.specs.declared.rows.Row.{Row}

-- ---------------------------------------------------------------- a row of n

numbers_here : (ws ls : List ℕ) (base n k : ℕ) → k < n → numbers ls (row_at ws (row_of base k)) ≡ numbers_at ws ls base n k
unfolding numbers row_at numbers_at
numbers_here ws ls base n k h = rw (cell_here ws base n k 1 0 h, cell_here ws base n k 2 0 h)

-- ---------------------------------------------------------------- lines

module _ (ws ls : List ℕ) (c : Counts) (k : ℕ) where
  type_here : k < c.types → type_row ls (row_at ws (row_of 0 k)) ≡ type_line ws ls c k
  unfolding row_at numbers numbers_at type_line
  type_here h =
      rw (
        cell_here ws 0 c.types k 0 0 h,
        cell_here ws 0 c.types k 1 0 h,
        cell_here ws 0 c.types k 2 0 h,
        cell_here ws 0 c.types k 3 0 h,
        cell_here ws 0 c.types k 4 1 h,
        cell_here ws 0 c.types k 5 1 h,
      )

  storage_here : k < c.storages → storage_row ls (row_at ws (row_of storages_from k)) ≡ storage_line ws ls c k
  unfolding storage_line
  storage_here h = rw (numbers_here ws ls storages_from c.storages k h)

  place_here : k < c.places → place_row ls (row_at ws (row_of places_from k)) ≡ place_line ws ls c k
  unfolding row_at numbers numbers_at place_line
  place_here h =
      rw (
        cell_here ws places_from c.places k 0 0 h,
        cell_here ws places_from c.places k 1 0 h,
        cell_here ws places_from c.places k 2 0 h,
        cell_here ws places_from c.places k 3 0 h,
        cell_here ws places_from c.places k 4 0 h,
      )

  node_here : k < c.nodes → node_row ls (row_at ws (row_of nodes_from k)) ≡ node_line ws ls c k
  unfolding row_at numbers numbers_at node_line
  node_here h =
      rw (
        cell_here ws nodes_from c.nodes k 0 4 h,
        cell_here ws nodes_from c.nodes k 1 0 h,
        cell_here ws nodes_from c.nodes k 2 0 h,
        cell_here ws nodes_from c.nodes k 3 0 h,
        cell_here ws nodes_from c.nodes k 4 0 h,
      )

-- ---------------------------------------------------------------- tables

section_is : {A : Type 0} (f : Row → A) (g : ℕ → A) (ws : List ℕ) (base n : ℕ) → ((k : ℕ) → k < n → f (row_at ws (row_of base k)) ≡ g k)
    → section f ws base n ≡ tab g 0 n
unfolding section
section_is f g ws base n h = tab_same (λ k. f (row_at ws (row_of base k))) g 0 n (λ k l u. h k (omega arith))

placed_are : (ws ls : List ℕ) (base n : ℕ) → section (placed_row ls) ws base n ≡ placed_list ws ls base n
unfolding placed_list
placed_are ws ls base n =
    section_is (placed_row ls) (λ k. placed_line (placed_of (numbers_at ws ls base n k))) ws base n (λ k h. rw (numbers_here ws ls base n k h))

pub tables_are : (ws ls : List ℕ) (c : Counts) → tables_by_counts ws ls c ≡ tables_of ws ls c
unfolding tables_by_counts tables_of
tables_are ws ls c =
    rw (
      section_is (type_row ls) (type_line ws ls c) ws 0 c.types (type_here ws ls c),
      section_is (storage_row ls) (storage_line ws ls c) ws storages_from c.storages (storage_here ws ls c),
      placed_are ws ls _ c.variables,
      placed_are ws ls _ c.statics,
      section_is (place_row ls) (place_line ws ls c) ws places_from c.places (place_here ws ls c),
      section_is (node_row ls) (node_line ws ls c) ws nodes_from c.nodes (node_here ws ls c),
    )
