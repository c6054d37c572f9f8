-- The rows that the code's words hold, and the tables read off them row by row. crates/tables/specs/Tables.antt has the layout; here the
-- nodes' rows stand in one slice with all others, behind the places', and the words behind all rows are those of specs/Keys.antt.
use Rattle.std.specs.Prelude.{ℕ, ◌+◌, ◌*◌, ◌≤◌, ◌<◌, ◌≡◌, Bool, true, false, not, List, eqb, length, get_or, set}
use Rattle.tables.specs.Tables.{tab, row_of, run, storages_from, variables_from, statics_from, places_from, type_word_by, place_word_by, node_word_by}
pub use Rattle.tables.specs.Tables.{nodes_from}
use Rattle.spec.specs.Limits.{type_lines, storage_lines, variable_lines, static_lines, place_lines, node_lines}
use Rattle.spec.specs.Ticket.{TypeLine, StorageLine, PlacedLine, PlaceLine, NodeLine, Tables, arg}
use Rattle.spec.specs.Read.{Used, Reading, storage_line, placed_line, behind_type}
use Rattle.tables.specs.declared.Counts.{Counts}
use Rattle.line_checks.specs.declared.rows.Row.{Row}

-- word j of row r
unfoldable pub word_at : List ℕ → ℕ → ℕ → ℕ
word_at ws r j = get_or ws (r * 6 + j) 0

unfoldable pub row_at : List ℕ → ℕ → Row
row_at ws r = record { word = word_at ws r 0; start = word_at ws r 1; count = word_at ws r 2; third = word_at ws r 3; fourth = word_at ws r 4; fifth = word_at ws r 5 }

-- n rows of a kind, as f reads them
unfoldable pub section : {A : Type 0} → (Row → A) → List ℕ → ℕ → ℕ → List A
section f ws base n = tab (λ k. f (row_at ws (row_of base k))) 0 n

unfoldable pub numbers : List ℕ → Row → List ℕ
numbers ls r = run ls r.start r.count

abbrev pub type_row : List ℕ → Row → TypeLine
type_row ls r = record { word = type_word_by r.word; args = numbers ls r; size = r.third; weight = r.fourth; depth = r.fifth }

abbrev pub storage_row : List ℕ → Row → StorageLine
storage_row ls r = storage_line (numbers ls r)

abbrev pub placed_row : List ℕ → Row → PlacedLine
placed_row ls r = placed_line (numbers ls r)

abbrev pub place_row : List ℕ → Row → PlaceLine
place_row ls r = record { word = place_word_by r.word; args = numbers ls r; line = r.third; depth = r.fourth }

abbrev pub node_row : List ℕ → Row → NodeLine
node_row ls r = record { type = arg (numbers ls r) 0; word = node_word_by r.word; args = behind_type (numbers ls r); line = r.third; depth = r.fourth }

abbrev pub marked : Row → Bool
marked r = not (eqb r.fifth 0)

unfoldable pub tables_by_counts : List ℕ → List ℕ → Counts → Tables
tables_by_counts ws ls c =
    record {
      function = c.function;
      next = c.next;
      types = section (type_row ls) ws 0 c.types;
      storages = section (storage_row ls) ws storages_from c.storages;
      variables = section (placed_row ls) ws variables_from c.variables;
      statics = section (placed_row ls) ws statics_from c.statics;
      places = section (place_row ls) ws places_from c.places;
      nodes = section (node_row ls) ws nodes_from c.nodes;
    }

unfoldable pub used_in : List ℕ → Counts → Used
used_in ws c = record { places = section marked ws places_from c.places; nodes = section marked ws nodes_from c.nodes }

unfoldable pub reading_of : List ℕ → List ℕ → Counts → Reading
reading_of ws ls c =
    record {
      tables = tables_by_counts ws ls c;
      stage = c.stage;
      lines = c.lines;
      used = used_in ws c;
      sizes = c.sizes;
      weights = c.weights;
    }

-- no kind has more lines than it may
pub record Few (c : Counts) : Type 0 where
  pub types : c.types ≤ type_lines
  pub storages : c.storages ≤ storage_lines
  pub variables : c.variables ≤ variable_lines
  pub statics : c.statics ≤ static_lines
  pub places : c.places ≤ place_lines
  pub nodes : c.nodes ≤ node_lines

-- no kind may have more lines than nodes may be
abbrev pub most_lines : ℕ
most_lines = node_lines

-- the words that hold a row more than the most lines of each kind: 36 for one row of each and 4 for keys
abbrev pub rows_length : ℕ
rows_length = (most_lines + 1) * 40

-- n words have a row more for each kind, and the words for keys behind them
pub record Roomy (n : ℕ) (c : Counts) : Type 0 where
  pub types : c.types * 40 + 40 ≤ n
  pub storages : c.storages * 40 + 40 ≤ n
  pub variables : c.variables * 40 + 40 ≤ n
  pub statics : c.statics * 40 + 40 ≤ n
  pub places : c.places * 40 + 40 ≤ n
  pub nodes : c.nodes * 40 + 40 ≤ n

-- whether they have it; where not, they are too few for the most lines
pub record RoomIs (n : ℕ) (c : Counts) (r : Bool) : Type 0 where
  pub enough : r ≡ true → Roomy n c
  pub short : r ≡ false → Few c → n < rows_length

-- the numbers of n rows end within the first `used` of the lists
pub record Inside (ws : List ℕ) (used base n : ℕ) : Type 0 where
  pub ends : (k : ℕ) → k < n → word_at ws (row_of base k) 1 + word_at ws (row_of base k) 2 ≤ used

-- what reading keeps of the words
pub record Held (ws : List ℕ) (c : Counts) : Type 0 where
  pub few : Few c
  pub types : Inside ws c.used 0 c.types
  pub storages : Inside ws c.used storages_from c.storages
  pub variables : Inside ws c.used variables_from c.variables
  pub statics : Inside ws c.used statics_from c.statics
  pub places : Inside ws c.used places_from c.places
  pub nodes : Inside ws c.used nodes_from c.nodes

-- u with row r anew is t
pub record RowPut (u t : List ℕ) (r : ℕ) (x : Row) : Type 0 where
  pub here : row_at t r ≡ x
  pub others : (q : ℕ) → (q ≡ r → ⊥) → row_at t q ≡ row_at u q
  pub long : length t ≡ length u

-- u with row k of n marked, where it was not, is t
pub record MarkAt (u t : List ℕ) (base n k : ℕ) (r : Bool) : Type 0 where
  pub answer : not r ≡ get_or (section marked u base n) k false
  pub marks : section marked t base n ≡ set (section marked u base n) k true
  pub cells : (q j : ℕ) → (j ≡ 5 → ⊥) → j < 6 → word_at t q j ≡ word_at u q j
  pub others : (q : ℕ) → (k < n → q ≡ row_of base k → ⊥) → row_at t q ≡ row_at u q
