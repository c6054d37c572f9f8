-- A reading with one line more, from the line's numbers and what is known of it.
use Rattle.std.specs.Prelude.{ℕ, suc, ◌+◌, ◌*◌, ◌≡◌, List, ◌∷◌, ◌++◌, []}
use Rattle.std.specs.Prelude.{Option, None, Some}
use Rattle.tables.specs.Tables.{row_of, run, storages_from, variables_from, statics_from, places_from, type_word_by, place_word_by, node_word_by}
use Rattle.spec.specs.Ticket.{Tables, arg}
use Rattle.spec.specs.Read.{Reading, rank, storage_line, placed_line, behind_type, new_used, type_number}
use Rattle.line_forms.specs.Classes.{head_of}
use Rattle.line_checks.specs.Rows.{reading_of, nodes_from, Held, RowPut}
use Rattle.line_checks.specs.Keys.{Keyed, key_of, noted}
use Rattle.line_forms.specs.declared.Form.{Form}
use Rattle.line_forms.specs.declared.LineKind.{LineKind}
use Rattle.line_forms.specs.declared.LineKind.TheVariants.{Functions, Types, Storages, Variables, Statics, Places, Nodes}
use Rattle.line_checks.specs.declared.rows.Row.{Row}
use Rattle.tables.specs.declared.Counts.{Counts}
use Rattle.ticket.specs.declared.Extent.{Extent}

abbrev pub grown_tables : Tables → LineKind → ℕ → List ℕ → ℕ → Extent → Tables
grown_tables T Functions w xs n e = record T { function = arg xs 0; next = arg xs 1 }
grown_tables T Types w xs n e =
    record T { types = T.types ++ (record { word = type_word_by w; args = xs; size = e.own.size; weight = e.own.weight; depth = e.depth } ∷ []) }
grown_tables T Storages w xs n e = record T { storages = T.storages ++ (storage_line xs ∷ []) }
grown_tables T Variables w xs n e = record T { variables = T.variables ++ (placed_line xs ∷ []) }
grown_tables T Statics w xs n e = record T { statics = T.statics ++ (placed_line xs ∷ []) }
grown_tables T Places w xs n e = record T { places = T.places ++ (record { word = place_word_by w; args = xs; line = n; depth = e.depth } ∷ []) }
grown_tables T Nodes w xs n e =
    record T { nodes = T.nodes ++ (record { type = arg xs 0; word = node_word_by w; args = behind_type xs; line = n; depth = e.depth } ∷ []) }

abbrev pub grown : Reading → LineKind → ℕ → List ℕ → Extent → Reading
grown R k w xs e =
    record {
      tables = grown_tables R.tables k w xs (R.lines + 1) e;
      stage = suc (rank (head_of k w));
      lines = R.lines + 1;
      used = new_used (head_of k w) R.used;
      sizes = e.sums.size;
      weights = e.sums.weight;
    }

-- ---------------------------------------------------------------- a line's row

abbrev pub row_of_line : LineKind → Counts → Option ℕ
row_of_line Functions c = None
row_of_line Types c = Some (c.types * 6)
row_of_line Storages c = Some (row_of storages_from c.storages)
row_of_line Variables c = Some (row_of variables_from c.variables)
row_of_line Statics c = Some (row_of statics_from c.statics)
row_of_line Places c = Some (row_of places_from c.places)
row_of_line Nodes c = Some (row_of nodes_from c.nodes)

-- a type's size, weight and depth; of a place and a node its line and depth
abbrev pub row_with : Form → Counts → ℕ → ℕ → ℕ → Row
row_with f c x y z = record { word = f.word; start = c.used; count = f.count; third = x; fourth = y; fifth = z }

abbrev pub row_by : LineKind → Form → Counts → Extent → Row
row_by Functions f c e = row_with f c 0 0 0
row_by Types f c e = row_with f c e.own.size e.own.weight e.depth
row_by Storages f c e = row_with f c 0 0 0
row_by Variables f c e = row_with f c 0 0 0
row_by Statics f c e = row_with f c 0 0 0
row_by Places f c e = row_with f c (c.lines + 1) e.depth 0
row_by Nodes f c e = row_with f c (c.lines + 1) e.depth 0

abbrev pub line_row : Form → Counts → Extent → Row
line_row f c e = row_by f.kind f c e

-- the words t are u with a line's row, a type's key noted before
abbrev pub PutBy : LineKind → List ℕ → List ℕ → Form → List ℕ → Counts → Extent → Type 0
PutBy Functions u t f xs c e = t ≡ u
PutBy Types u t f xs c e = RowPut (noted u (key_of (type_number (type_word_by f.word)) xs)) t (c.types * 6) (row_by Types f c e)
PutBy Storages u t f xs c e = RowPut u t (row_of storages_from c.storages) (row_by Storages f c e)
PutBy Variables u t f xs c e = RowPut u t (row_of variables_from c.variables) (row_by Variables f c e)
PutBy Statics u t f xs c e = RowPut u t (row_of statics_from c.statics) (row_by Statics f c e)
PutBy Places u t f xs c e = RowPut u t (row_of places_from c.places) (row_by Places f c e)
PutBy Nodes u t f xs c e = RowPut u t (row_of nodes_from c.nodes) (row_by Nodes f c e)

abbrev pub LinePut : List ℕ → List ℕ → Form → List ℕ → Counts → Extent → Type 0
LinePut u t f xs c e = PutBy f.kind u t f xs c e

-- the counts with one line more of a kind
abbrev pub counted : LineKind → Counts → List ℕ → Counts
counted Functions c xs = record c { function = arg xs 0; next = arg xs 1 }
counted Types c xs = record c { types = c.types + 1 }
counted Storages c xs = record c { storages = c.storages + 1 }
counted Variables c xs = record c { variables = c.variables + 1 }
counted Statics c xs = record c { statics = c.statics + 1 }
counted Places c xs = record c { places = c.places + 1 }
counted Nodes c xs = record c { nodes = c.nodes + 1 }

-- the words t and the counts r are those of u and c with one line more
pub record Added (u t ls : List ℕ) (f : Form) (c : Counts) (e : Extent) (r : Counts) : Type 0 where
  pub reading : reading_of t ls r ≡ grown (reading_of u ls c) f.kind f.word (run ls c.used f.count) e
  pub held : Held t r
  -- keys of types that were there are there, and so is a new type's
  pub keyed : Keyed u ls c.types → Keyed t ls r.types
  pub used : r.used ≡ c.used + f.count
  pub lines : r.lines ≡ c.lines + 1
