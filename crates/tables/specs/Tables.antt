-- The tables that the words of three slices stand for.
--
-- `rows` has six words a row. The kinds take turns: every sixth row is a type's, from row 0 on, every sixth a storage's, from row 1 on,
-- and so variables from 2, statics from 3, places from 4 and nodes from 5. Thus few lines take few words.
--
--   every row   0 the word's number    1 where its numbers start in `lists`    2 how many they are
--   types       3 size                 4 weight                                5 depth
--   p and n     3 line                 4 depth                                 5 0, or 1 once referred to
--
-- `lists` has the numbers of all lines, one line's behind another's; a node's first number is its TYPE.
use Rattle.std.specs.Prelude.{ℕ, zero, suc, ◌+◌, ◌-◌, ◌*◌, ◌≤◌, Bool, true, false, List, ◌∷◌, [], length, get_or, ltb}
use Rattle.std.specs.Prelude.{Option, None, Some}
use Rattle.spec.specs.Forms.{rule, type_rules, place_rules, node_rules}
use Rattle.spec.specs.Read.{behind_type}
use Rattle.spec.specs.Hir.{At, Expr, Place}
use Rattle.spec.specs.Ticket.{TypeWord, t_unit, t_bool, t_bits, t_float, t_pointer, t_array, t_struct, t_tuple, t_opaque, PlaceWord, p_variable, p_static, p_field, p_element, p_offset, NodeWord, n_bool, n_int, n_f32, n_f64, n_null, n_static_address, n_function, n_read, n_unary, n_binary, n_funary, n_fbinary, n_compare, n_convert, n_select, n_address, n_offset, n_aggregate, n_extract, n_insert, TypeLine, StorageLine, PlacedLine, PlaceLine, NodeLine, Tables, arg, expr_of, place_of, expr_at, place_at}
use Rattle.tables.specs.declared.Counts.{Counts}
use Rattle.tables.specs.declared.TypeKind.{TypeKind}
use Rattle.tables.specs.declared.Placed.{Placed}
use Rattle.tables.specs.declared.PlaceKind.{PlaceKind}
use Rattle.tables.specs.declared.NodeKind.{NodeKind}

abbrev pub pick : {A : Type 0} → Bool → A → A → A
pick true x y = x
pick false x y = y

-- f i, f (i + 1), .. n of them
unfoldable pub tab : {A : Type 0} → (ℕ → A) → ℕ → ℕ → List A
tab f i zero = []
tab f i (suc n) = f i ∷ tab f (suc i) n

-- row k of the kind whose rows are every sixth from `base` on
abbrev pub row_of : ℕ → ℕ → ℕ
row_of base k = base + k * 6

-- word j of row k of the `count` rows of a kind; d past the last
unfoldable pub cell : List ℕ → ℕ → ℕ → ℕ → ℕ → ℕ → ℕ
cell ws base count k j d = pick (ltb k count) (get_or ws (row_of base k * 6 + j) 0) d

-- n numbers of the lists
unfoldable pub run : List ℕ → ℕ → ℕ → List ℕ
run lists start n = tab (λ i. get_or lists i 0) start n

-- the numbers of row k of the `count` rows of a kind; none past the last
unfoldable pub numbers_at : List ℕ → List ℕ → ℕ → ℕ → ℕ → List ℕ
numbers_at ws lists base count k = run lists (cell ws base count k 1 0) (cell ws base count k 2 0)

-- ---------------------------------------------------------------- the row from which on each kind has every sixth

abbrev pub storages_from : ℕ
storages_from = 1

abbrev pub variables_from : ℕ
variables_from = 2

abbrev pub statics_from : ℕ
statics_from = 3

abbrev pub places_from : ℕ
places_from = 4

abbrev pub nodes_from : ℕ
nodes_from = 5

-- ---------------------------------------------------------------- types

abbrev pub type_cell : List ℕ → Counts → ℕ → ℕ → ℕ → ℕ
type_cell rows c k j d = cell rows 0 c.types k j d

abbrev pub type_numbers : List ℕ → List ℕ → Counts → ℕ → List ℕ
type_numbers rows lists c k = numbers_at rows lists 0 c.types k

-- the word of a number; the first word's where there is no such number
unfoldable pub type_word_by : ℕ → TypeWord
type_word_by w = (get_or type_rules w (rule "unit" t_unit [])).make

-- n numbers from s on, a and b the first two of them
abbrev pub type_kinds : ℕ → ℕ → ℕ → ℕ → List TypeKind
type_kinds s n a b =
    TypeKind.Unit ∷ TypeKind.Bool ∷ TypeKind.Bits a ∷ TypeKind.Float a ∷ TypeKind.Pointer ∷ TypeKind.Array a b ∷ TypeKind.Struct s n ∷
    TypeKind.Tuple s n ∷ TypeKind.Opaque a ∷ []

unfoldable pub type_kind : ℕ → ℕ → ℕ → ℕ → ℕ → TypeKind
type_kind w s n a b = get_or (type_kinds s n a b) w TypeKind.Unit

unfoldable pub type_kind_in : List ℕ → ℕ → ℕ → ℕ → TypeKind
type_kind_in lists w s n = type_kind w s n (arg (run lists s n) 0) (arg (run lists s n) 1)

unfoldable pub type_kind_at : List ℕ → List ℕ → Counts → ℕ → TypeKind
type_kind_at rows lists c k = type_kind_in lists (type_cell rows c k 0 0) (type_cell rows c k 1 0) (type_cell rows c k 2 0)

abbrev pub size_at : List ℕ → Counts → ℕ → ℕ
size_at rows c k = type_cell rows c k 3 0

abbrev pub weight_at : List ℕ → Counts → ℕ → ℕ
weight_at rows c k = type_cell rows c k 4 1

abbrev pub type_word : TypeKind → TypeWord
type_word TypeKind.Unit = t_unit
type_word TypeKind.Bool = t_bool
type_word (TypeKind.Bits a) = t_bits
type_word (TypeKind.Float a) = t_float
type_word TypeKind.Pointer = t_pointer
type_word (TypeKind.Array a b) = t_array
type_word (TypeKind.Struct a b) = t_struct
type_word (TypeKind.Tuple a b) = t_tuple
type_word (TypeKind.Opaque a) = t_opaque

abbrev pub type_args : List ℕ → TypeKind → List ℕ
type_args lists TypeKind.Unit = []
type_args lists TypeKind.Bool = []
type_args lists (TypeKind.Bits a) = a ∷ []
type_args lists (TypeKind.Float a) = a ∷ []
type_args lists TypeKind.Pointer = []
type_args lists (TypeKind.Array a b) = a ∷ b ∷ []
type_args lists (TypeKind.Struct a b) = run lists a b
type_args lists (TypeKind.Tuple a b) = run lists a b
type_args lists (TypeKind.Opaque a) = a ∷ []

unfoldable pub type_line : List ℕ → List ℕ → Counts → ℕ → TypeLine
type_line rows lists c k =
    record {
      word = type_word_by (type_cell rows c k 0 0);
      args = type_numbers rows lists c k;
      size = size_at rows c k;
      weight = weight_at rows c k;
      depth = type_cell rows c k 5 1;
    }

-- ---------------------------------------------------------------- storages, variables and statics

abbrev pub storage_number : List ℕ → List ℕ → Counts → ℕ → ℕ → ℕ
storage_number rows lists c k i = arg (numbers_at rows lists storages_from c.storages k) i

abbrev pub owner_at : List ℕ → List ℕ → Counts → ℕ → ℕ
owner_at rows lists c k = storage_number rows lists c k 2

unfoldable pub storage_line : List ℕ → List ℕ → Counts → ℕ → StorageLine
storage_line rows lists c k =
    record {
      kind = storage_number rows lists c k 0;
      len = storage_number rows lists c k 1;
      owner = owner_at rows lists c k;
      regions = storage_number rows lists c k 3;
    }

abbrev pub placed_line : Placed → PlacedLine
placed_line p = record { storage = p.storage; offset = p.offset; type = p.ty; bit = p.bit }

abbrev pub placed_of : List ℕ → Placed
placed_of xs = record { storage = arg xs 0; offset = arg xs 1; ty = arg xs 2; bit = arg xs 3 }

unfoldable pub placed_at : List ℕ → List ℕ → ℕ → ℕ → ℕ → Option Placed
placed_at rows lists base count k = pick (ltb k count) (Some (placed_of (numbers_at rows lists base count k))) None

unfoldable pub placed_list : List ℕ → List ℕ → ℕ → ℕ → List PlacedLine
placed_list rows lists base count = tab (λ k. placed_line (placed_of (numbers_at rows lists base count k))) 0 count

abbrev pub variables_of : List ℕ → List ℕ → Counts → List PlacedLine
variables_of rows lists c = placed_list rows lists variables_from c.variables

abbrev pub statics_of : List ℕ → List ℕ → Counts → List PlacedLine
statics_of rows lists c = placed_list rows lists statics_from c.statics

-- ---------------------------------------------------------------- places

abbrev pub place_cell : List ℕ → Counts → ℕ → ℕ → ℕ
place_cell rows c k j = cell rows places_from c.places k j 0

abbrev pub place_numbers : List ℕ → List ℕ → Counts → ℕ → List ℕ
place_numbers rows lists c k = numbers_at rows lists places_from c.places k

unfoldable pub place_word_by : ℕ → PlaceWord
place_word_by w = (get_or place_rules w (rule "variable" p_variable [])).make

abbrev pub place_kinds : ℕ → ℕ → List PlaceKind
place_kinds a b = PlaceKind.Variable a ∷ PlaceKind.Static a ∷ PlaceKind.Field a b ∷ PlaceKind.Element a b ∷ PlaceKind.Offset a b ∷ []

unfoldable pub place_kind : ℕ → ℕ → ℕ → PlaceKind
place_kind w a b = get_or (place_kinds a b) w (PlaceKind.Variable a)

unfoldable pub place_kind_at : List ℕ → List ℕ → Counts → ℕ → PlaceKind
place_kind_at rows lists c k =
    place_kind (place_cell rows c k 0) (arg (place_numbers rows lists c k) 0) (arg (place_numbers rows lists c k) 1)

abbrev pub place_word : PlaceKind → PlaceWord
place_word (PlaceKind.Variable a) = p_variable
place_word (PlaceKind.Static a) = p_static
place_word (PlaceKind.Field a b) = p_field
place_word (PlaceKind.Element a b) = p_element
place_word (PlaceKind.Offset a b) = p_offset

abbrev pub place_args : PlaceKind → List ℕ
place_args (PlaceKind.Variable a) = a ∷ []
place_args (PlaceKind.Static a) = a ∷ []
place_args (PlaceKind.Field a b) = a ∷ b ∷ []
place_args (PlaceKind.Element a b) = a ∷ b ∷ []
place_args (PlaceKind.Offset a b) = a ∷ b ∷ []

unfoldable pub place_line : List ℕ → List ℕ → Counts → ℕ → PlaceLine
place_line rows lists c k =
    record {
      word = place_word_by (place_cell rows c k 0);
      args = place_numbers rows lists c k;
      line = place_cell rows c k 3;
      depth = place_cell rows c k 4;
    }

-- ---------------------------------------------------------------- nodes

abbrev pub node_cell : List ℕ → Counts → ℕ → ℕ → ℕ → ℕ
node_cell rows c k j d = cell rows nodes_from c.nodes k j d

abbrev pub node_numbers : List ℕ → List ℕ → Counts → ℕ → List ℕ
node_numbers rows lists c k = numbers_at rows lists nodes_from c.nodes k

unfoldable pub node_word_by : ℕ → NodeWord
node_word_by w = (get_or node_rules w (rule "null" n_null [])).make

-- n numbers from s on, a, b and c the first three of them
abbrev pub node_kinds : ℕ → ℕ → ℕ → ℕ → ℕ → List NodeKind
node_kinds s n a b c =
    NodeKind.Bool a ∷ NodeKind.Int a ∷ NodeKind.F32 a ∷ NodeKind.F64 a ∷ NodeKind.Null ∷ NodeKind.StaticAddress a b ∷ NodeKind.Function a ∷
    NodeKind.Read a ∷ NodeKind.Unary a b ∷ NodeKind.Binary a b c ∷ NodeKind.Funary a ∷ NodeKind.Fbinary a b ∷ NodeKind.Compare a b c ∷
    NodeKind.Convert a b ∷ NodeKind.Select a b c ∷ NodeKind.Address a ∷ NodeKind.Offset a b ∷ NodeKind.Aggregate s n ∷ NodeKind.Extract a b ∷
    NodeKind.Insert a b c ∷ []

unfoldable pub node_kind : ℕ → ℕ → ℕ → ℕ → ℕ → ℕ → NodeKind
node_kind w s n a b c = get_or (node_kinds s n a b c) w NodeKind.Null

unfoldable pub node_kind_in : List ℕ → ℕ → ℕ → ℕ → NodeKind
node_kind_in lists w s n = node_kind w s n (arg (run lists s n) 0) (arg (run lists s n) 1) (arg (run lists s n) 2)

-- one number on; past the end of the lists each number is 0, as is the next
unfoldable pub behind : List ℕ → ℕ → ℕ
behind lists s = pick (ltb s (length lists)) (s + 1) s

-- the word of a number that no line has is that of `null`
unfoldable pub node_kind_at : List ℕ → List ℕ → Counts → ℕ → NodeKind
node_kind_at rows lists c k = node_kind_in lists (node_cell rows c k 0 4) (behind lists (node_cell rows c k 1 0)) (node_cell rows c k 2 0 - 1)

abbrev pub node_type_at : List ℕ → List ℕ → Counts → ℕ → ℕ
node_type_at rows lists c k = arg (node_numbers rows lists c k) 0

abbrev pub node_line_at : List ℕ → Counts → ℕ → ℕ
node_line_at rows c k = node_cell rows c k 3 0

abbrev pub node_word : NodeKind → NodeWord
node_word (NodeKind.Bool a) = n_bool
node_word (NodeKind.Int a) = n_int
node_word (NodeKind.F32 a) = n_f32
node_word (NodeKind.F64 a) = n_f64
node_word NodeKind.Null = n_null
node_word (NodeKind.StaticAddress a b) = n_static_address
node_word (NodeKind.Function a) = n_function
node_word (NodeKind.Read a) = n_read
node_word (NodeKind.Unary a b) = n_unary
node_word (NodeKind.Binary a b c) = n_binary
node_word (NodeKind.Funary a) = n_funary
node_word (NodeKind.Fbinary a b) = n_fbinary
node_word (NodeKind.Compare a b c) = n_compare
node_word (NodeKind.Convert a b) = n_convert
node_word (NodeKind.Select a b c) = n_select
node_word (NodeKind.Address a) = n_address
node_word (NodeKind.Offset a b) = n_offset
node_word (NodeKind.Aggregate a b) = n_aggregate
node_word (NodeKind.Extract a b) = n_extract
node_word (NodeKind.Insert a b c) = n_insert

abbrev pub node_args : List ℕ → NodeKind → List ℕ
node_args lists (NodeKind.Bool a) = a ∷ []
node_args lists (NodeKind.Int a) = a ∷ []
node_args lists (NodeKind.F32 a) = a ∷ []
node_args lists (NodeKind.F64 a) = a ∷ []
node_args lists NodeKind.Null = []
node_args lists (NodeKind.StaticAddress a b) = a ∷ b ∷ []
node_args lists (NodeKind.Function a) = a ∷ []
node_args lists (NodeKind.Read a) = a ∷ []
node_args lists (NodeKind.Unary a b) = a ∷ b ∷ []
node_args lists (NodeKind.Binary a b c) = a ∷ b ∷ c ∷ []
node_args lists (NodeKind.Funary a) = a ∷ []
node_args lists (NodeKind.Fbinary a b) = a ∷ b ∷ []
node_args lists (NodeKind.Compare a b c) = a ∷ b ∷ c ∷ []
node_args lists (NodeKind.Convert a b) = a ∷ b ∷ []
node_args lists (NodeKind.Select a b c) = a ∷ b ∷ c ∷ []
node_args lists (NodeKind.Address a) = a ∷ []
node_args lists (NodeKind.Offset a b) = a ∷ b ∷ []
node_args lists (NodeKind.Aggregate a b) = run lists a b
node_args lists (NodeKind.Extract a b) = a ∷ b ∷ []
node_args lists (NodeKind.Insert a b c) = a ∷ b ∷ c ∷ []

unfoldable pub node_line : List ℕ → List ℕ → Counts → ℕ → NodeLine
node_line rows lists c k =
    record {
      type = node_type_at rows lists c k;
      word = node_word_by (node_cell rows c k 0 4);
      args = behind_type (node_numbers rows lists c k);
      line = node_line_at rows c k;
      depth = node_cell rows c k 4 0;
    }

-- ---------------------------------------------------------------- the tables

unfoldable pub tables_of : List ℕ → List ℕ → Counts → Tables
tables_of rows lists c =
    record {
      function = c.function;
      next = c.next;
      types = tab (type_line rows lists c) 0 c.types;
      storages = tab (storage_line rows lists c) 0 c.storages;
      variables = variables_of rows lists c;
      statics = statics_of rows lists c;
      places = tab (place_line rows lists c) 0 c.places;
      nodes = tab (node_line rows lists c) 0 c.nodes;
    }

-- ---------------------------------------------------------------- trees, by the kind of the line found

abbrev pub tree_of : Tables → List ℕ → ℕ → At → NodeKind → Expr
tree_of T lists d h n = expr_of (λ k. place_at d T k) (λ k. expr_at d T k) h (node_word n) (node_args lists n)

abbrev pub place_by_kind : Tables → ℕ → PlaceKind → Place
place_by_kind T d p = place_of (λ k. place_at d T k) (λ k. expr_at d T k) (place_word p) (place_args p)

abbrev pub at_of : List ℕ → List ℕ → Counts → ℕ → At
at_of rows lists c k = record { line = node_line_at rows c k; node = k; ty = node_type_at rows lists c k }

-- ---------------------------------------------------------------- small enough for a word's place to be worked out

pub record Sized (c : Counts) : Type 0 where
  pub types : c.types ≤ 4294967296
  pub storages : c.storages ≤ 4294967296
  pub variables : c.variables ≤ 4294967296
  pub statics : c.statics ≤ 4294967296
  pub places : c.places ≤ 4294967296
  pub nodes : c.nodes ≤ 4294967296
