-- Reading a ticket (document 01, 'Ticket' and the reading rows of the refusal table): each refusal a test, in the table's order,
-- and the tables that accepted lines build.
use Rattle.std.specs.Prelude.{ℕ, zero, suc, ◌+◌, max, min, Bool, true, false, ◌&&◌, ◌||◌, not, List, [], ◌∷◌, ◌++◌, eqb, leb, ltb, length, get_or, set}
use Rattle.std.specs.Prelude.{Option, None, Some}
use Rattle.spec.specs.Text.{same, split, line_feed}
use Rattle.spec.specs.Limits.{text_limit, type_lines, storage_lines, variable_lines, static_lines, place_lines, node_lines, type_size_limit, type_weight_limit, depth_limit, type_depth_limit, size_sum_limit, weight_sum_limit}
use Rattle.spec.specs.Ticket.{TypeWord, t_unit, t_bool, t_bits, t_float, t_pointer, t_array, t_struct, t_tuple, t_opaque, PlaceWord, NodeWord, TypeLine, StorageLine, PlacedLine, PlaceLine, NodeLine, Tables, type_at, place_line_at, node_at, arg, type_size_by, weight_by}
use Rattle.spec.specs.Forms.{Field, between, float_width, type_part, type, storage, place, node, Arg, Head, f_line, s_line, v_line, g_line, t_line, p_line, n_line, Line, line_of, values}

-- ---------------------------------------------------------------- the state of reading

-- which places and nodes have been referred to
pub record Used : Type 0 where
  pub places : List Bool
  pub nodes : List Bool

-- the tables so far, the rank of the last line's kind, the lines read, and the sums over nodes
pub record Reading : Type 0 where
  pub tables : Tables
  pub stage : ℕ
  pub lines : ℕ
  pub used : Used
  pub sizes : ℕ
  pub weights : ℕ

abbrev pub all : (Arg → Bool) → List Arg → Bool
all p [] = true
all p (a ∷ xa) = p a && all p xa

-- ---------------------------------------------------------------- 2: the order of kinds

-- places and nodes are mixed
abbrev pub rank : Head → ℕ
rank f_line = 0
rank (t_line w) = 1
rank s_line = 2
rank v_line = 3
rank g_line = 4
rank (p_line w) = 5
rank (n_line w) = 5

-- the stage is 0 at the start, where only `f` may stand, and then one more than the last line's rank
abbrev pub in_order : ℕ → ℕ → Bool
in_order zero r = eqb r 0
in_order (suc last) r = leb 1 r && leb last r

-- ---------------------------------------------------------------- 8: lines of a kind

abbrev pub few_enough : Tables → Head → Bool
few_enough T f_line = true
few_enough T (t_line w) = ltb (length T.types) type_lines
few_enough T s_line = ltb (length T.storages) storage_lines
few_enough T v_line = ltb (length T.variables) variable_lines
few_enough T g_line = ltb (length T.statics) static_lines
few_enough T (p_line w) = ltb (length T.places) place_lines
few_enough T (n_line w) = ltb (length T.nodes) node_lines

-- ---------------------------------------------------------------- 3: ranges

abbrev pub in_range_of : Field → ℕ → Bool
in_range_of (between least greatest) x = leb least x && leb x greatest
in_range_of float_width x = eqb x 32 || eqb x 64
in_range_of type_part x = true
in_range_of type x = true
in_range_of storage x = true
in_range_of place x = true
in_range_of node x = true

abbrev pub in_range : Arg → Bool
in_range a = in_range_of a.class a.value

-- a storage's LENGTH: from 1 for kind 2, else 0; BIT 1 only with TYPE 0
abbrev pub length_fits : ℕ → ℕ → Bool
length_fits kind len = elim (eqb kind 2) [ true ↦ leb 1 len | false ↦ eqb len 0 ]

abbrev pub bit_fits : ℕ → ℕ → Bool
bit_fits ty bit = eqb bit 0 || eqb ty 0

abbrev pub fields_fit : Head → List ℕ → Bool
fields_fit f_line xs = true
fields_fit (t_line w) xs = true
fields_fit s_line xs = length_fits (arg xs 0) (arg xs 1)
fields_fit v_line xs = bit_fits (arg xs 2) (arg xs 3)
fields_fit g_line xs = bit_fits (arg xs 2) (arg xs 3)
fields_fit (p_line w) xs = true
fields_fit (n_line w) xs = true

-- ---------------------------------------------------------------- 4: earlier lines

abbrev pub earlier_of : Tables → Field → ℕ → Bool
earlier_of T (between least greatest) x = true
earlier_of T float_width x = true
earlier_of T type_part x = ltb x (length T.types)
earlier_of T type x = ltb x (length T.types)
earlier_of T storage x = ltb x (length T.storages)
earlier_of T place x = ltb x (length T.places)
earlier_of T node x = ltb x (length T.nodes)

abbrev pub earlier : Tables → Arg → Bool
earlier T a = earlier_of T a.class a.value

-- ---------------------------------------------------------------- 5: types alike, the first two types, fewer than two types

abbrev pub type_number : TypeWord → ℕ
type_number t_unit = 0
type_number t_bool = 1
type_number t_bits = 2
type_number t_float = 3
type_number t_pointer = 4
type_number t_array = 5
type_number t_struct = 6
type_number t_tuple = 7
type_number t_opaque = 8

unfoldable pub alike : TypeWord → List ℕ → List TypeLine → Bool
alike w xs [] = false
alike w xs (t ∷ ts) = (eqb (type_number w) (type_number t.word) && same xs t.args) || alike w xs ts

-- type 0 is bool, type 1 pointer
abbrev pub right_start : ℕ → TypeWord → Bool
right_start zero w = eqb (type_number w) (type_number t_bool)
right_start (suc zero) w = eqb (type_number w) (type_number t_pointer)
right_start (suc (suc n)) w = true

abbrev pub two_types : Tables → Bool
two_types T = leb 2 (length T.types)

abbrev pub types_right : Tables → Head → List ℕ → Bool
types_right T f_line xs = true
types_right T (t_line w) xs = not (alike w xs T.types) && right_start (length T.types) w
types_right T s_line xs = two_types T
types_right T v_line xs = two_types T
types_right T g_line xs = two_types T
types_right T (p_line w) xs = two_types T
types_right T (n_line w) xs = two_types T

-- ---------------------------------------------------------------- 6: a type's size and weight

abbrev pub size_of : Tables → TypeWord → List ℕ → ℕ
size_of T w xs = type_size_by (λ t. (type_at T t).size) w xs

abbrev pub weight_of : Tables → TypeWord → List ℕ → ℕ
weight_of T w xs = weight_by (λ t. (type_at T t).weight) w xs

abbrev pub small_enough : Tables → Head → List ℕ → Bool
small_enough T f_line xs = true
small_enough T (t_line w) xs = leb (size_of T w xs) type_size_limit && leb (weight_of T w xs) type_weight_limit
small_enough T s_line xs = true
small_enough T v_line xs = true
small_enough T g_line xs = true
small_enough T (p_line w) xs = true
small_enough T (n_line w) xs = true

-- ---------------------------------------------------------------- 7: no line is referred to twice

abbrev pub used_of : Used → Field → ℕ → Bool
used_of U (between least greatest) x = false
used_of U float_width x = false
used_of U type_part x = false
used_of U type x = false
used_of U storage x = false
used_of U place x = get_or U.places x false
used_of U node x = get_or U.nodes x false

abbrev pub mark_of : Used → Field → ℕ → Used
mark_of U (between least greatest) x = U
mark_of U float_width x = U
mark_of U type_part x = U
mark_of U type x = U
mark_of U storage x = U
mark_of U place x = record { places = set U.places x true; nodes = U.nodes }
mark_of U node x = record { places = U.places; nodes = set U.nodes x true }

-- each number is marked before the next is looked at, so a line may not refer twice either
unfoldable pub once : List Arg → Used → Bool
once [] U = true
once (a ∷ xa) U = not (used_of U a.class a.value) && once xa (mark_of U a.class a.value)

unfoldable pub mark : List Arg → Used → Used
mark [] U = U
mark (a ∷ xa) U = mark xa (mark_of U a.class a.value)

-- ---------------------------------------------------------------- 9: depth

-- a node's TYPE does not count: types have a depth among themselves
abbrev pub depth_of_field : Tables → Field → ℕ → ℕ
depth_of_field T (between least greatest) x = 0
depth_of_field T float_width x = 0
depth_of_field T type_part x = (type_at T x).depth
depth_of_field T type x = 0
depth_of_field T storage x = 0
depth_of_field T place x = (place_line_at T x).depth
depth_of_field T node x = (node_at T x).depth

abbrev pub deepest : Tables → List Arg → ℕ
deepest T [] = 0
deepest T (a ∷ xa) = max (depth_of_field T a.class a.value) (deepest T xa)

unfoldable pub depth_of : Tables → List Arg → ℕ
depth_of T xa = suc (deepest T xa)

abbrev pub depth_allowed : Head → ℕ
depth_allowed f_line = depth_limit
depth_allowed (t_line w) = type_depth_limit
depth_allowed s_line = depth_limit
depth_allowed v_line = depth_limit
depth_allowed g_line = depth_limit
depth_allowed (p_line w) = depth_limit
depth_allowed (n_line w) = depth_limit

-- ---------------------------------------------------------------- 10: sums over nodes

-- what a line adds to the sums
abbrev pub own_size : Tables → Head → List ℕ → ℕ
own_size T f_line xs = 0
own_size T (t_line w) xs = 0
own_size T s_line xs = 0
own_size T v_line xs = 0
own_size T g_line xs = 0
own_size T (p_line w) xs = 0
own_size T (n_line w) xs = (type_at T (arg xs 0)).size

abbrev pub own_weight : Tables → Head → List ℕ → ℕ
own_weight T f_line xs = 0
own_weight T (t_line w) xs = 0
own_weight T s_line xs = 0
own_weight T v_line xs = 0
own_weight T g_line xs = 0
own_weight T (p_line w) xs = 0
own_weight T (n_line w) xs = (type_at T (arg xs 0)).weight

abbrev pub sums_fit : Reading → Head → List ℕ → Bool
sums_fit R h xs =
    leb (R.sizes + own_size R.tables h xs) size_sum_limit && leb (R.weights + own_weight R.tables h xs) weight_sum_limit

-- ---------------------------------------------------------------- a line's refusal

pub record Test : Type 0 where
  pub refusal : ℕ
  pub passes : Bool

abbrev pub test : ℕ → Bool → Test
test n b = record { refusal = n; passes = b }

-- the first test that fails refuses
unfoldable pub first_failed : List Test → Option ℕ
first_failed [] = None
first_failed (t ∷ ts) = elim t.passes [ true ↦ first_failed ts | false ↦ Some t.refusal ]

unfoldable pub refusal_of : Reading → Line → Option ℕ
refusal_of R l =
    first_failed (
    test 2 (in_order R.stage (rank l.head)) ∷
    test 8 (few_enough R.tables l.head) ∷
    test 3 (all in_range l.args && fields_fit l.head (values l.args)) ∷
    test 4 (all (λ a. earlier R.tables a) l.args) ∷
    test 5 (types_right R.tables l.head (values l.args)) ∷
    test 6 (small_enough R.tables l.head (values l.args)) ∷
    test 7 (once l.args R.used) ∷
    test 9 (leb (depth_of R.tables l.args) (depth_allowed l.head)) ∷
    test 10 (sums_fit R l.head (values l.args)) ∷
    [])

-- ---------------------------------------------------------------- what an accepted line adds

abbrev pub placed_line : List ℕ → PlacedLine
placed_line xs = record { storage = arg xs 0; offset = arg xs 1; type = arg xs 2; bit = arg xs 3 }

abbrev pub storage_line : List ℕ → StorageLine
storage_line xs = record { kind = arg xs 0; len = arg xs 1; owner = arg xs 2; regions = arg xs 3 }

abbrev pub type_line : Tables → TypeWord → List Arg → TypeLine
type_line T w xa =
    record { word = w; args = values xa; size = size_of T w (values xa); weight = weight_of T w (values xa); depth = depth_of T xa }

abbrev pub place_line : Tables → ℕ → PlaceWord → List Arg → PlaceLine
place_line T n w xa = record { word = w; args = values xa; line = n; depth = depth_of T xa }

abbrev pub behind_type : List ℕ → List ℕ
behind_type [] = []
behind_type (ty ∷ xs) = xs

abbrev pub node_line : Tables → ℕ → NodeWord → List Arg → NodeLine
node_line T n w xa = record { type = arg (values xa) 0; word = w; args = behind_type (values xa); line = n; depth = depth_of T xa }

-- T with line n
unfoldable pub add_line : Tables → ℕ → Head → List Arg → Tables
add_line T n f_line xa =
    record {
      function = arg (values xa) 0;
      next = arg (values xa) 1;
      types = T.types;
      storages = T.storages;
      variables = T.variables;
      statics = T.statics;
      places = T.places;
      nodes = T.nodes;
    }
add_line T n (t_line w) xa =
    record {
      function = T.function;
      next = T.next;
      types = T.types ++ (type_line T w xa ∷ []);
      storages = T.storages;
      variables = T.variables;
      statics = T.statics;
      places = T.places;
      nodes = T.nodes;
    }
add_line T n s_line xa =
    record {
      function = T.function;
      next = T.next;
      types = T.types;
      storages = T.storages ++ (storage_line (values xa) ∷ []);
      variables = T.variables;
      statics = T.statics;
      places = T.places;
      nodes = T.nodes;
    }
add_line T n v_line xa =
    record {
      function = T.function;
      next = T.next;
      types = T.types;
      storages = T.storages;
      variables = T.variables ++ (placed_line (values xa) ∷ []);
      statics = T.statics;
      places = T.places;
      nodes = T.nodes;
    }
add_line T n g_line xa =
    record {
      function = T.function;
      next = T.next;
      types = T.types;
      storages = T.storages;
      variables = T.variables;
      statics = T.statics ++ (placed_line (values xa) ∷ []);
      places = T.places;
      nodes = T.nodes;
    }
add_line T n (p_line w) xa =
    record {
      function = T.function;
      next = T.next;
      types = T.types;
      storages = T.storages;
      variables = T.variables;
      statics = T.statics;
      places = T.places ++ (place_line T n w xa ∷ []);
      nodes = T.nodes;
    }
add_line T n (n_line w) xa =
    record {
      function = T.function;
      next = T.next;
      types = T.types;
      storages = T.storages;
      variables = T.variables;
      statics = T.statics;
      places = T.places;
      nodes = T.nodes ++ (node_line T n w xa ∷ []);
    }

-- a new place or node, not yet referred to
abbrev pub new_used : Head → Used → Used
new_used f_line U = U
new_used (t_line w) U = U
new_used s_line U = U
new_used v_line U = U
new_used g_line U = U
new_used (p_line w) U = record { places = U.places ++ (false ∷ []); nodes = U.nodes }
new_used (n_line w) U = record { places = U.places; nodes = U.nodes ++ (false ∷ []) }

unfoldable pub add : Reading → Line → Reading
add R l =
    record {
      tables = add_line R.tables (suc R.lines) l.head l.args;
      stage = suc (rank l.head);
      lines = suc R.lines;
      used = new_used l.head (mark l.args R.used);
      sizes = R.sizes + own_size R.tables l.head (values l.args);
      weights = R.weights + own_weight R.tables l.head (values l.args);
    }

-- ---------------------------------------------------------------- the whole text

pub data Step : Type 0 where
  stop : ℕ → Step
  go : Reading → Step

abbrev pub StepBy : Reading → Line → Option ℕ → Step
StepBy R l None = go (add R l)
StepBy R l (Some n) = stop n

-- a line without its line feed: the refusal's number, or the state behind it
unfoldable pub step : Reading → Option Line → Step
step R None = stop 2
step R (Some l) = StepBy R l (refusal_of R l)

pub data Read : Type 0 where
  refused : ℕ → ℕ → Read
  accepted : Tables → Read

-- the lines of places and of nodes that nothing refers to, the root apart
unfoldable pub left_places : List PlaceLine → List Bool → List ℕ
left_places [] us = []
left_places (p ∷ ps) [] = []
left_places (p ∷ ps) (u ∷ us) = elim u [ true ↦ left_places ps us | false ↦ p.line ∷ left_places ps us ]

unfoldable pub left_nodes : List NodeLine → List Bool → List ℕ
left_nodes [] us = []
left_nodes (n ∷ []) us = []
left_nodes (n ∷ m ∷ ns) [] = []
left_nodes (n ∷ m ∷ ns) (u ∷ us) = elim u [ true ↦ left_nodes (m ∷ ns) us | false ↦ n.line ∷ left_nodes (m ∷ ns) us ]

unfoldable pub least : List ℕ → Option ℕ
least [] = None
least (x ∷ xs) = elim (least xs) [ None ↦ Some x | Some y ↦ Some (min x y) ]

unfoldable pub left_over : Reading → Option ℕ
left_over R = least (left_places R.tables.places R.used.places ++ left_nodes R.tables.nodes R.used.nodes)

abbrev pub end_by : Reading → Option ℕ → Bool → Read
end_by R (Some n) b = refused 7 n
end_by R None true = refused 2 (suc R.lines)
end_by R None false = accepted R.tables

-- the text's end: a line left over, or no node
unfoldable pub at_end : Reading → Read
at_end R = end_by R (left_over R) (eqb (length R.tables.nodes) 0)

-- what stands behind the last line feed is no line
abbrev pub at_tail : Reading → List ℕ → Read
at_tail R [] = at_end R
at_tail R (x ∷ xs) = refused 2 (suc R.lines)

unfoldable pub read_lines : List (List ℕ) → Reading → Read
read_lines [] R = at_end R
read_lines (l ∷ []) R = at_tail R l
read_lines (l ∷ m ∷ ls) R = elim (step R (line_of l)) [ stop n ↦ refused n (suc R.lines) | go R' ↦ read_lines (m ∷ ls) R' ]

abbrev pub start : Reading
start =
    record {
      tables = record { function = 0; next = 0; types = []; storages = []; variables = []; statics = []; places = []; nodes = [] };
      stage = 0;
      lines = 0;
      used = record { places = []; nodes = [] };
      sizes = 0;
      weights = 0;
    }

unfoldable pub read_ticket : List ℕ → Read
read_ticket s = elim (leb (length s) text_limit) [ true ↦ read_lines (split line_feed s) start | false ↦ refused 1 0 ]
