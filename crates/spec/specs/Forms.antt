-- The forms of a ticket's lines (document 01, 'Ticket'): a line's head and the numbers behind it, each with its field's class.
use Rattle.std.specs.Prelude.{ℕ, true, false, List, [], ◌∷◌}
use Prim.Native.String.{String}
use Rattle.std.specs.Prelude.{Option, None, Some}
use Rattle.spec.specs.Text.{bytes, same, split, number, comma}
use Rattle.spec.specs.Limits.{greatest_16, greatest_32, greatest_64, all_regions}
use Rattle.spec.specs.Ticket.{TypeWord, t_unit, t_bool, t_bits, t_float, t_pointer, t_array, t_struct, t_tuple, t_opaque, PlaceWord, p_variable, p_static, p_field, p_element, p_offset, NodeWord, n_bool, n_int, n_f32, n_f64, n_null, n_static_address, n_function, n_read, n_unary, n_binary, n_funary, n_fbinary, n_compare, n_convert, n_select, n_address, n_offset, n_aggregate, n_extract, n_insert}

-- what a field holds: a number in a range, a float's width, or an earlier line's number (document 01's T, TYPE, STORAGE, P and N)
pub data Field : Type 0 where
  between : ℕ → ℕ → Field
  float_width type_part type storage place node : Field

abbrev pub up_to : ℕ → Field
up_to n = between 0 n

abbrev pub any : Field
any = up_to greatest_64

-- a word, what it stands for, and its fields: some in order, then any number of one class
pub record Rule (A : Type 0) : Type 0 where
  pub word : String
  pub make : A
  pub fields : List Field
  pub rest : Option Field

abbrev pub rule : {A : Type 0} → String → A → List Field → Rule A
rule w a fs = record { word = w; make = a; fields = fs; rest = None }

abbrev pub many : {A : Type 0} → String → A → Field → Rule A
many w a f = record { word = w; make = a; fields = []; rest = Some f }

abbrev pub type_rules : List (Rule TypeWord)
type_rules =
    rule "unit" t_unit [] ∷
    rule "bool" t_bool [] ∷
    rule "bits" t_bits (between 1 64 ∷ []) ∷
    rule "float" t_float (float_width ∷ []) ∷
    rule "pointer" t_pointer [] ∷
    rule "array" t_array (type_part ∷ up_to greatest_16 ∷ []) ∷
    many "struct" t_struct type_part ∷
    many "tuple" t_tuple type_part ∷
    rule "opaque" t_opaque (up_to greatest_16 ∷ []) ∷
    []

abbrev pub place_rules : List (Rule PlaceWord)
place_rules =
    rule "variable" p_variable (any ∷ []) ∷
    rule "static" p_static (any ∷ []) ∷
    rule "field" p_field (place ∷ any ∷ []) ∷
    rule "element" p_element (place ∷ node ∷ []) ∷
    rule "offset" p_offset (place ∷ node ∷ []) ∷
    []

abbrev pub node_rules : List (Rule NodeWord)
node_rules =
    rule "bool" n_bool (up_to 1 ∷ []) ∷
    rule "int" n_int (any ∷ []) ∷
    rule "f32" n_f32 (up_to greatest_32 ∷ []) ∷
    rule "f64" n_f64 (any ∷ []) ∷
    rule "null" n_null [] ∷
    rule "staticaddress" n_static_address (any ∷ up_to greatest_16 ∷ []) ∷
    rule "function" n_function (up_to greatest_16 ∷ []) ∷
    rule "read" n_read (place ∷ []) ∷
    rule "unary" n_unary (up_to 4 ∷ node ∷ []) ∷
    rule "binary" n_binary (up_to 18 ∷ node ∷ node ∷ []) ∷
    rule "funary" n_funary (node ∷ []) ∷
    rule "fbinary" n_fbinary (node ∷ node ∷ []) ∷
    rule "compare" n_compare (up_to 15 ∷ node ∷ node ∷ []) ∷
    rule "convert" n_convert (up_to 13 ∷ node ∷ []) ∷
    rule "select" n_select (node ∷ node ∷ node ∷ []) ∷
    rule "address" n_address (place ∷ []) ∷
    rule "offset" n_offset (node ∷ node ∷ []) ∷
    many "aggregate" n_aggregate node ∷
    rule "extract" n_extract (node ∷ any ∷ []) ∷
    rule "insert" n_insert (node ∷ any ∷ node ∷ []) ∷
    []

abbrev pub function_fields : List Field
function_fields = up_to greatest_16 ∷ up_to greatest_16 ∷ []

abbrev pub storage_fields : List Field
storage_fields = up_to 3 ∷ up_to greatest_16 ∷ up_to 1 ∷ up_to all_regions ∷ []

abbrev pub placed_fields : List Field
placed_fields = storage ∷ up_to greatest_16 ∷ type ∷ up_to 1 ∷ []

unfoldable pub find : {A : Type 0} → List (Rule A) → List ℕ → Option (Rule A)
find [] w = None
find (r ∷ rs) w = elim (same (bytes r.word) w) [ true ↦ Some r | false ↦ find rs w ]

-- ---------------------------------------------------------------- a line

-- a number, and the class of its field
pub record Arg : Type 0 where
  pub class : Field
  pub value : ℕ

-- what a line begins with; a node's first number is its TYPE, though its word stands behind that
pub data Head : Type 0 where
  f_line s_line v_line g_line : Head
  t_line : TypeWord → Head
  p_line : PlaceWord → Head
  n_line : NodeWord → Head

pub record Line : Type 0 where
  pub head : Head
  pub args : List Arg

abbrev pub cons_arg : Field → Option ℕ → Option (List Arg) → Option (List Arg)
cons_arg f None xa = None
cons_arg f (Some x) None = None
cons_arg f (Some x) (Some xa) = Some (record { class = f; value = x } ∷ xa)

-- fields that are numbers in document 01's form, and just as many as the rule has
unfoldable pub rest_args : Option Field → List (List ℕ) → Option (List Arg)
rest_args r [] = Some []
rest_args None (w ∷ ws) = None
rest_args (Some f) (w ∷ ws) = cons_arg f (number w) (rest_args (Some f) ws)

unfoldable pub args_of : List Field → Option Field → List (List ℕ) → Option (List Arg)
args_of [] r ws = rest_args r ws
args_of (f ∷ fs) r [] = None
args_of (f ∷ fs) r (w ∷ ws) = cons_arg f (number w) (args_of fs r ws)

abbrev pub line_with : Head → Option (List Arg) → Option Line
line_with h None = None
line_with h (Some xa) = Some (record { head = h; args = xa })

abbrev pub by_rule : {A : Type 0} → (A → Head) → List Field → Option (Rule A) → List (List ℕ) → Option Line
by_rule h before None ws = None
by_rule h before (Some r) ws = line_with (h r.make) (args_of (prepended before r.fields) r.rest ws)
  where
    prepended : List Field → List Field → List Field
    prepended [] gs = gs
    prepended (f ∷ fs) gs = f ∷ prepended fs gs

unfoldable pub type_form : List (List ℕ) → Option Line
type_form [] = None
type_form (w ∷ ws) = by_rule t_line [] (find type_rules w) ws

unfoldable pub place_form : List (List ℕ) → Option Line
place_form [] = None
place_form (w ∷ ws) = by_rule p_line [] (find place_rules w) ws

unfoldable pub node_form : List (List ℕ) → Option Line
node_form [] = None
node_form (t ∷ []) = None
node_form (t ∷ w ∷ ws) = by_rule n_line (type ∷ []) (find node_rules w) (t ∷ ws)

pub data Kind : Type 0 where
  k_f k_t k_s k_v k_g k_p k_n : Kind

abbrev pub kind_rules : List (Rule Kind)
kind_rules = rule "f" k_f [] ∷ rule "t" k_t [] ∷ rule "s" k_s [] ∷ rule "v" k_v [] ∷ rule "g" k_g [] ∷ rule "p" k_p [] ∷ rule "n" k_n [] ∷ []

unfoldable pub form_of : Kind → List (List ℕ) → Option Line
form_of k_f ws = line_with f_line (args_of function_fields None ws)
form_of k_t ws = type_form ws
form_of k_s ws = line_with s_line (args_of storage_fields None ws)
form_of k_v ws = line_with v_line (args_of placed_fields None ws)
form_of k_g ws = line_with g_line (args_of placed_fields None ws)
form_of k_p ws = place_form ws
form_of k_n ws = node_form ws

abbrev pub form_by : Option (Rule Kind) → List (List ℕ) → Option Line
form_by None ws = None
form_by (Some r) ws = form_of r.make ws

abbrev pub form_of_fields : List (List ℕ) → Option Line
form_of_fields [] = None
form_of_fields (w ∷ ws) = form_by (find kind_rules w) ws

-- a line without its line feed
unfoldable pub line_of : List ℕ → Option Line
line_of l = form_of_fields (split comma l)

abbrev pub values : List Arg → List ℕ
values [] = []
values (a ∷ xa) = a.value ∷ values xa
