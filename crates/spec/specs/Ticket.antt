-- A ticket's lines as tables, and the expression that a node stands for.
use Rattle.std.specs.Prelude.{ℕ, zero, suc, ◌+◌, ◌*◌, ◌/◌, List, [], ◌∷◌, get_or}
use Rattle.spec.specs.Hir.{IntegerUnaryOp, IntegerBinaryOp, CompareOp, ConversionOp, integer_unary_ops, integer_binary_ops, compare_ops, conversion_ops, At, Expr, Exprs, no_exprs, ◌∷ᵉ◌, Place, boolean, integer, float32, float64, null_pointer, static_address, function_address, read, integer_unary, integer_binary, float_unary, float_binary, compare, convert, select, address_of, pointer_offset, aggregate, extract_element, insert_element, variable, static, field, element, byte_offset}
use Rattle.spec.specs.Hir as hir

-- the words behind `t,`, `p,` and `n,TYPE,`
pub data TypeWord : Type 0 where
  t_unit t_bool t_bits t_float t_pointer t_array t_struct t_tuple t_opaque : TypeWord

pub data PlaceWord : Type 0 where
  p_variable p_static p_field p_element p_offset : PlaceWord

pub data NodeWord : Type 0 where
  n_bool n_int n_f32 n_f64 n_null n_static_address n_function n_read n_unary n_binary n_funary n_fbinary : NodeWord
  n_compare n_convert n_select n_address n_offset n_aggregate n_extract n_insert : NodeWord

-- a type: its word, the numbers behind it, and its size in bytes, weight and depth
pub record TypeLine : Type 0 where
  pub word : TypeWord
  pub args : List ℕ
  pub size : ℕ
  pub weight : ℕ
  pub depth : ℕ

pub record StorageLine : Type 0 where
  pub kind : ℕ
  pub len : ℕ
  pub owner : ℕ
  pub regions : ℕ

-- a variable or a static
pub record PlacedLine : Type 0 where
  pub storage : ℕ
  pub offset : ℕ
  pub type : ℕ
  pub bit : ℕ

pub record PlaceLine : Type 0 where
  pub word : PlaceWord
  pub args : List ℕ
  pub line : ℕ
  pub depth : ℕ

-- the numbers behind the word: TYPE stands beside them
pub record NodeLine : Type 0 where
  pub type : ℕ
  pub word : NodeWord
  pub args : List ℕ
  pub line : ℕ
  pub depth : ℕ

pub record Tables : Type 0 where
  pub function : ℕ
  pub next : ℕ
  pub types : List TypeLine
  pub storages : List StorageLine
  pub variables : List PlacedLine
  pub statics : List PlacedLine
  pub places : List PlaceLine
  pub nodes : List NodeLine

-- what stands at a number that no line has
abbrev pub no_type : TypeLine
no_type = record { word = t_unit; args = []; size = 0; weight = 1; depth = 1 }

abbrev pub no_storage_line : StorageLine
no_storage_line = record { kind = 0; len = 0; owner = 0; regions = 0 }

abbrev pub no_place : PlaceLine
no_place = record { word = p_variable; args = []; line = 0; depth = 0 }

abbrev pub no_node : NodeLine
no_node = record { type = 0; word = n_null; args = []; line = 0; depth = 0 }

abbrev pub type_at : Tables → ℕ → TypeLine
type_at T n = get_or T.types n no_type

abbrev pub storage_at : Tables → ℕ → StorageLine
storage_at T n = get_or T.storages n no_storage_line

abbrev pub place_line_at : Tables → ℕ → PlaceLine
place_line_at T n = get_or T.places n no_place

abbrev pub node_at : Tables → ℕ → NodeLine
node_at T n = get_or T.nodes n no_node

abbrev pub arg : List ℕ → ℕ → ℕ
arg xs i = get_or xs i 0

-- ---------------------------------------------------------------- sizes and weights of types

abbrev pub sum : (ℕ → ℕ) → List ℕ → ℕ
sum f [] = 0
sum f (x ∷ xs) = f x + sum f xs

-- `type_size`, given the sizes of the types referred to
abbrev pub type_size_by : (ℕ → ℕ) → TypeWord → List ℕ → ℕ
type_size_by size t_unit xs = 0
type_size_by size t_bool xs = 1
type_size_by size t_bits xs = (arg xs 0 + 7) / 8
type_size_by size t_float xs = arg xs 0 / 8
type_size_by size t_pointer xs = 2
type_size_by size t_array xs = size (arg xs 0) * arg xs 1
type_size_by size t_struct xs = sum size xs
type_size_by size t_tuple xs = sum size xs
type_size_by size t_opaque xs = arg xs 0

-- document 01's weight: 1 for a plain type
abbrev pub weight_by : (ℕ → ℕ) → TypeWord → List ℕ → ℕ
weight_by weight t_unit xs = 1
weight_by weight t_bool xs = 1
weight_by weight t_bits xs = 1
weight_by weight t_float xs = 1
weight_by weight t_pointer xs = 1
weight_by weight t_array xs = 1 + arg xs 1 * weight (arg xs 0)
weight_by weight t_struct xs = 1 + sum weight xs
weight_by weight t_tuple xs = 1 + sum weight xs
weight_by weight t_opaque xs = 1

-- `type_size` of a type line: it calls itself on the types referred to, which are less deep
unfoldable pub type_size_in : ℕ → Tables → ℕ → ℕ
type_size_in zero T ty = 0
type_size_in (suc d) T ty = type_size_by (λ t. type_size_in d T t) (type_at T ty).word (type_at T ty).args

-- ---------------------------------------------------------------- the tree

abbrev pub integer_unary_op : ℕ → IntegerUnaryOp
integer_unary_op op = get_or integer_unary_ops op hir.negate

abbrev pub integer_binary_op : ℕ → IntegerBinaryOp
integer_binary_op op = get_or integer_binary_ops op hir.add

abbrev pub compare_op : ℕ → CompareOp
compare_op op = get_or compare_ops op hir.equal

abbrev pub conversion_op : ℕ → ConversionOp
conversion_op op = get_or conversion_ops op hir.truncate

abbrev pub exprs_of : (ℕ → Expr) → List ℕ → Exprs
exprs_of e [] = no_exprs
exprs_of e (n ∷ ns) = e n ∷ᵉ exprs_of e ns

-- a node's word and numbers as an expression, p and e being the places and nodes referred to
abbrev pub expr_of : (ℕ → Place) → (ℕ → Expr) → At → NodeWord → List ℕ → Expr
expr_of p e h n_bool xs = boolean h (arg xs 0)
expr_of p e h n_int xs = integer h (arg xs 0)
expr_of p e h n_f32 xs = float32 h (arg xs 0)
expr_of p e h n_f64 xs = float64 h (arg xs 0)
expr_of p e h n_null xs = null_pointer h
expr_of p e h n_static_address xs = static_address h (arg xs 0) (arg xs 1)
expr_of p e h n_function xs = function_address h (arg xs 0)
expr_of p e h n_read xs = read h (p (arg xs 0))
expr_of p e h n_unary xs = integer_unary h (integer_unary_op (arg xs 0)) (e (arg xs 1))
expr_of p e h n_binary xs = integer_binary h (integer_binary_op (arg xs 0)) (e (arg xs 1)) (e (arg xs 2))
expr_of p e h n_funary xs = float_unary h (e (arg xs 0))
expr_of p e h n_fbinary xs = float_binary h (e (arg xs 0)) (e (arg xs 1))
expr_of p e h n_compare xs = compare h (compare_op (arg xs 0)) (e (arg xs 1)) (e (arg xs 2))
expr_of p e h n_convert xs = convert h (conversion_op (arg xs 0)) (e (arg xs 1))
expr_of p e h n_select xs = select h (e (arg xs 0)) (e (arg xs 1)) (e (arg xs 2))
expr_of p e h n_address xs = address_of h (p (arg xs 0))
expr_of p e h n_offset xs = pointer_offset h (e (arg xs 0)) (e (arg xs 1))
expr_of p e h n_aggregate xs = aggregate h (exprs_of e xs)
expr_of p e h n_extract xs = extract_element h (e (arg xs 0)) (arg xs 1)
expr_of p e h n_insert xs = insert_element h (e (arg xs 0)) (arg xs 1) (e (arg xs 2))

abbrev pub place_of : (ℕ → Place) → (ℕ → Expr) → PlaceWord → List ℕ → Place
place_of p e p_variable xs = variable (arg xs 0)
place_of p e p_static xs = static (arg xs 0)
place_of p e p_field xs = field (p (arg xs 0)) (arg xs 1)
place_of p e p_element xs = element (p (arg xs 0)) (e (arg xs 1))
place_of p e p_offset xs = byte_offset (p (arg xs 0)) (e (arg xs 1))

abbrev pub nowhere : At
nowhere = record { line = 0; node = 0; ty = 0 }

-- the expression of node n and the place of line n, as deep as d
unfoldable mutual
  pub expr_at : ℕ → Tables → ℕ → Expr
  expr_at zero T n = null_pointer nowhere
  expr_at (suc d) T n =
      expr_of (λ k. place_at d T k) (λ k. expr_at d T k) (record { line = (node_at T n).line; node = n; ty = (node_at T n).type })
      (node_at T n).word (node_at T n).args

  pub place_at : ℕ → Tables → ℕ → Place
  place_at zero T n = variable 0
  place_at (suc d) T n =
      place_of (λ k. place_at d T k) (λ k. expr_at d T k) (place_line_at T n).word (place_line_at T n).args
