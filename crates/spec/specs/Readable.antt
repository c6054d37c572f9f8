-- What reading guarantees of the tables of a ticket that it accepts: what lowering, cost and running lean on.
use Rattle.std.specs.Prelude.{ℕ, ◌+◌, ◌-◌, ◌≤◌, ◌<◌, List, [], ◌∷◌, ◌≡◌, length}
use Rattle.spec.specs.Limits.{type_lines, storage_lines, variable_lines, static_lines, place_lines, node_lines, greatest_16, all_regions, type_size_limit, type_weight_limit, depth_limit, type_depth_limit, size_sum_limit, weight_sum_limit}
use Rattle.spec.specs.Ticket.{TypeWord, t_unit, t_bool, t_bits, t_float, t_pointer, t_array, t_struct, t_tuple, t_opaque, NodeWord, n_bool, n_int, n_f32, n_f64, n_null, n_static_address, n_function, n_read, n_unary, n_binary, n_funary, n_fbinary, n_compare, n_convert, n_select, n_address, n_offset, n_aggregate, n_extract, n_insert, StorageLine, PlacedLine, NodeLine, Tables, type_at, arg, type_size_by, weight_by, type_size_in, expr_at}
use Rattle.spec.specs.Hir.{Expr, boolean, integer, float32, float64, null_pointer, static_address, function_address, read, integer_unary, integer_binary, float_unary, float_binary, compare, convert, select, address_of, pointer_offset, aggregate, extract_element, insert_element, Exprs, no_exprs, ◌∷ᵉ◌}

-- ---------------------------------------------------------------- what a line refers to

-- the types that a type is made of
unfoldable pub type_parts : TypeWord → List ℕ → List ℕ
type_parts t_unit xs = []
type_parts t_bool xs = []
type_parts t_bits xs = []
type_parts t_float xs = []
type_parts t_pointer xs = []
type_parts t_array xs = arg xs 0 ∷ []
type_parts t_struct xs = xs
type_parts t_tuple xs = xs
type_parts t_opaque xs = []

-- the nodes that a node refers to
unfoldable pub nodes_of_node : NodeWord → List ℕ → List ℕ
nodes_of_node n_bool xs = []
nodes_of_node n_int xs = []
nodes_of_node n_f32 xs = []
nodes_of_node n_f64 xs = []
nodes_of_node n_null xs = []
nodes_of_node n_static_address xs = []
nodes_of_node n_function xs = []
nodes_of_node n_read xs = []
nodes_of_node n_unary xs = arg xs 1 ∷ []
nodes_of_node n_binary xs = arg xs 1 ∷ arg xs 2 ∷ []
nodes_of_node n_funary xs = arg xs 0 ∷ []
nodes_of_node n_fbinary xs = arg xs 0 ∷ arg xs 1 ∷ []
nodes_of_node n_compare xs = arg xs 1 ∷ arg xs 2 ∷ []
nodes_of_node n_convert xs = arg xs 1 ∷ []
nodes_of_node n_select xs = arg xs 0 ∷ arg xs 1 ∷ arg xs 2 ∷ []
nodes_of_node n_address xs = []
nodes_of_node n_offset xs = arg xs 0 ∷ arg xs 1 ∷ []
nodes_of_node n_aggregate xs = xs
nodes_of_node n_extract xs = arg xs 0 ∷ []
nodes_of_node n_insert xs = arg xs 0 ∷ arg xs 2 ∷ []

-- each of the numbers is below n
unfoldable pub All_below : ℕ → List ℕ → Type 0
All_below n [] = Unit {0}
All_below n (x ∷ xs) = (x < n) × All_below n xs

-- ---------------------------------------------------------------- types

-- as many numbers as the word takes
unfoldable pub Counted : TypeWord → List ℕ → Type 0
Counted t_unit xs = length xs ≡ 0
Counted t_bool xs = length xs ≡ 0
Counted t_bits xs = length xs ≡ 1
Counted t_float xs = length xs ≡ 1
Counted t_pointer xs = length xs ≡ 0
Counted t_array xs = length xs ≡ 2
Counted t_struct xs = Unit {0}
Counted t_tuple xs = Unit {0}
Counted t_opaque xs = length xs ≡ 1

-- every type line, and what stands at a number that no line has
pub record TypesRight (T : Tables) : Type 0 where
  pub two : 2 ≤ length T.types
  pub bool_first : (type_at T 0).word ≡ t_bool
  pub pointer_second : (type_at T 1).word ≡ t_pointer
  pub counted : (ty : ℕ) → Counted (type_at T ty).word (type_at T ty).args
  pub sized : (ty : ℕ) → (type_at T ty).size ≡ type_size_by (λ t. (type_at T t).size) (type_at T ty).word (type_at T ty).args
  pub weighed : (ty : ℕ) → (type_at T ty).weight ≡ weight_by (λ t. (type_at T t).weight) (type_at T ty).word (type_at T ty).args
  pub width_least : (ty : ℕ) → (type_at T ty).word ≡ t_bits → 1 ≤ arg (type_at T ty).args 0
  pub width_most : (ty : ℕ) → (type_at T ty).word ≡ t_bits → arg (type_at T ty).args 0 ≤ 64
  pub size_most : (ty : ℕ) → (type_at T ty).size ≤ type_size_limit
  pub weight_most : (ty : ℕ) → (type_at T ty).weight ≤ type_weight_limit
  pub parts_earlier : (ty : ℕ) → All_below ty (type_parts (type_at T ty).word (type_at T ty).args)
  pub depth_most : (ty : ℕ) → (type_at T ty).depth ≤ type_depth_limit

-- ---------------------------------------------------------------- storages, variables and statics

-- a length only for kind 2
pub record StorageRight (s : StorageLine) : Type 0 where
  pub kind_most : s.kind ≤ 3
  pub len_least : s.kind ≡ 2 → 1 ≤ s.len
  pub len_none : (s.kind ≡ 2 → ⊥) → s.len ≡ 0
  pub len_most : s.len ≤ greatest_16
  pub owner_most : s.owner ≤ 1
  pub regions_most : s.regions ≤ all_regions

pub record PlacedRight (T : Tables) (p : PlacedLine) : Type 0 where
  pub storage_earlier : p.storage < length T.storages
  pub offset_most : p.offset ≤ greatest_16
  pub type_earlier : p.type < length T.types
  pub bit_most : p.bit ≤ 1
  pub bit_of_bool : p.bit ≡ 1 → p.type ≡ 0

unfoldable pub All : {A : Type 0} → (A → Type 0) → List A → Type 0
All P [] = Unit {0}
All P (x ∷ xs) = P x × All P xs

-- ---------------------------------------------------------------- sums over nodes

-- f of every node's TYPE, added up
unfoldable pub line_sum : (ℕ → ℕ) → List NodeLine → ℕ
line_sum f [] = 0
line_sum f (n ∷ ns) = f n.type + line_sum f ns

-- f of the TYPE of every node that lowering comes to: a place's index is none, nor is a float operation's operand
unfoldable mutual
  pub node_sum : (ℕ → ℕ) → Expr → ℕ
  node_sum f (boolean h b) = f h.ty
  node_sum f (integer h v) = f h.ty
  node_sum f (float32 h v) = f h.ty
  node_sum f (float64 h v) = f h.ty
  node_sum f (null_pointer h) = f h.ty
  node_sum f (static_address h k o) = f h.ty
  node_sum f (function_address h k) = f h.ty
  node_sum f (read h p) = f h.ty
  node_sum f (integer_unary h op e) = node_sum f e + f h.ty
  node_sum f (integer_binary h op l r) = node_sum f l + (node_sum f r + f h.ty)
  node_sum f (float_unary h e) = f h.ty
  node_sum f (float_binary h l r) = f h.ty
  node_sum f (compare h op l r) = node_sum f l + (node_sum f r + f h.ty)
  node_sum f (convert h op e) = node_sum f e + f h.ty
  node_sum f (select h t e c) = node_sum f t + (node_sum f e + (node_sum f c + f h.ty))
  node_sum f (address_of h p) = f h.ty
  node_sum f (pointer_offset h b o) = node_sum f b + (node_sum f o + f h.ty)
  node_sum f (aggregate h es) = node_sums f es + f h.ty
  node_sum f (extract_element h e i) = node_sum f e + f h.ty
  node_sum f (insert_element h e i w) = node_sum f e + (node_sum f w + f h.ty)

  pub node_sums : (ℕ → ℕ) → Exprs → ℕ
  node_sums f no_exprs = 0
  node_sums f (e ∷ᵉ es) = node_sum f e + node_sums f es

-- ---------------------------------------------------------------- all of it

unfoldable pub root : Tables → Expr
root T = expr_at depth_limit T (length T.nodes - 1)

pub record Readable (T : Tables) : Type 0 where
  pub types : TypesRight T
  pub storages : All StorageRight T.storages
  pub variables : All (PlacedRight T) T.variables
  pub statics : All (PlacedRight T) T.statics
  pub function_most : T.function ≤ greatest_16
  pub next_most : T.next ≤ greatest_16
  pub type_count : length T.types ≤ type_lines
  pub storage_count : length T.storages ≤ storage_lines
  pub variable_count : length T.variables ≤ variable_lines
  pub static_count : length T.statics ≤ static_lines
  pub place_count : length T.places ≤ place_lines
  pub node_count : length T.nodes ≤ node_lines
  pub some_node : 1 ≤ length T.nodes
  pub node_types : All (λ n. n.type < length T.types) T.nodes
  pub size_sum : line_sum (λ ty. (type_at T ty).size) T.nodes ≤ size_sum_limit
  pub weight_sum : line_sum (λ ty. (type_at T ty).weight) T.nodes ≤ weight_sum_limit
  -- the stored size is `type_size`
  pub stored_size : (ty : ℕ) → (type_at T ty).size ≡ type_size_in type_depth_limit T ty
  -- each line is referred to once: the root's tree has no node twice
  pub once : (f : ℕ → ℕ) → node_sum f (root T) ≤ line_sum f T.nodes
