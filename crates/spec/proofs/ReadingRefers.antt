-- The lines that a line refers to, beside the nodes of a node: the places of a node, and the nodes and the places of a place.
use Prim.Native.Nat.{ℕ}
use mathlib.Core.List.{List, [], ◌∷◌}
use Rattle.spec.specs.Ticket.{PlaceWord, p_variable, p_static, p_field, p_element, p_offset, NodeWord, n_bool, n_int, n_f32, n_f64, n_null, n_static_address, n_function, n_read, n_unary, n_binary, n_funary, n_fbinary, n_compare, n_convert, n_select, n_address, n_offset, n_aggregate, n_extract, n_insert, arg}

unfoldable pub places_of_node : NodeWord → List ℕ → List ℕ
places_of_node n_bool xs = []
places_of_node n_int xs = []
places_of_node n_f32 xs = []
places_of_node n_f64 xs = []
places_of_node n_null xs = []
places_of_node n_static_address xs = []
places_of_node n_function xs = []
places_of_node n_read xs = arg xs 0 ∷ []
places_of_node n_unary xs = []
places_of_node n_binary xs = []
places_of_node n_funary xs = []
places_of_node n_fbinary xs = []
places_of_node n_compare xs = []
places_of_node n_convert xs = []
places_of_node n_select xs = []
places_of_node n_address xs = arg xs 0 ∷ []
places_of_node n_offset xs = []
places_of_node n_aggregate xs = []
places_of_node n_extract xs = []
places_of_node n_insert xs = []

unfoldable pub nodes_of_place : PlaceWord → List ℕ → List ℕ
nodes_of_place p_variable xs = []
nodes_of_place p_static xs = []
nodes_of_place p_field xs = []
nodes_of_place p_element xs = arg xs 1 ∷ []
nodes_of_place p_offset xs = arg xs 1 ∷ []

unfoldable pub places_of_place : PlaceWord → List ℕ → List ℕ
places_of_place p_variable xs = []
places_of_place p_static xs = []
places_of_place p_field xs = arg xs 0 ∷ []
places_of_place p_element xs = arg xs 0 ∷ []
places_of_place p_offset xs = arg xs 0 ∷ []
