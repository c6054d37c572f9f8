-- The ticket that opens a map's valves, and the answer to every board, map and lent buffer.
use Rattle.std.specs.Prelude.{ℕ, ◌+◌, ◌/◌, true, false, ◌&&◌, List, ◌∷◌, ◌++◌, [], eqb, leb, length}
use Rattle.std.specs.Prelude.{Option, None, Some}
use Rattle.spec.specs.Text.{bytes, text, line, digits}
use Rattle.spec.specs.Answer.{Answer, refused, fitted}
use Rattle.valves.specs.Maps.{mask_valves, list_valves, board_map}

-- ---------------------------------------------------------------- the ticket

-- the bytes of a type of N bits
abbrev pub bytes_for : ℕ → ℕ
bytes_for N = (N + 7) / 8

-- the function, and the types bool, pointer and bits N
unfoldable pub types_text : ℕ → List ℕ
types_text N = text ("f,0,0" ∷ "t,bool" ∷ "t,pointer" ∷ []) ++ line (bytes "t") (bytes "bits" ∷ digits N ∷ [])

-- one storage of the function's own, of kind 2
unfoldable pub storage_text : ℕ → List ℕ
storage_text N = line (bytes "s") (bytes "2" ∷ digits (bytes_for N) ∷ bytes "1" ∷ bytes "36" ∷ [])

-- variable 0 and the place that names it; it is read, then the constant m, then their OR
unfoldable pub nodes_text : ℕ → List ℕ
nodes_text m =
    text ("v,0,0,2,0" ∷ "p,variable,0" ∷ "n,2,read,0" ∷ []) ++
    line (bytes "n") (bytes "2" ∷ bytes "int" ∷ digits m ∷ []) ++
    text ("n,2,binary,8,0,1" ∷ [])

unfoldable pub ticket_text : ℕ → ℕ → List ℕ
ticket_text N m = types_text N ++ storage_text N ++ nodes_text m

-- ---------------------------------------------------------------- the answers

-- 35: a board of 1 to 64 valves
unfoldable pub on_board : ℕ → Answer → Answer
on_board N a = elim (leb 1 N && leb N 64) [ true ↦ a | false ↦ refused 35 0 ]

-- 36: a mask of eight bytes
unfoldable pub eight_bytes : List ℕ → Answer → Answer
eight_bytes mask a = elim (eqb (length mask) 8) [ true ↦ a | false ↦ refused 36 0 ]

-- 35: no map of the board; 28: longer than the buffer
unfoldable pub of_map : ℕ → ℕ → Option ℕ → Answer
of_map N room None = refused 35 0
of_map N room (Some m) = fitted room (ticket_text N m)

unfoldable pub mask_answer : ℕ → List ℕ → ℕ → Answer
mask_answer N mask room = on_board N (eight_bytes mask (of_map N room (board_map N (Some (mask_valves mask)))))

unfoldable pub list_answer : ℕ → List ℕ → ℕ → Answer
list_answer N list room = on_board N (of_map N room (board_map N (list_valves list)))
