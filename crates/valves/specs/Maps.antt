-- Valve maps of a board: the valves that a mask or a list names, and their number, in which valve v is bit v - 1.
use Rattle.std.specs.Prelude.{ℕ, zero, suc, ◌+◌, ◌-◌, ◌*◌, ◌/◌, ◌%◌, ◌^◌, Bool, true, false, ◌&&◌, List, ◌∷◌, [], eqb, leb, ltb, length}
use Rattle.std.specs.Prelude.{Option, None, Some}
use Rattle.spec.specs.Text.{split, comma}
use Rattle.spec.specs.Machine.{le}
use Rattle.fields.specs.Fields.{numbers_of}

-- ---------------------------------------------------------------- the valves named

-- those of k valves from v on whose bits are set, the lowest bit being that of v
unfoldable pub set_bits : ℕ → ℕ → ℕ → List ℕ
set_bits zero v n = []
set_bits (suc k) v n = elim (eqb (n % 2) 1) [ true ↦ v ∷ set_bits k (suc v) (n / 2) | false ↦ set_bits k (suc v) (n / 2) ]

-- a mask's bytes stand lowest first: valve v is bit v - 1
unfoldable pub mask_valves : List ℕ → List ℕ
mask_valves mask = set_bits (8 * length mask) 1 (le mask)

-- a list's fields are numbers in document 01's form, or it names nothing; an empty list names no valve
unfoldable pub list_valves : List ℕ → Option (List ℕ)
list_valves [] = Some []
list_valves (b ∷ s) = numbers_of (split comma (b ∷ s))

-- ---------------------------------------------------------------- a board's map

-- the valves rise strictly, the first from above `last`, and none is over N
unfoldable pub rising : ℕ → ℕ → List ℕ → Bool
rising N last [] = true
rising N last (v ∷ vs) = ltb last v && leb v N && rising N v vs

unfoldable pub map_number : List ℕ → ℕ
map_number [] = 0
map_number (v ∷ vs) = 2 ^ (v - 1) + map_number vs

abbrev pub when : Bool → ℕ → Option ℕ
when true m = Some m
when false m = None

-- the number of a map of a board of N valves, whose valves are 1 to N and rise
unfoldable pub board_map : ℕ → Option (List ℕ) → Option ℕ
board_map N None = None
board_map N (Some vs) = when (rising N 0 vs) (map_number vs)
