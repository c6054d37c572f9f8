-- Worked maps, computed: the list 12 and the mask of 2048 on a board of 12, the mask 12, the empty list, and the order of the refusals.
use mathlib.Core.Path.{◌≡◌, refl}
use mathlib.Core.List.{List, ◌∷◌, []}
use Rattle.std.specs.Prelude.{Some}
use Prim.Native.Nat.{ℕ}
use Rattle.spec.specs.Text.{bytes, text}
use Rattle.spec.specs.Machine.{le}
use Rattle.spec.specs.Answer.{refused, accepted, computing}
use Rattle.fields.specs.Fields.{numbers_of}
use Rattle.valves.specs.Maps.{set_bits, mask_valves, list_valves, rising, map_number, board_map}
use Rattle.valves.specs.Tickets.{types_text, storage_text, nodes_text, ticket_text, on_board, eight_bytes, of_map, mask_answer, list_answer}

-- a mask of eight bytes whose first two are these
abbrev mask : ℕ → ℕ → List ℕ
mask a b = a ∷ b ∷ 0 ∷ 0 ∷ 0 ∷ 0 ∷ 0 ∷ 0 ∷ []

-- valve 12 of 12
abbrev twelve : List ℕ
twelve =
    text (
    "f,0,0" ∷
    "t,bool" ∷
    "t,pointer" ∷
    "t,bits,12" ∷
    "s,2,2,1,36" ∷
    "v,0,0,2,0" ∷
    "p,variable,0" ∷
    "n,2,read,0" ∷
    "n,2,int,2048" ∷
    "n,2,binary,8,0,1" ∷
    [])

the_list_12 : list_answer 12 (bytes "12") 200 ≡ accepted twelve
unfolding computing numbers_of list_valves rising map_number board_map types_text storage_text nodes_text ticket_text on_board of_map list_answer
the_list_12 = refl

the_mask_2048 : mask_answer 12 (mask 0 8) 200 ≡ accepted twelve
unfolding computing le set_bits mask_valves rising map_number board_map types_text storage_text nodes_text ticket_text on_board eight_bytes of_map mask_answer
the_mask_2048 = refl

the_mask_12 : mask_valves (mask 12 0) ≡ 3 ∷ 4 ∷ []
unfolding le set_bits mask_valves
the_mask_12 = refl

the_empty_list : board_map 12 (list_valves []) ≡ Some 0
unfolding list_valves rising map_number board_map
the_empty_list = refl

-- N is judged before a mask's length, that before its bits, and these before the buffer
board_first : mask_answer 65 [] 0 ≡ refused 35 0
unfolding on_board mask_answer
board_first = refl

length_second : mask_answer 12 (255 ∷ 255 ∷ []) 0 ≡ refused 36 0
unfolding on_board eight_bytes mask_answer
length_second = refl

valves_third : mask_answer 12 (mask 0 16) 0 ≡ refused 35 0
unfolding le set_bits mask_valves rising map_number board_map on_board eight_bytes of_map mask_answer
valves_third = refl

room_last : mask_answer 12 (mask 0 8) 107 ≡ refused 28 0
unfolding computing le set_bits mask_valves rising map_number board_map types_text storage_text nodes_text ticket_text on_board eight_bytes of_map mask_answer
room_last = refl

-- a list that does not rise, a valve 0, one over N, and a field that is no number
list_falls : list_answer 12 (bytes "3,3") 200 ≡ refused 35 0
unfolding computing numbers_of list_valves rising map_number board_map on_board of_map list_answer
list_falls = refl

list_zero : list_answer 12 (bytes "0,3") 200 ≡ refused 35 0
unfolding computing numbers_of list_valves rising map_number board_map on_board of_map list_answer
list_zero = refl

list_over : list_answer 12 (bytes "3,13") 200 ≡ refused 35 0
unfolding computing numbers_of list_valves rising map_number board_map on_board of_map list_answer
list_over = refl

list_no_number : list_answer 12 (bytes "3,") 200 ≡ refused 35 0
unfolding computing numbers_of list_valves rising map_number board_map on_board of_map list_answer
list_no_number = refl
