-- Document 02's decided readings (E7, E5 and E3): tickets, each with a line of its answer, computed.
use Prim.Native.Nat.{ℕ}
use Prim.Native.String.{String}
use mathlib.Core.Bool.{Bool, true, false, ◌||◌}
use mathlib.Core.List.{List, [], ◌∷◌, ◌++◌, map}
use mathlib.Core.Path.{◌≡◌, refl}
use Rattle.spec.specs.Text.{text, bytes, digits, same, split, line_feed}
use Rattle.spec.specs.Print as print
use Rattle.spec.specs.Answer.{Answer, refused, accepted, answer, plain_lowering, plain_reading, plain_answer, computing}

-- what the program `lower` prints
abbrev pub printed : Answer → List ℕ
printed (refused n l) = bytes "refused," ++ digits n ++ bytes "," ++ digits l
printed (accepted s) = s

unfoldable pub has_line : List ℕ → List (List ℕ) → Bool
has_line l [] = false
has_line l (m ∷ ms) = same l m || has_line l ms

pub record Shown : Type 0 where
  pub ticket : List String
  pub room : ℕ
  pub line : String

abbrev pub shows : List String → String → Shown
shows t l = record { ticket = t; room = 65536; line = l }

abbrev pub in_answer : Shown → Bool
in_answer s = has_line (bytes s.line) (split line_feed (printed (answer (text s.ticket) s.room)))

-- read without the nodes
abbrev pub in_plain_answer : Shown → Bool
in_plain_answer s = has_line (bytes s.line) (split line_feed (printed (plain_answer (text s.ticket) s.room)))

abbrev pub all_true : List Bool → Bool
all_true [] = true
all_true (true ∷ bs) = all_true bs
all_true (false ∷ bs) = false

-- ---------------------------------------------------------------- E7

unfoldable pub of_nodes : List Shown
of_nodes =
    -- D1. The node's number, not its line; index nodes count
    shows ("f,0,0" ∷ "t,bool" ∷ "t,pointer" ∷ "t,array,0,2" ∷ "s,2,2,1,36" ∷ "v,0,0,2,0" ∷ "p,variable,0" ∷ "n,0,int,1" ∷ "p,element,0,0" ∷ "n,0,read,1" ∷ [])
    "i,bytetobit,1,0.1,1" ∷
    -- D2. Own step: all that the node's step appends, masks and bools read back included
    shows ("f,0,0" ∷ "t,bool" ∷ "t,pointer" ∷ "t,bits,8" ∷ "n,2,int,1" ∷ "n,2,int,2" ∷ "n,2,int,3" ∷ "n,2,select,0,1,2" ∷ [])
    "i,compare,1,8,0,1,#3,1,#0,3" ∷
    -- D3. The field counts for 28
    record { ticket = ("f,0,0" ∷ "t,bool" ∷ "t,pointer" ∷ "t,bits,9" ∷ "s,2,2,1,36" ∷ "v,0,0,2,0" ∷ "p,variable,0" ∷ "n,2,read,0" ∷ "n,2,int,12" ∷ "n,2,binary,0,0,1" ∷ []); room = 141; line = "refused,28,0" } ∷
    record { ticket = ("f,0,0" ∷ "t,bool" ∷ "t,pointer" ∷ "t,bits,9" ∷ "s,2,2,1,36" ∷ "v,0,0,2,0" ∷ "p,variable,0" ∷ "n,2,read,0" ∷ "n,2,int,12" ∷ "n,2,binary,0,0,1" ∷ []); room = 142; line = "i,add,1.1,0.1,#0,2,-,2" } ∷
    []

pub of_nodes_hold : all_true (map in_answer of_nodes) ≡ true
unfolding of_nodes has_line computing
of_nodes_hold = refl

-- ---------------------------------------------------------------- E5

unfoldable pub of_limits : List Shown
of_limits =
    -- B2. Both sums, sizes and weights, go to 8,192; one type's weight stays at 4,096
    shows ("f,0,0" ∷ "t,bool" ∷ "t,pointer" ∷ "t,unit" ∷ "t,array,2,4095" ∷ "n,2,null" ∷ "n,3,aggregate,0" ∷ [])
    "value,3,aggregate,1" ∷
    []

pub of_limits_hold : all_true (map in_plain_answer of_limits) ≡ true
unfolding of_limits has_line computing print.plain_instruction_line print.print_plain_listing plain_lowering plain_reading plain_answer
of_limits_hold = refl

-- ---------------------------------------------------------------- E3

unfoldable pub of_selects : List Shown
of_selects =
    -- A1. The bit storage comes behind the select's temporary, and advances the counter
    shows ("f,0,0" ∷ "t,bool" ∷ "t,pointer" ∷ "t,struct,0" ∷ "n,0,bool,1" ∷ "n,2,aggregate,0" ∷ "n,0,bool,0" ∷ "n,2,aggregate,2" ∷ "n,0,bool,1" ∷ "n,2,select,1,3,4" ∷ [])
    "storage,1,0,0,9,1,36" ∷
    shows ("f,0,0" ∷ "t,bool" ∷ "t,pointer" ∷ "t,struct,0" ∷ "n,0,bool,1" ∷ "n,2,aggregate,0" ∷ "n,0,bool,0" ∷ "n,2,aggregate,2" ∷ "n,0,bool,1" ∷ "n,2,select,1,3,4" ∷ [])
    "storage,2,0,0,8,2,36" ∷
    -- A2. A new storage for each pair, and each pair whole before the next
    shows ("f,0,0" ∷ "t,bool" ∷ "t,pointer" ∷ "t,struct,0,0" ∷ "n,0,bool,1" ∷ "n,0,bool,0" ∷ "n,2,aggregate,0,1" ∷ "n,0,bool,0" ∷ "n,0,bool,1" ∷ "n,2,aggregate,3,4" ∷ "n,0,bool,1" ∷ "n,2,select,2,5,6" ∷ [])
    "i,selbit,2,#1,#0,#1" ∷
    shows ("f,0,0" ∷ "t,bool" ∷ "t,pointer" ∷ "t,struct,0,0" ∷ "n,0,bool,1" ∷ "n,0,bool,0" ∷ "n,2,aggregate,0,1" ∷ "n,0,bool,0" ∷ "n,0,bool,1" ∷ "n,2,aggregate,3,4" ∷ "n,0,bool,1" ∷ "n,2,select,2,5,6" ∷ [])
    "done,6,5,5" ∷
    -- A3. Any byte destination with two bits, record or not
    shows ("f,0,0" ∷ "t,bool" ∷ "t,pointer" ∷ "t,bits,8" ∷ "n,0,bool,1" ∷ "n,2,convert,11,0" ∷ "n,0,bool,0" ∷ "n,2,convert,11,2" ∷ "n,0,bool,1" ∷ "n,2,select,1,3,4" ∷ [])
    "value,2,bytes,1,0.0" ∷
    -- A5. The pairs are still zipped: the shortest list ends them
    shows ("f,0,0" ∷ "t,bool" ∷ "t,pointer" ∷ "t,bits,8" ∷ "t,struct,0" ∷ "n,0,bool,1" ∷ "n,0,bool,1" ∷ "n,3,aggregate,0,1" ∷ "n,0,bool,0" ∷ "n,2,int,7" ∷ "n,3,aggregate,3,4" ∷ "n,0,bool,1" ∷ "n,3,select,2,5,6" ∷ [])
    "done,3,3,3" ∷
    -- A6. Mixed records: one unlike pair refuses the whole select
    shows ("f,0,0" ∷ "t,bool" ∷ "t,pointer" ∷ "t,struct,0,0" ∷ "s,2,2,1,36" ∷ "v,0,0,2,0" ∷ "p,variable,0" ∷ "n,2,read,0" ∷ "n,2,null" ∷ "n,0,bool,1" ∷ "n,2,select,1,0,2" ∷ [])
    "refused,24,11" ∷
    -- A7. Units and records of no size
    shows ("f,0,0" ∷ "t,bool" ∷ "t,pointer" ∷ "t,struct" ∷ "n,2,aggregate" ∷ "n,2,aggregate" ∷ "n,0,bool,1" ∷ "n,2,select,0,1,2" ∷ [])
    "refused,23,8" ∷
    -- A8. A ticket can stay refused 24 and still change
    shows ("f,0,0" ∷ "t,bool" ∷ "t,pointer" ∷ "t,bits,8" ∷ "t,struct,0" ∷ "n,0,bool,1" ∷ "n,3,aggregate,0" ∷ "n,0,bool,0" ∷ "n,3,aggregate,2" ∷ "n,0,bool,1" ∷ "n,3,select,1,3,4" ∷ "n,2,unary,1,5" ∷ [])
    "refused,24,12" ∷
    []

pub of_selects_hold : all_true (map in_plain_answer of_selects) ≡ true
unfolding of_selects has_line computing print.plain_instruction_line print.print_plain_listing plain_lowering plain_reading plain_answer
of_selects_hold = refl
