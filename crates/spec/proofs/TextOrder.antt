-- A text's lines, computed: each kind behind a later one is refused at its line, and so is a line with no line feed behind it.
use mathlib.Core.List.{List, [], ◌∷◌, ◌++◌, map}
use mathlib.Core.Path.{◌≡◌, refl}
use Rattle.spec.specs.Text.{text, bytes}
use Rattle.spec.specs.Answer.{refused, accepted, answer, computing}
use Rattle.spec.proofs.Cases.{Case, gives, refuses, Hold}

unfoldable pub orders : List Case
orders =
    -- `f` is the first line, and the only one
    refuses
    ("t,bool" ∷ [])
    2 1 ∷
    refuses
    ("f,0,0" ∷ "f,0,0" ∷ [])
    2 2 ∷
    -- `t`, `s`, `v` and `g` in that order
    refuses
    ("f,0,0" ∷ "t,bool" ∷ "t,pointer" ∷ "s,1,0,1,36" ∷ "t,unit" ∷ [])
    2 5 ∷
    refuses
    ("f,0,0" ∷ "t,bool" ∷ "t,pointer" ∷ "s,1,0,1,36" ∷ "v,0,0,1,0" ∷ "s,1,0,1,36" ∷ [])
    2 6 ∷
    refuses
    ("f,0,0" ∷ "t,bool" ∷ "t,pointer" ∷ "s,1,0,1,36" ∷ "g,0,0,1,0" ∷ "v,0,0,1,0" ∷ [])
    2 6 ∷
    -- `p` and `n` behind all of those, and among each other
    refuses
    ("f,0,0" ∷ "t,bool" ∷ "t,pointer" ∷ "s,1,0,1,36" ∷ "p,variable,0" ∷ "g,0,0,1,0" ∷ [])
    2 6 ∷
    refuses
    ("f,0,0" ∷ "t,bool" ∷ "t,pointer" ∷ "n,0,bool,1" ∷ "t,unit" ∷ [])
    2 5 ∷
    gives
    ("f,0,0" ∷ "t,bool" ∷ "t,pointer" ∷ "t,array,0,2" ∷ "s,2,2,1,36" ∷ "v,0,0,2,0" ∷ "n,0,int,1" ∷ "p,variable,0" ∷ "p,element,0,0" ∷ "n,0,read,1" ∷ [])
    ("storage,1,0,0,8,0,36" ∷ "i,bytetobit,1,0.1,1" ∷ "value,0,bit,1" ∷ "done,1,1,1" ∷ []) ∷
    -- an empty line is no line
    refuses
    ("f,0,0" ∷ "" ∷ [])
    2 2 ∷
    []

pub orders_hold : Hold orders
unfolding orders computing
orders_hold = refl

-- the last line without its line feed; no text at all
pub line_feeds :
    map (λ t. answer t 65536) (
    bytes "f,0,0" ∷
    (text ("f,0,0" ∷ "t,bool" ∷ "t,pointer" ∷ []) ++ bytes "n,0,bool,1") ∷
    (text ("f,0,0" ∷ "t,bool" ∷ "t,pointer" ∷ []) ++ bytes "n,0,bool,1" ++ 10 ∷ []) ∷
    [] ∷
    [])
    ≡ refused 2 1 ∷ refused 2 4 ∷ accepted (text ("value,0,bit,#1" ∷ "done,0,0,0" ∷ [])) ∷ refused 2 1 ∷ []
unfolding computing
line_feeds = refl
