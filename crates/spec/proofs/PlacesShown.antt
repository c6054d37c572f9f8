-- Places, computed: where fields, elements and offsets lie, read and as addresses, one within another.
use Prim.Native.Nat.{ℕ}
use Prim.Native.String.{String}
use mathlib.Core.List.{List, [], ◌∷◌, ◌++◌, map}
use Rattle.std.specs.Prelude.{Some}
use mathlib.Core.Path.{◌≡◌, refl}
use Rattle.spec.specs.Text.{text}
use Rattle.spec.specs.Readable.{root}
use Rattle.spec.specs.Read.{read_ticket}
use Rattle.spec.specs.Eval.{Data, number, parts, no_data, part}
use Rattle.spec.proofs.RunEnds.{reading_back, left_by}
use Rattle.spec.proofs.RunNested.{meaning}
use Rattle.spec.proofs.RunPremises.{M, Shown}

-- variable 0 at byte 3 of storage 0: a word, then three records of a byte and two words; static 0 at byte 4 of storage 1: the records alone.
-- Byte o of storage s is 100 s + o, its base 65500 + s.
abbrev head : List String
head =
    "f,0,0" ∷ "t,bool" ∷ "t,pointer" ∷ "t,bits,8" ∷ "t,bits,16" ∷ "t,struct,2,3,3" ∷ "t,array,4,3" ∷ "t,tuple,3,5" ∷
    "s,2,32,1,36" ∷ "s,2,32,1,36" ∷ "v,0,3,6,0" ∷ "g,1,4,5,0" ∷ []

abbrev shows : List String → Data → Shown
shows ls d = record { lines = ls; result = d }

abbrev row : ℕ → ℕ → ℕ → Data
row x y z = parts (part 2 (number 1 x) (part 3 (number 2 y) (part 3 (number 2 z) no_data)))

unfoldable pub places : List Shown
places =
    -- the third field of element 2 of field 1: 3 + 2 + 2 * 5 + 3
    shows ("p,variable,0" ∷ "p,field,0,1" ∷ "n,2,int,2" ∷ "p,element,1,0" ∷ "p,field,2,2" ∷ "n,3,read,3" ∷ []) (number 2 4882) ∷
    shows ("p,variable,0" ∷ "p,field,0,1" ∷ "n,2,int,2" ∷ "p,element,1,0" ∷ "p,field,2,2" ∷ "n,1,address,3" ∷ []) (number 2 65518) ∷
    -- element 1 of the static, whole and its second field
    shows ("p,static,0" ∷ "n,2,int,1" ∷ "p,element,0,0" ∷ "n,4,read,1" ∷ []) (row 109 28526 29040) ∷
    shows ("p,static,0" ∷ "n,2,int,1" ∷ "p,element,0,0" ∷ "p,field,1,1" ∷ "n,3,read,2" ∷ []) (number 2 28526) ∷
    shows ("p,static,0" ∷ "n,2,int,1" ∷ "p,element,0,0" ∷ "n,1,address,1" ∷ []) (number 2 65510) ∷
    -- an offset of 7 bytes; of 2 and then 4; as a record; into element 1
    shows ("p,variable,0" ∷ "n,2,int,7" ∷ "p,offset,0,0" ∷ "n,3,read,1" ∷ []) (number 2 2826) ∷
    shows ("p,variable,0" ∷ "n,2,int,7" ∷ "p,offset,0,0" ∷ "n,1,address,1" ∷ []) (number 2 65510) ∷
    shows ("p,variable,0" ∷ "n,2,int,2" ∷ "p,offset,0,0" ∷ "n,2,int,4" ∷ "p,offset,1,1" ∷ "n,3,read,2" ∷ []) (number 2 2569) ∷
    shows ("p,variable,0" ∷ "n,2,int,2" ∷ "p,offset,0,0" ∷ "n,2,int,4" ∷ "p,offset,1,1" ∷ "n,1,address,2" ∷ []) (number 2 65509) ∷
    shows ("p,variable,0" ∷ "n,2,int,5" ∷ "p,offset,0,0" ∷ "n,4,read,1" ∷ []) (row 8 2569 3083) ∷
    shows ("p,variable,0" ∷ "p,field,0,1" ∷ "n,2,int,1" ∷ "p,element,1,0" ∷ "n,2,int,3" ∷ "p,offset,2,1" ∷ "n,2,read,3" ∷ []) (number 1 13) ∷
    -- past the memory's end: modulo 65,536
    shows ("p,variable,0" ∷ "n,2,int,40" ∷ "p,offset,0,0" ∷ "n,1,address,1" ∷ []) (number 2 7) ∷
    []

-- read, typed, in order and meaning its result; answered, read back and run, it leaves it
pub places_hold :
    (map (λ c. meaning M (read_ticket (text (head ++ c.lines)))) places ≡ map (λ c. Some c.result) places) ×
    (map (λ c. left_by (head ++ c.lines) M) places ≡ map (λ c. Some c.result) places)
unfolding places reading_back root
places_hold = (refl, refl)
