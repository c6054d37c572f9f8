-- The premises of the running claims, met: for each storage kind, type word and node form a ticket that is read, rightly typed and in order,
-- and whose run leaves what it means. A premise that asks for more is refused here.
use Prim.Native.Nat.{◌+◌, ◌*◌, ◌%◌}
use Prim.Native.String.{String}
use mathlib.Core.List.{List, [], ◌∷◌, ◌++◌, map}
use Rattle.std.specs.Prelude.{None, Some}
use mathlib.Core.Path.{◌≡◌, refl}
use Rattle.spec.specs.Text.{text}
use Rattle.spec.specs.Readable.{root}
use Rattle.spec.specs.Read.{read_ticket}
use Rattle.spec.specs.Machine.{Memory}
use Rattle.spec.specs.Eval.{Data, empty, flag, number, parts, no_data, part}
use Rattle.spec.proofs.RunEnds.{reading_back, left_by}
use Rattle.spec.proofs.RunNested.{meaning}

-- byte o of storage s is 100 s + o, every bit is 1
abbrev pub M : Memory
M = record { byte = λ s o. (100 * s + o) % 256; bit = λ s. 1 }

-- storages of kind 2 (16 bytes), 1, 0, 3, and 2 (1 byte)
abbrev pub head : List String
head =
    "f,0,0" ∷ "t,bool" ∷ "t,pointer" ∷ "t,bits,8" ∷ "t,bits,16" ∷ "t,unit" ∷ "t,array,3,2" ∷ "t,struct,2,3,0" ∷ "t,tuple,0,2" ∷ "t,opaque,3" ∷
    "t,bits,1" ∷ "t,bits,64" ∷ "t,struct" ∷ "t,array,2,0" ∷ "t,bits,9" ∷ "t,struct,2,3" ∷ "t,tuple,3,2" ∷
    "s,2,16,1,36" ∷ "s,1,0,1,36" ∷ "s,0,0,1,36" ∷ "s,3,0,1,36" ∷ "s,2,1,0,511" ∷
    "v,0,14,3,0" ∷ "v,1,0,2,0" ∷ "v,2,0,0,1" ∷ "v,2,9,0,1" ∷ "v,3,0,4,0" ∷ "v,2,0,4,0" ∷ "v,0,0,0,0" ∷ "v,0,15,0,0" ∷ "v,0,13,8,0" ∷ "v,0,14,1,0" ∷
    "v,0,12,5,0" ∷ "v,0,12,6,0" ∷ "v,0,14,7,0" ∷ "v,0,16,11,0" ∷ "v,0,16,12,0" ∷ "v,0,1,9,0" ∷ "v,0,8,10,0" ∷ "v,4,0,2,0" ∷ "v,0,0,13,0" ∷
    "v,1,1,2,0" ∷ "v,0,15,3,0" ∷ "v,2,0,2,0" ∷ "v,3,0,2,0" ∷ "v,1,0,0,1" ∷ "v,0,0,0,1" ∷ "v,3,0,0,1" ∷ "v,0,2,13,0" ∷ "v,0,2,9,0" ∷ "v,0,17,4,0" ∷ "v,0,13,14,0" ∷ "v,0,13,15,0" ∷
    "g,4,7,2,0" ∷ []

pub record Shown : Type 0 where
  pub lines : List String
  pub result : Data

abbrev shows : List String → Data → Shown
shows ls d = record { lines = ls; result = d }

-- read, typed, in order and meaning its result; answered, read back and run, it leaves it
abbrev Hold : List Shown → Type 0
Hold cs =
    (map (λ c. meaning M (read_ticket (text (head ++ c.lines)))) cs ≡ map (λ c. Some c.result) cs) ×
    (map (λ c. left_by (head ++ c.lines) M) cs ≡ map (λ c. Some c.result) cs)

abbrev two : Data → Data → Data
two x y = parts (part 3 x (part 3 y no_data))

abbrev three : Data → Data → Data → Data
three x y z = parts (part 2 x (part 3 y (part 0 z no_data)))

abbrev pair : Data → Data → Data
pair x y = parts (part 0 x (part 2 y no_data))

abbrev byte_word : Data → Data → Data
byte_word x y = parts (part 2 x (part 3 y no_data))

abbrev word_byte : Data → Data → Data
word_byte x y = parts (part 3 x (part 2 y no_data))

-- ---------------------------------------------------------------- reads

unfoldable pub reads : List Shown
reads =
    -- bits, to the last of 16 bytes; the byte of kind 1; the one byte of kind 2
    shows ("p,variable,0" ∷ "n,3,read,0" ∷ []) (number 2 3854) ∷
    shows ("p,variable,1" ∷ "n,2,read,0" ∷ []) (number 1 100) ∷
    shows ("p,variable,17" ∷ "n,2,read,0" ∷ []) (number 1 144) ∷
    -- the greatest of bits 1, bits 9 in two bytes, and bits 64
    shows ("p,variable,15" ∷ "n,9,read,0" ∷ []) (number 1 1) ∷
    shows ("p,variable,18" ∷ "n,13,read,0" ∷ []) (number 2 256) ∷
    shows ("p,variable,16" ∷ "n,10,read,0" ∷ []) (number 8 1084818905618843912) ∷
    -- a packed bool, whatever its offset; a bool in a byte
    shows ("p,variable,2" ∷ "n,0,read,0" ∷ []) (flag 1) ∷
    shows ("p,variable,3" ∷ "n,0,read,0" ∷ []) (flag 1) ∷
    shows ("p,variable,6" ∷ "n,0,read,0" ∷ []) (flag 0) ∷
    shows ("p,variable,7" ∷ "n,0,read,0" ∷ []) (flag 1) ∷
    -- unit, in storages of no bytes
    shows ("p,variable,4" ∷ "n,4,read,0" ∷ []) empty ∷
    shows ("p,variable,5" ∷ "n,4,read,0" ∷ []) empty ∷
    -- opaque, pointer, array, struct and tuple, to the last byte; those of no parts, at the length
    shows ("p,variable,8" ∷ "n,8,read,0" ∷ []) (number 3 986637) ∷
    shows ("p,variable,9" ∷ "n,1,read,0" ∷ []) (number 2 3854) ∷
    shows ("p,variable,10" ∷ "n,5,read,0" ∷ []) (two (number 2 3340) (number 2 3854)) ∷
    shows ("p,variable,11" ∷ "n,6,read,0" ∷ []) (three (number 1 12) (number 2 3597) (flag 1)) ∷
    shows ("p,variable,12" ∷ "n,7,read,0" ∷ []) (pair (flag 1) (number 1 15)) ∷
    shows ("p,variable,13" ∷ "n,11,read,0" ∷ []) (parts no_data) ∷
    shows ("p,variable,14" ∷ "n,12,read,0" ∷ []) (parts no_data) ∷
    []

pub reads_hold : Hold reads
unfolding reads reading_back root
reads_hold = (refl, refl)

-- past the storage's bytes, a BIT 1 read of another kind, a number too wide for its type
unfoldable pub out_of_order : List (List String)
out_of_order =
    ("p,variable,19" ∷ "n,2,read,0" ∷ []) ∷ ("p,variable,20" ∷ "n,3,read,0" ∷ []) ∷ ("p,variable,21" ∷ "n,2,read,0" ∷ []) ∷
    ("p,variable,22" ∷ "n,2,read,0" ∷ []) ∷ ("p,variable,28" ∷ "n,4,read,0" ∷ []) ∷
    ("p,variable,23" ∷ "n,0,read,0" ∷ []) ∷ ("p,variable,24" ∷ "n,0,read,0" ∷ []) ∷ ("p,variable,25" ∷ "n,0,read,0" ∷ []) ∷
    ("p,variable,26" ∷ "n,13,read,0" ∷ []) ∷ ("p,variable,27" ∷ "n,9,read,0" ∷ []) ∷ ("n,13,int,512" ∷ []) ∷ []

pub out_of_order_hold : map (λ ls. meaning M (read_ticket (text (head ++ ls)))) out_of_order ≡ map (λ ls. None) out_of_order
unfolding out_of_order reading_back root
out_of_order_hold = refl

-- ---------------------------------------------------------------- constants and addresses

unfoldable pub constants : List Shown
constants =
    shows ("n,0,bool,0" ∷ []) (flag 0) ∷
    shows ("n,0,bool,1" ∷ []) (flag 1) ∷
    shows ("n,9,int,1" ∷ []) (number 1 1) ∷
    shows ("n,2,int,255" ∷ []) (number 1 255) ∷
    shows ("n,13,int,511" ∷ []) (number 2 511) ∷
    shows ("n,10,int,18446744073709551615" ∷ []) (number 8 18446744073709551615) ∷
    shows ("n,1,null" ∷ []) (number 2 0) ∷
    -- bases are 65500 + storage, functions 1000 + F, modulo 65,536
    shows ("n,1,staticaddress,0,65535" ∷ []) (number 2 65503) ∷
    shows ("n,1,function,65535" ∷ []) (number 2 999) ∷
    shows ("p,variable,0" ∷ "n,1,address,0" ∷ []) (number 2 65514) ∷
    shows ("p,static,0" ∷ "n,1,address,0" ∷ []) (number 2 65511) ∷
    []

pub constants_hold : Hold constants
unfolding constants reading_back root
constants_hold = (refl, refl)

-- ---------------------------------------------------------------- operations

unfoldable pub operations : List Shown
operations =
    shows ("p,variable,1" ∷ "n,2,read,0" ∷ "n,2,unary,1,0" ∷ []) (number 1 155) ∷
    shows ("p,variable,1" ∷ "n,2,read,0" ∷ "n,2,int,144" ∷ "n,2,binary,0,0,1" ∷ []) (number 1 244) ∷
    shows ("p,variable,1" ∷ "n,2,read,0" ∷ "n,2,int,144" ∷ "n,0,compare,3,0,1" ∷ []) (flag 1) ∷
    -- Truncate, ZeroExtend and SignExtend, to the same type and to another
    shows ("n,2,int,200" ∷ "n,2,convert,0,0" ∷ []) (number 1 200) ∷
    shows ("n,3,int,515" ∷ "n,2,convert,0,0" ∷ []) (number 1 3) ∷
    shows ("n,2,int,200" ∷ "n,2,convert,1,0" ∷ []) (number 1 200) ∷
    shows ("n,2,int,200" ∷ "n,13,convert,1,0" ∷ []) (number 2 200) ∷
    shows ("n,2,int,200" ∷ "n,2,convert,2,0" ∷ []) (number 1 200) ∷
    shows ("n,2,int,200" ∷ "n,13,convert,2,0" ∷ []) (number 2 456) ∷
    -- Reinterpret: bits 16 and pointer, and equal types
    shows ("n,3,int,515" ∷ "n,1,convert,11,0" ∷ []) (number 2 515) ∷
    shows ("p,variable,9" ∷ "n,1,read,0" ∷ "n,3,convert,11,0" ∷ []) (number 2 3854) ∷
    shows ("n,2,int,200" ∷ "n,2,convert,11,0" ∷ []) (number 1 200) ∷
    shows ("n,0,bool,1" ∷ "n,0,convert,11,0" ∷ []) (flag 1) ∷
    shows ("p,variable,12" ∷ "n,7,read,0" ∷ "n,7,convert,11,0" ∷ []) (pair (flag 1) (number 1 15)) ∷
    -- BooleanToInteger and IntegerToBoolean
    shows ("p,variable,2" ∷ "n,0,read,0" ∷ "n,9,convert,12,0" ∷ []) (number 1 1) ∷
    shows ("n,0,bool,1" ∷ "n,10,convert,12,0" ∷ []) (number 8 1) ∷
    shows ("n,13,int,256" ∷ "n,0,convert,13,0" ∷ []) (flag 1) ∷
    -- a pointer plus bits of any width
    shows ("p,variable,9" ∷ "n,1,read,0" ∷ "n,2,int,200" ∷ "n,1,offset,0,1" ∷ []) (number 2 4054) ∷
    shows ("p,variable,9" ∷ "n,1,read,0" ∷ "p,variable,16" ∷ "n,10,read,1" ∷ "n,1,offset,0,1" ∷ []) (number 2 6166) ∷
    []

pub operations_hold : Hold operations
unfolding operations reading_back root
operations_hold = (refl, refl)

-- ---------------------------------------------------------------- selects and parts

unfoldable pub chosen : List Shown
chosen =
    -- a condition that is a bool, and one of bits
    shows ("n,2,int,7" ∷ "n,2,int,9" ∷ "n,0,bool,0" ∷ "n,2,select,0,1,2" ∷ []) (number 1 9) ∷
    shows ("n,2,int,7" ∷ "n,2,int,9" ∷ "n,13,int,256" ∷ "n,2,select,0,1,2" ∷ []) (number 1 7) ∷
    shows ("n,0,bool,1" ∷ "n,0,bool,0" ∷ "n,0,bool,0" ∷ "n,0,select,0,1,2" ∷ []) (flag 0) ∷
    -- choices of a pointer, an opaque, an array, a struct and a tuple
    shows ("n,1,null" ∷ "p,variable,9" ∷ "n,1,read,0" ∷ "n,0,bool,0" ∷ "n,1,select,0,1,2" ∷ []) (number 2 3854) ∷
    shows ("p,variable,8" ∷ "n,8,read,0" ∷ "p,variable,8" ∷ "n,8,read,1" ∷ "n,0,bool,0" ∷ "n,8,select,0,1,2" ∷ []) (number 3 986637) ∷
    shows ("p,variable,10" ∷ "n,5,read,0" ∷ "p,variable,10" ∷ "n,5,read,1" ∷ "n,0,bool,0" ∷ "n,5,select,0,1,2" ∷ []) (two (number 2 3340) (number 2 3854)) ∷
    shows ("p,variable,29" ∷ "n,14,read,0" ∷ "p,variable,29" ∷ "n,14,read,1" ∷ "n,0,bool,0" ∷ "n,14,select,0,1,2" ∷ []) (byte_word (number 1 13) (number 2 3854)) ∷
    shows ("p,variable,30" ∷ "n,15,read,0" ∷ "p,variable,30" ∷ "n,15,read,1" ∷ "n,0,bool,1" ∷ "n,15,select,0,1,2" ∷ []) (word_byte (number 2 3597) (number 1 15)) ∷
    -- aggregates of each kind, and of no parts
    shows ("n,3,int,1" ∷ "n,3,int,2" ∷ "n,5,aggregate,0,1" ∷ []) (two (number 2 1) (number 2 2)) ∷
    shows ("n,2,int,1" ∷ "n,3,int,2" ∷ "n,0,bool,1" ∷ "n,6,aggregate,0,1,2" ∷ []) (three (number 1 1) (number 2 2) (flag 1)) ∷
    shows ("n,0,bool,1" ∷ "n,2,int,2" ∷ "n,7,aggregate,0,1" ∷ []) (pair (flag 1) (number 1 2)) ∷
    shows ("n,11,aggregate" ∷ []) (parts no_data) ∷
    shows ("n,12,aggregate" ∷ []) (parts no_data) ∷
    -- a part of each kind taken out ..
    shows ("p,variable,10" ∷ "n,5,read,0" ∷ "n,3,extract,0,1" ∷ []) (number 2 3854) ∷
    shows ("p,variable,11" ∷ "n,6,read,0" ∷ "n,0,extract,0,2" ∷ []) (flag 1) ∷
    shows ("p,variable,12" ∷ "n,7,read,0" ∷ "n,2,extract,0,1" ∷ []) (number 1 15) ∷
    -- .. and put in
    shows ("p,variable,10" ∷ "n,5,read,0" ∷ "n,3,int,9" ∷ "n,5,insert,0,1,1" ∷ []) (two (number 2 3340) (number 2 9)) ∷
    shows ("p,variable,11" ∷ "n,6,read,0" ∷ "n,0,bool,0" ∷ "n,6,insert,0,2,1" ∷ []) (three (number 1 12) (number 2 3597) (flag 0)) ∷
    shows ("p,variable,12" ∷ "n,7,read,0" ∷ "n,2,int,9" ∷ "n,7,insert,0,1,1" ∷ []) (pair (flag 1) (number 1 9)) ∷
    []

pub chosen_hold : Hold chosen
unfolding chosen reading_back root
chosen_hold = (refl, refl)
