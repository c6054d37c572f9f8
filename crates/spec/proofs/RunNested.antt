-- Nested operations, computed: each ticket is read from its text, rightly typed and in order, and its meaning is what the run leaves.
use Prim.Native.Nat.{ℕ}
use Prim.Native.String.{String}
use mathlib.Core.Bool.{true, false, ◌&&◌}
use mathlib.Core.List.{List, [], ◌∷◌, ◌++◌}
use Rattle.std.specs.Prelude.{Option, None, Some}
use mathlib.Core.Path.{◌≡◌, refl}
use Rattle.spec.specs.Text.{text}
use Rattle.spec.specs.Readable.{root}
use Rattle.spec.specs.Read.{Read, refused, accepted, read_ticket}
use Rattle.spec.specs.Machine.{Memory}
use Rattle.spec.specs.Typed.{typed}
use Rattle.spec.specs.Eval.{Data, flag, number, parts, no_data, part, eval, in_order}
use Rattle.spec.specs.RunCases.{memory, given}
use Rattle.spec.proofs.RunEnds.{reading_back, left_by}

-- the meaning, where the text is read, rightly typed and in order
abbrev pub meaning : Memory → Read → Option Data
meaning M (refused n l) = None
meaning M (accepted T) = elim (typed T (root T) && in_order T M (root T)) [ true ↦ eval T given M (root T) | false ↦ None ]

abbrev Shows : List String → Memory → Data → Type 0
Shows ticket M d = (meaning M (read_ticket (text ticket)) ≡ Some d) × (left_by ticket M ≡ Some d)

-- two records of a byte and a word, at bytes 0 and 8, and the bytes that each begins with; a static at byte 4
abbrev records : List String
records =
    "f,0,0" ∷ "t,bool" ∷ "t,pointer" ∷ "t,bits,8" ∷ "t,bits,16" ∷ "t,struct,2,3" ∷ "t,tuple,1,0" ∷ "s,2,16,1,36" ∷
    "v,0,0,4,0" ∷ "v,0,8,4,0" ∷ "v,0,0,2,0" ∷ "v,0,8,2,0" ∷ "g,0,4,2,0" ∷ []

-- 7 and 1000 in the first, 200 and 513 in the second
abbrev filled : Memory
filled = memory 256007 131528

abbrev pair : Data → Data → Data
pair x y = parts (part 2 x (part 3 y no_data))

-- the record whose byte is less, unsigned ..
less_unsigned : Shows (records ++ ("p,variable,0" ∷ "n,4,read,0" ∷ "p,variable,1" ∷ "n,4,read,1" ∷ "p,variable,2" ∷ "n,2,read,2" ∷ "p,variable,3" ∷
    "n,2,read,3" ∷ "n,0,compare,3,2,3" ∷ "n,4,select,0,1,4" ∷ [])) filled (pair (number 1 7) (number 2 1000))
unfolding reading_back root
less_unsigned = (refl, refl)

-- .. and signed
less_signed : Shows (records ++ ("p,variable,0" ∷ "n,4,read,0" ∷ "p,variable,1" ∷ "n,4,read,1" ∷ "p,variable,2" ∷ "n,2,read,2" ∷ "p,variable,3" ∷
    "n,2,read,3" ∷ "n,0,compare,2,2,3" ∷ "n,4,select,0,1,4" ∷ [])) filled (pair (number 1 200) (number 2 513))
unfolding reading_back root
less_signed = (refl, refl)

-- row records of a mask and a bool: the first, since 200 is not 0; its bool is a bit of its own on the way
row_record : Shows ("f,0,0" ∷ "t,bool" ∷ "t,pointer" ∷ "t,bits,8" ∷ "t,struct,2,0" ∷ "s,2,16,1,36" ∷ "v,0,2,3,0" ∷ "v,0,8,3,0" ∷ "v,0,8,2,0" ∷
    "p,variable,0" ∷ "n,3,read,0" ∷ "p,variable,1" ∷ "n,3,read,1" ∷ "p,variable,2" ∷ "n,2,read,2" ∷ "n,3,select,0,1,2" ∷ [])
    filled (parts (part 2 (number 1 3) (part 0 (flag 0) no_data)))
unfolding reading_back root
row_record = (refl, refl)

-- two records of a record of a byte and a bool and an array of three bools, at bytes 0 and 8, and the byte that the second begins with
abbrev nested : List String
nested =
    "f,0,0" ∷ "t,bool" ∷ "t,pointer" ∷ "t,bits,8" ∷ "t,array,0,3" ∷ "t,struct,2,0" ∷ "t,tuple,4,3" ∷ "s,2,16,1,36" ∷
    "v,0,0,5,0" ∷ "v,0,8,5,0" ∷ "v,0,8,2,0" ∷ "v,0,2,3,0" ∷ "v,0,10,3,0" ∷ []

-- 7, 1 and 0, 1, 1 in the first, 200, 0 and 1, 0, 0 in the second
abbrev of_bools : Memory
of_bools = memory 4311744775 65736

abbrev three : ℕ → ℕ → ℕ → Data
three x y z = parts (part 0 (flag x) (part 0 (flag y) (part 0 (flag z) no_data)))

abbrev both : ℕ → ℕ → Data → Data
both n b bs = parts (part 4 (parts (part 2 (number 1 n) (part 0 (flag b) no_data))) (part 3 bs no_data))

-- records within records and arrays of bools: the first, since 200 is not 0 ..
nested_records : Shows (nested ++ ("p,variable,0" ∷ "n,5,read,0" ∷ "p,variable,1" ∷ "n,5,read,1" ∷ "p,variable,2" ∷ "n,2,read,2" ∷ "n,5,select,0,1,2" ∷ []))
    of_bools (both 7 1 (three 0 1 1))
unfolding reading_back root
nested_records = (refl, refl)

-- .. and the second, where it is compared with 200
nested_others : Shows (nested ++ ("p,variable,0" ∷ "n,5,read,0" ∷ "p,variable,1" ∷ "n,5,read,1" ∷ "p,variable,2" ∷ "n,2,read,2" ∷ "n,2,int,200" ∷
    "n,0,compare,1,2,3" ∷ "n,5,select,0,1,4" ∷ [])) of_bools (both 200 0 (three 1 0 0))
unfolding reading_back root
nested_others = (refl, refl)

-- an array of bools that are constants, or one that is read
bool_arrays : Shows (nested ++ ("n,0,bool,1" ∷ "n,0,bool,0" ∷ "n,0,bool,1" ∷ "n,3,aggregate,0,1,2" ∷ "p,variable,4" ∷ "n,3,read,0" ∷ "n,0,bool,0" ∷
    "n,3,select,3,4,5" ∷ [])) of_bools (three 1 0 0)
unfolding reading_back root
bool_arrays = (refl, refl)

-- a select among a select's choices, and a bool of what is chosen as the condition of another
selected_twice : Shows (nested ++ ("p,variable,3" ∷ "n,3,read,0" ∷ "p,variable,4" ∷ "n,3,read,1" ∷ "n,0,bool,0" ∷ "n,3,select,0,1,2" ∷ "p,variable,3" ∷
    "n,3,read,2" ∷ "n,0,bool,1" ∷ "n,3,select,3,4,5" ∷ "n,0,extract,6,0" ∷ "p,variable,0" ∷ "n,5,read,3" ∷ "p,variable,1" ∷ "n,5,read,4" ∷
    "n,5,select,8,9,7" ∷ [])) of_bools (both 7 1 (three 0 1 1))
unfolding reading_back root
selected_twice = (refl, refl)

-- the address of the second record's word, plus 7 * 20: 65500 + 9 + 140, modulo 65,536
field_plus : Shows (records ++ ("p,variable,1" ∷ "p,field,0,1" ∷ "n,1,address,1" ∷ "p,variable,2" ∷ "n,2,read,2" ∷ "n,2,int,20" ∷ "n,2,binary,2,1,2" ∷
    "n,1,offset,0,3" ∷ [])) filled (number 2 113)
unfolding reading_back root
field_plus = (refl, refl)

-- the number of function 7, 1007, times 3, as a pointer, plus 250
function_plus : Shows (records ++ ("n,1,function,7" ∷ "n,3,convert,11,0" ∷ "n,3,int,3" ∷ "n,3,binary,2,1,2" ∷ "n,1,convert,11,3" ∷ "n,2,int,250" ∷
    "n,1,offset,4,5" ∷ [])) filled (number 2 3271)
unfolding reading_back root
function_plus = (refl, refl)

-- the bits of 200 turned over, put into the first record and taken out again, plus 7
extract_inserted : Shows (records ++ ("p,variable,0" ∷ "n,4,read,0" ∷ "p,variable,3" ∷ "n,2,read,1" ∷ "n,2,unary,1,1" ∷ "n,4,insert,0,0,2" ∷
    "n,2,extract,3,0" ∷ "p,variable,2" ∷ "n,2,read,2" ∷ "n,2,binary,0,4,5" ∷ [])) filled (number 1 62)
unfolding reading_back root
extract_inserted = (refl, refl)

-- a static's address or a function's number: the first, since 200 is not 0
address_or_function : Shows (records ++ ("n,1,staticaddress,0,50" ∷ "n,1,function,2" ∷ "p,variable,3" ∷ "n,2,read,0" ∷ "n,1,select,0,1,2" ∷ [])) filled (number 2 14)
unfolding reading_back root
address_or_function = (refl, refl)

-- twelve deep: compare, select, insert, extract, not, xor, truncate, rotate, extend, reinterpret, offset and aggregate
twelve_deep : Shows (records ++ ("p,variable,0" ∷ "n,4,read,0" ∷ "p,variable,1" ∷ "n,4,read,1" ∷ "p,variable,2" ∷ "n,2,read,2" ∷ "p,variable,3" ∷
    "n,2,read,3" ∷ "n,0,compare,3,2,3" ∷ "n,4,select,0,1,4" ∷ "n,3,int,99" ∷ "n,4,insert,5,1,6" ∷ "n,3,extract,7,1" ∷ "n,3,unary,1,8" ∷ "n,3,int,4660" ∷
    "n,3,binary,9,9,10" ∷ "n,2,convert,0,11" ∷ "n,2,int,2" ∷ "n,2,binary,13,12,13" ∷ "n,3,convert,2,14" ∷ "n,1,convert,11,15" ∷ "n,2,int,140" ∷
    "n,1,offset,16,17" ∷ "n,0,bool,1" ∷ "n,5,aggregate,18,19" ∷ [])) filled (parts (part 1 (number 2 46) (part 0 (flag 1) no_data)))
unfolding reading_back root
twelve_deep = (refl, refl)
