-- The readings of document 01 that docs/DECISIONS.md records, by number: the smallest tickets that show each, as one list with one claim.
use Prim.Native.String.{String}
use mathlib.Core.List.{List, [], ◌∷◌}
use mathlib.Core.Path.{refl}
use Rattle.spec.specs.Text.{text}
use Rattle.spec.specs.Answer.{computing, refused, accepted}
use Rattle.spec.proofs.Cases.{Case, gives, refuses, Hold}

abbrev the_printed_case : List String
the_printed_case = ("f,0,0" ∷ "t,bool" ∷ "t,pointer" ∷ "t,bits,9" ∷ "s,2,2,1,36" ∷ "v,0,0,2,0" ∷ "p,variable,0" ∷ "n,2,read,0" ∷ "n,2,int,12" ∷ "n,2,binary,0,0,1" ∷ [])

unfoldable pub readings : List Case
readings =
    -- 1: no node, and a place left over; no node, and no line left over
    refuses
    ("f,0,0" ∷ "t,bool" ∷ "t,pointer" ∷ "p,variable,0" ∷ [])
    7 4 ∷
    refuses
    ("f,0,0" ∷ "t,bool" ∷ "t,pointer" ∷ [])
    2 4 ∷
    -- 2: a line that does not read beats an earlier line left over, and beats lowering
    refuses
    ("f,0,0" ∷ "t,bool" ∷ "t,pointer" ∷ "p,variable,0" ∷ "x" ∷ [])
    2 5 ∷
    refuses
    ("f,0,0" ∷ "t,bool" ∷ "t,pointer" ∷ "p,variable,0" ∷ "n,0,read,0" ∷ "x" ∷ [])
    2 6 ∷
    -- 3: an unknown word is 2, an OP out of range 3, a float's width 3, a LENGTH against its KIND 3, BIT 1 with another TYPE 3 (before 4)
    refuses
    ("f,0,0" ∷ "t,bool" ∷ "t,pointer" ∷ "t,word" ∷ [])
    2 4 ∷
    refuses
    ("f,0,0" ∷ "t,bool" ∷ "t,pointer" ∷ "n,0,unary,5,0" ∷ [])
    3 4 ∷
    refuses
    ("f,0,0" ∷ "t,bool" ∷ "t,pointer" ∷ "t,float,33" ∷ [])
    3 4 ∷
    refuses
    ("f,0,0" ∷ "t,bool" ∷ "t,pointer" ∷ "s,0,1,0,0" ∷ [])
    3 4 ∷
    refuses
    ("f,0,0" ∷ "t,bool" ∷ "t,pointer" ∷ "v,0,0,1,1" ∷ [])
    3 4 ∷
    refuses
    ("f,0,0" ∷ "t,bool" ∷ "t,pointer" ∷ "v,0,0,1,0" ∷ [])
    4 4 ∷
    -- 4: the index of an element is a node line: it is looked at, not lowered, and counts as referred to
    refuses
    ("f,0,0" ∷ "t,bool" ∷ "t,pointer" ∷ "t,array,0,3" ∷ "s,2,3,0,0" ∷ "v,0,0,2,0" ∷ "p,variable,0" ∷ "n,0,f64,2" ∷ "p,element,0,0" ∷ "n,0,read,1" ∷ [])
    21 10 ∷
    -- 5: types 0 and 1 are judged at their lines; a line behind fewer than two types is 5, behind its own 3 and 4
    refuses
    ("f,0,0" ∷ "t,pointer" ∷ [])
    5 2 ∷
    refuses
    ("f,0,0" ∷ "t,bool" ∷ "t,unit" ∷ [])
    5 3 ∷
    refuses
    ("f,0,0" ∷ "t,bool" ∷ "n,0,bool,1" ∷ [])
    5 3 ∷
    refuses
    ("f,0,0" ∷ "s,4,0,0,0" ∷ [])
    3 2 ∷
    refuses
    ("f,0,0" ∷ "v,0,0,0,0" ∷ [])
    4 2 ∷
    -- 6: a line referred to twice by one line
    refuses
    ("f,0,0" ∷ "t,bool" ∷ "t,pointer" ∷ "n,0,bool,1" ∷ "n,0,binary,0,0,0" ∷ [])
    7 5 ∷
    -- 7: an offset over 65,535 is 27 at the read's line; a place's own refusal comes first; a read's 23 comes behind it
    refuses
    ("f,0,0" ∷ "t,bool" ∷ "t,pointer" ∷ "s,1,0,0,0" ∷ "v,0,65535,0,0" ∷ "p,variable,0" ∷ "n,0,int,1" ∷ "p,offset,0,0" ∷ "n,0,read,1" ∷ [])
    27 9 ∷
    refuses
    ("f,0,0" ∷ "t,bool" ∷ "t,pointer" ∷ "t,float,32" ∷ "s,1,0,0,0" ∷ "v,0,65535,0,0" ∷ "p,variable,0" ∷ "n,0,int,1" ∷ "p,offset,0,0" ∷ "n,2,read,1" ∷ [])
    27 10 ∷
    -- 8: what turns a select's condition into a bit is the select's own step
    refuses
    ("f,0,0" ∷ "t,bool" ∷ "t,pointer" ∷ "n,1,null" ∷ "n,1,null" ∷ "n,0,null" ∷ "n,1,select,0,1,2" ∷ [])
    23 7 ∷
    -- 9: only a place's offset is bounded: byte numbers, NUMBER and NEXT may be larger
    gives
    ("f,0,0" ∷ "t,bool" ∷ "t,pointer" ∷ "s,1,0,0,0" ∷ "v,0,65535,1,0" ∷ "p,variable,0" ∷ "n,1,read,0" ∷ [])
    ("value,1,bytes,2,0.65535,0.65536" ∷ "done,0,0,0" ∷ []) ∷
    gives
    ("f,0,65535" ∷ "t,bool" ∷ "t,pointer" ∷ "n,1,function,7" ∷ [])
    ("storage,0,2,2,0,65535,36" ∷ "i,function,0.0,0.1,7,0" ∷ "value,1,bytes,2,0.0,0.1" ∷ "done,1,1,65536" ∷ []) ∷
    -- 10: every line ends in a line feed, the last too: the printed case's listing has 142 bytes
    record { ticket = the_printed_case; room = 141; answered = refused 28 0 } ∷
    record {
      ticket = the_printed_case;
      room = 142;
      answered = accepted (text ("storage,1,2,2,0,0,36" ∷ "storage,2,3,0,1,1,2" ∷ "i,add,1.0,0.0,#12,-,2,2" ∷ "i,add,1.1,0.1,#0,2,-,2" ∷ "i,and,1.1,1.1,#1,2" ∷ "value,2,bytes,2,1.0,1.1" ∷ "done,3,2,2" ∷ []));
    } ∷
    []

pub the_readings_hold : Hold readings
unfolding readings computing
the_readings_hold = refl

-- the differences D1 to D4 of docs/DIFFERENCES.md, where the Rust panics, overflows or knows no bound, and D9, where it refuses 24
unfoldable pub differences : List Case
differences =
    -- D1
    refuses
    ("f,0,0" ∷ "t,bool" ∷ "t,pointer" ∷ "t,bits,8" ∷ "n,2,int,0" ∷ "n,2,int,0" ∷ "n,1,offset,0,1" ∷ [])
    25 7 ∷
    -- D2
    refuses
    ("f,0,0" ∷ "t,bool" ∷ "t,pointer" ∷ "t,opaque,17" ∷ "n,2,int,0" ∷ [])
    26 5 ∷
    -- D3
    refuses
    ("f,0,0" ∷ "t,bool" ∷ "t,pointer" ∷ "s,1,0,0,0" ∷ "v,0,65535,0,0" ∷ "p,variable,0" ∷ "n,0,int,1" ∷ "p,offset,0,0" ∷ "n,0,read,1" ∷ [])
    27 9 ∷
    -- D4
    gives
    ("f,0,0" ∷ "t,bool" ∷ "t,pointer" ∷ "t,bits,8" ∷ "t,opaque,17" ∷ "s,1,0,0,0" ∷ "v,0,0,2,0" ∷ "p,variable,0" ∷ "n,2,read,0" ∷ "n,1,null" ∷ "n,3,convert,1,1" ∷ "n,2,binary,13,0,2" ∷ [])
    ("storage,1,1,0,0,0,36" ∷ "i,copy,1.0,0.0,3" ∷ "value,2,bytes,1,1.0" ∷ "done,1,1,1" ∷ []) ∷
    -- D9
    gives
    ("f,0,0" ∷ "t,bool" ∷ "t,pointer" ∷ "n,1,bool,1" ∷ "n,1,bool,0" ∷ "n,1,bool,1" ∷ "n,1,select,0,1,2" ∷ [])
    ("storage,0,2,2,0,0,36" ∷ "storage,1,0,0,9,1,36" ∷ "i,selbit,1,#1,#1,#0,3" ∷ "i,bittobyte,0.0,1,3" ∷ "value,1,bytes,2,0.0,0.1" ∷ "done,2,2,2" ∷ []) ∷
    []

pub the_differences_hold : Hold differences
unfolding differences computing
the_differences_hold = refl
