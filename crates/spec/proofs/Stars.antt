-- Document 01's ★ lines: the printed case and every edge, as one list with one claim that is computed.
use mathlib.Core.List.{List, [], ◌∷◌}
use mathlib.Core.Path.{refl}
use Rattle.spec.specs.Answer.{computing}
use Rattle.spec.proofs.Cases.{Case, gives, refuses, Hold}

unfoldable pub stars : List Case
stars =
    -- the printed case
    gives
    ("f,0,0" ∷ "t,bool" ∷ "t,pointer" ∷ "t,bits,9" ∷ "s,2,2,1,36" ∷ "v,0,0,2,0" ∷ "p,variable,0" ∷ "n,2,read,0" ∷ "n,2,int,12" ∷ "n,2,binary,0,0,1" ∷ [])
    ("storage,1,2,2,0,0,36" ∷ "storage,2,3,0,1,1,2" ∷ "i,add,1.0,0.0,#12,-,2,2" ∷ "i,add,1.1,0.1,#0,2,-,2" ∷ "i,and,1.1,1.1,#1,2" ∷ "value,2,bytes,2,1.0,1.1" ∷ "done,3,2,2" ∷ []) ∷
    -- an 8-bit variable, RotateLeft by 0: one copy
    gives
    ("f,0,0" ∷ "t,bool" ∷ "t,pointer" ∷ "t,bits,8" ∷ "s,1,0,1,36" ∷ "v,0,0,2,0" ∷ "p,variable,0" ∷ "n,2,read,0" ∷ "n,2,int,0" ∷ "n,2,binary,13,0,1" ∷ [])
    ("storage,1,1,0,0,0,36" ∷ "i,copy,1.0,0.0,2" ∷ "value,2,bytes,1,1.0" ∷ "done,1,1,1" ∷ []) ∷
    -- by 8: one copy
    gives
    ("f,0,0" ∷ "t,bool" ∷ "t,pointer" ∷ "t,bits,8" ∷ "s,1,0,1,36" ∷ "v,0,0,2,0" ∷ "p,variable,0" ∷ "n,2,read,0" ∷ "n,2,int,8" ∷ "n,2,binary,13,0,1" ∷ [])
    ("storage,1,1,0,0,0,36" ∷ "i,copy,1.0,0.0,2" ∷ "value,2,bytes,1,1.0" ∷ "done,1,1,1" ∷ []) ∷
    -- by 4: four rol
    gives
    ("f,0,0" ∷ "t,bool" ∷ "t,pointer" ∷ "t,bits,8" ∷ "s,1,0,1,36" ∷ "v,0,0,2,0" ∷ "p,variable,0" ∷ "n,2,read,0" ∷ "n,2,int,4" ∷ "n,2,binary,13,0,1" ∷ [])
    ("storage,1,1,0,0,0,36" ∷ "i,rol,1.0,0.0,2" ∷ "i,rol,1.0,1.0,2" ∷ "i,rol,1.0,1.0,2" ∷ "i,rol,1.0,1.0,2" ∷ "value,2,bytes,1,1.0" ∷ "done,4,1,1" ∷ []) ∷
    -- by 5: three ror
    gives
    ("f,0,0" ∷ "t,bool" ∷ "t,pointer" ∷ "t,bits,8" ∷ "s,1,0,1,36" ∷ "v,0,0,2,0" ∷ "p,variable,0" ∷ "n,2,read,0" ∷ "n,2,int,5" ∷ "n,2,binary,13,0,1" ∷ [])
    ("storage,1,1,0,0,0,36" ∷ "i,ror,1.0,0.0,2" ∷ "i,ror,1.0,1.0,2" ∷ "i,ror,1.0,1.0,2" ∷ "value,2,bytes,1,1.0" ∷ "done,3,1,1" ∷ []) ∷
    -- RotateRight by 6: two rol
    gives
    ("f,0,0" ∷ "t,bool" ∷ "t,pointer" ∷ "t,bits,8" ∷ "s,1,0,1,36" ∷ "v,0,0,2,0" ∷ "p,variable,0" ∷ "n,2,read,0" ∷ "n,2,int,6" ∷ "n,2,binary,14,0,1" ∷ [])
    ("storage,1,1,0,0,0,36" ∷ "i,rol,1.0,0.0,2" ∷ "i,rol,1.0,1.0,2" ∷ "value,2,bytes,1,1.0" ∷ "done,2,1,1" ∷ []) ∷
    -- 16 bits: one shift
    gives
    ("f,0,0" ∷ "t,bool" ∷ "t,pointer" ∷ "t,bits,16" ∷ "s,2,2,1,36" ∷ "v,0,0,2,0" ∷ "p,variable,0" ∷ "n,2,read,0" ∷ "n,2,int,5" ∷ "n,2,binary,13,0,1" ∷ [])
    ("storage,1,2,2,0,0,36" ∷ "i,shift,3,16,2,1.0,1.1,2,0.0,0.1,2,#5,#0,2" ∷ "value,2,bytes,2,1.0,1.1" ∷ "done,1,1,1" ∷ []) ∷
    -- 8-bit add: no carry is used, yet one is allocated
    gives
    ("f,0,0" ∷ "t,bool" ∷ "t,pointer" ∷ "t,bits,8" ∷ "s,1,0,1,36" ∷ "v,0,0,2,0" ∷ "p,variable,0" ∷ "n,2,read,0" ∷ "n,2,int,7" ∷ "n,2,binary,0,0,1" ∷ [])
    ("storage,1,1,0,0,0,36" ∷ "storage,2,3,0,1,1,2" ∷ "i,add,1.0,0.0,#7,-,-,2" ∷ "value,2,bytes,1,1.0" ∷ "done,1,2,2" ∷ []) ∷
    -- a constant that does not fit its bits 9: no mask
    gives
    ("f,0,0" ∷ "t,bool" ∷ "t,pointer" ∷ "t,bits,9" ∷ "n,2,int,65535" ∷ [])
    ("value,2,bytes,2,#255,#255" ∷ "done,0,0,0" ∷ []) ∷
    -- Truncate 16 to 9
    gives
    ("f,0,0" ∷ "t,bool" ∷ "t,pointer" ∷ "t,bits,16" ∷ "t,bits,9" ∷ "s,2,2,1,36" ∷ "v,0,0,2,0" ∷ "p,variable,0" ∷ "n,2,read,0" ∷ "n,3,convert,0,0" ∷ [])
    ("storage,1,2,2,0,0,36" ∷ "i,copy,1.0,0.0,1" ∷ "i,copy,1.1,0.1,1" ∷ "i,and,1.1,1.1,#1,1" ∷ "value,3,bytes,2,1.0,1.1" ∷ "done,3,1,1" ∷ []) ∷
    -- Truncate 16 to 8: no instruction
    gives
    ("f,0,0" ∷ "t,bool" ∷ "t,pointer" ∷ "t,bits,16" ∷ "t,bits,8" ∷ "s,2,2,1,36" ∷ "v,0,0,2,0" ∷ "p,variable,0" ∷ "n,2,read,0" ∷ "n,3,convert,0,0" ∷ [])
    ("value,3,bytes,1,0.0" ∷ "done,0,0,0" ∷ []) ∷
    -- a pointer plus 8-bit 255: the high byte adds #0
    gives
    ("f,0,0" ∷ "t,bool" ∷ "t,pointer" ∷ "t,bits,8" ∷ "s,2,2,1,36" ∷ "v,0,0,1,0" ∷ "p,variable,0" ∷ "n,1,read,0" ∷ "n,2,int,255" ∷ "n,1,offset,0,1" ∷ [])
    ("storage,1,2,2,0,0,36" ∷ "storage,2,3,0,4,1,2" ∷ "i,add,1.0,0.0,#255,-,2,2" ∷ "i,add,1.1,0.1,#0,2,-,2" ∷ "value,1,bytes,2,1.0,1.1" ∷ "done,2,2,2" ∷ []) ∷
    -- an array of 3: index 2 ..
    gives
    ("f,0,0" ∷ "t,bool" ∷ "t,pointer" ∷ "t,bits,8" ∷ "t,array,2,3" ∷ "s,2,3,1,36" ∷ "v,0,0,3,0" ∷ "p,variable,0" ∷ "n,2,int,2" ∷ "p,element,0,0" ∷ "n,2,read,1" ∷ [])
    ("value,2,bytes,1,0.2" ∷ "done,0,0,0" ∷ []) ∷
    -- .. and index 3
    refuses
    ("f,0,0" ∷ "t,bool" ∷ "t,pointer" ∷ "t,bits,8" ∷ "t,array,2,3" ∷ "s,2,3,1,36" ∷ "v,0,0,3,0" ∷ "p,variable,0" ∷ "n,2,int,3" ∷ "p,element,0,0" ∷ "n,2,read,1" ∷ [])
    21 11 ∷
    -- select of Unit
    refuses
    ("f,0,0" ∷ "t,bool" ∷ "t,pointer" ∷ "t,unit" ∷ "s,1,0,1,36" ∷ "v,0,0,2,0" ∷ "v,0,0,2,0" ∷ "p,variable,0" ∷ "p,variable,1" ∷ "n,2,read,0" ∷ "n,2,read,1" ∷ "n,0,bool,1" ∷ "n,2,select,0,1,2" ∷ [])
    23 13 ∷
    []

pub the_stars_hold : Hold stars
unfolding stars computing
the_stars_hold = refl
