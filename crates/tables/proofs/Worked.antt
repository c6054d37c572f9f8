-- A ticket with every word: the words of its lines stand for what is read from it.
use mathlib.Core.Path.{◌≡◌, refl}
use mathlib.Core.List.{List, ◌∷◌, ◌++◌, []}
use Prim.Native.Nat.{ℕ, zero, suc}
use Prim.Native.String.{String}
use lib.ListN.{take, drop}
use Rattle.spec.specs.Text.{text}
use Rattle.spec.specs.Read.{read_ticket, accepted}
use Rattle.spec.specs.Answer.{computing}
use Rattle.tables.specs.declared.Counts.{Counts}
use Rattle.tables.specs.Tables.{tab, cell, run, numbers_at, type_word_by, type_line, storage_line, placed_list, place_word_by, place_line, node_word_by, node_line, tables_of}

abbrev ticket : List String
ticket =
    "f,7,5" ∷ "t,bool" ∷ "t,pointer" ∷ "t,bits,12" ∷ "t,float,32" ∷ "t,unit" ∷ "t,array,2,3" ∷ "t,struct,2,5,0" ∷
    "t,tuple,6,2" ∷ "t,opaque,9" ∷ "s,2,40,1,36" ∷ "s,0,0,0,100" ∷ "v,0,3,7,0" ∷ "v,1,0,0,1" ∷ "g,0,5,5,0" ∷ "p,variable,0" ∷
    "p,field,0,0" ∷ "p,field,1,1" ∷ "n,2,int,2" ∷ "p,element,2,0" ∷ "n,2,read,3" ∷ "n,2,int,1" ∷ "p,static,0" ∷ "p,offset,4,2" ∷
    "n,1,address,5" ∷ "n,0,bool,1" ∷ "n,3,f32,5" ∷ "n,3,f64,6" ∷ "n,1,null" ∷ "n,1,staticaddress,0,4" ∷ "n,1,function,9" ∷ "n,2,unary,0,1" ∷
    "n,2,int,3" ∷ "n,2,binary,0,10,11" ∷ "n,3,funary,5" ∷ "n,3,fbinary,13,6" ∷ "n,2,int,4" ∷ "n,0,compare,0,12,15" ∷ "n,2,convert,12,4" ∷ "n,2,int,7" ∷
    "n,2,select,17,18,16" ∷ "n,1,offset,3,19" ∷ "n,4,aggregate" ∷ "n,6,aggregate,7,8,9,14" ∷ "n,2,extract,22,1" ∷ "n,6,insert,21,0,23" ∷ "n,8,aggregate,20,24" ∷
    []

abbrev types : List ℕ
types =
    1 ∷ 0 ∷ 0 ∷ 1 ∷ 1 ∷ 1 ∷
    4 ∷ 0 ∷ 0 ∷ 2 ∷ 1 ∷ 1 ∷
    2 ∷ 0 ∷ 1 ∷ 2 ∷ 1 ∷ 1 ∷
    3 ∷ 1 ∷ 1 ∷ 4 ∷ 1 ∷ 1 ∷
    0 ∷ 2 ∷ 0 ∷ 0 ∷ 1 ∷ 1 ∷
    5 ∷ 2 ∷ 2 ∷ 6 ∷ 4 ∷ 2 ∷
    6 ∷ 4 ∷ 3 ∷ 9 ∷ 7 ∷ 3 ∷
    7 ∷ 7 ∷ 2 ∷ 11 ∷ 9 ∷ 4 ∷
    8 ∷ 9 ∷ 1 ∷ 9 ∷ 1 ∷ 1 ∷
    []

abbrev storages : List ℕ
storages =
    0 ∷ 10 ∷ 4 ∷ 0 ∷ 0 ∷ 0 ∷
    0 ∷ 14 ∷ 4 ∷ 0 ∷ 0 ∷ 0 ∷
    []

abbrev variables : List ℕ
variables =
    0 ∷ 18 ∷ 4 ∷ 0 ∷ 0 ∷ 0 ∷
    0 ∷ 22 ∷ 4 ∷ 0 ∷ 0 ∷ 0 ∷
    []

abbrev statics : List ℕ
statics =
    0 ∷ 26 ∷ 4 ∷ 0 ∷ 0 ∷ 0 ∷
    []

abbrev places : List ℕ
places =
    0 ∷ 30 ∷ 1 ∷ 16 ∷ 1 ∷ 1 ∷
    2 ∷ 31 ∷ 2 ∷ 17 ∷ 2 ∷ 1 ∷
    2 ∷ 33 ∷ 2 ∷ 18 ∷ 3 ∷ 1 ∷
    3 ∷ 37 ∷ 2 ∷ 20 ∷ 4 ∷ 1 ∷
    1 ∷ 43 ∷ 1 ∷ 23 ∷ 1 ∷ 1 ∷
    4 ∷ 44 ∷ 2 ∷ 24 ∷ 2 ∷ 1 ∷
    []

abbrev nodes : List ℕ
nodes =
    1 ∷ 35 ∷ 2 ∷ 19 ∷ 1 ∷ 1 ∷
    7 ∷ 39 ∷ 2 ∷ 21 ∷ 5 ∷ 1 ∷
    1 ∷ 41 ∷ 2 ∷ 22 ∷ 1 ∷ 1 ∷
    15 ∷ 46 ∷ 2 ∷ 25 ∷ 3 ∷ 1 ∷
    0 ∷ 48 ∷ 2 ∷ 26 ∷ 1 ∷ 1 ∷
    2 ∷ 50 ∷ 2 ∷ 27 ∷ 1 ∷ 1 ∷
    3 ∷ 52 ∷ 2 ∷ 28 ∷ 1 ∷ 1 ∷
    4 ∷ 54 ∷ 1 ∷ 29 ∷ 1 ∷ 1 ∷
    5 ∷ 55 ∷ 3 ∷ 30 ∷ 1 ∷ 1 ∷
    6 ∷ 58 ∷ 2 ∷ 31 ∷ 1 ∷ 1 ∷
    8 ∷ 60 ∷ 3 ∷ 32 ∷ 6 ∷ 1 ∷
    1 ∷ 63 ∷ 2 ∷ 33 ∷ 1 ∷ 1 ∷
    9 ∷ 65 ∷ 4 ∷ 34 ∷ 7 ∷ 1 ∷
    10 ∷ 69 ∷ 2 ∷ 35 ∷ 2 ∷ 1 ∷
    11 ∷ 71 ∷ 3 ∷ 36 ∷ 3 ∷ 1 ∷
    1 ∷ 74 ∷ 2 ∷ 37 ∷ 1 ∷ 1 ∷
    12 ∷ 76 ∷ 4 ∷ 38 ∷ 8 ∷ 1 ∷
    13 ∷ 80 ∷ 3 ∷ 39 ∷ 2 ∷ 1 ∷
    1 ∷ 83 ∷ 2 ∷ 40 ∷ 1 ∷ 1 ∷
    14 ∷ 85 ∷ 4 ∷ 41 ∷ 9 ∷ 1 ∷
    16 ∷ 89 ∷ 3 ∷ 42 ∷ 10 ∷ 1 ∷
    17 ∷ 92 ∷ 1 ∷ 43 ∷ 1 ∷ 1 ∷
    17 ∷ 93 ∷ 5 ∷ 44 ∷ 4 ∷ 1 ∷
    18 ∷ 98 ∷ 3 ∷ 45 ∷ 5 ∷ 1 ∷
    19 ∷ 101 ∷ 4 ∷ 46 ∷ 6 ∷ 1 ∷
    17 ∷ 105 ∷ 3 ∷ 47 ∷ 11 ∷ 1 ∷
    []

-- n words, zeros behind the given ones
abbrev padded : ℕ → List ℕ → List ℕ
padded zero xs = xs
padded (suc n) [] = 0 ∷ padded n []
padded (suc n) (x ∷ xs) = x ∷ padded n xs

-- n rows of each kind in turn, six words a row
abbrev turns : ℕ → List ℕ → List ℕ → List ℕ → List ℕ → List ℕ → List ℕ → List ℕ
turns zero t s v g p x = []
turns (suc n) t s v g p x =
    padded 6 (take 6 t) ++ padded 6 (take 6 s) ++ padded 6 (take 6 v) ++ padded 6 (take 6 g) ++ padded 6 (take 6 p) ++ padded 6 (take 6 x) ++
    turns n (drop 6 t) (drop 6 s) (drop 6 v) (drop 6 g) (drop 6 p) (drop 6 x)

abbrev rows : List ℕ
rows = turns 26 types storages variables statics places nodes

abbrev lists : List ℕ
lists =
    12 ∷ 32 ∷ 2 ∷ 3 ∷ 2 ∷ 5 ∷ 0 ∷ 6 ∷ 2 ∷ 9 ∷ 2 ∷ 40 ∷ 1 ∷ 36 ∷ 0 ∷ 0 ∷ 0 ∷ 100 ∷ 0 ∷ 3 ∷ 7 ∷ 0 ∷ 1 ∷ 0 ∷
    0 ∷ 1 ∷ 0 ∷ 5 ∷ 5 ∷ 0 ∷ 0 ∷ 0 ∷ 0 ∷ 1 ∷ 1 ∷ 2 ∷ 2 ∷ 2 ∷ 0 ∷ 2 ∷ 3 ∷ 2 ∷ 1 ∷ 0 ∷ 4 ∷ 2 ∷ 1 ∷ 5 ∷
    0 ∷ 1 ∷ 3 ∷ 5 ∷ 3 ∷ 6 ∷ 1 ∷ 1 ∷ 0 ∷ 4 ∷ 1 ∷ 9 ∷ 2 ∷ 0 ∷ 1 ∷ 2 ∷ 3 ∷ 2 ∷ 0 ∷ 10 ∷ 11 ∷ 3 ∷ 5 ∷ 3 ∷
    13 ∷ 6 ∷ 2 ∷ 4 ∷ 0 ∷ 0 ∷ 12 ∷ 15 ∷ 2 ∷ 12 ∷ 4 ∷ 2 ∷ 7 ∷ 2 ∷ 17 ∷ 18 ∷ 16 ∷ 1 ∷ 3 ∷ 19 ∷ 4 ∷ 6 ∷ 7 ∷ 8 ∷
    9 ∷ 14 ∷ 2 ∷ 22 ∷ 1 ∷ 6 ∷ 21 ∷ 0 ∷ 23 ∷ 8 ∷ 20 ∷ 24 ∷
    []

abbrev counts : Counts
counts =
    record {
      function = 7;
      next = 5;
      types = 9;
      storages = 2;
      variables = 2;
      statics = 1;
      places = 6;
      nodes = 26;
      used = 108;
      stage = 6;
      lines = 47;
      sizes = 77;
      weights = 38;
    }

pub read_right : read_ticket (text ticket) ≡ accepted (tables_of rows lists counts)
unfolding computing tab cell run numbers_at type_word_by type_line storage_line placed_list place_word_by place_line node_word_by node_line tables_of
read_right = refl
