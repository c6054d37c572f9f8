-- Examples: tables, expressions and memories, each with the number that the run must leave.
use Rattle.std.specs.Prelude.{ℕ, ◌+◌, ◌%◌, Bool, true, false, ◌&&◌, List, [], ◌∷◌, ◌++◌, eqb, get_or}
use Prim.Native.String.{String}
use Rattle.std.specs.Prelude.{Option, None, Some}
use Rattle.spec.specs.Hir.{At, Expr, boolean, integer, read, integer_unary, integer_binary, compare, convert, variable, element}
use Rattle.spec.specs.Hir as hir
use Rattle.spec.specs.Ticket.{Tables, TypeLine, PlacedLine, t_bool, t_bits, t_pointer, t_array, n_bool, nowhere}
use Rattle.spec.specs.Lir.{Value}
use Rattle.spec.specs.Monad.{Outcome, refused, done}
use Rattle.spec.specs.Lower.{lower_expression}
use Rattle.spec.specs.Machine.{Memory, Given, bytes_of, run}
use Rattle.spec.specs.Typed.{typed, single_operation}
use Rattle.spec.specs.Eval.{Data, empty, flag, number, parts, data_of, eval, in_order}

-- ---------------------------------------------------------------- the tables

abbrev pub plain_type : ℕ → ℕ → TypeLine
plain_type w k = record { word = t_bits; args = w ∷ []; size = k; weight = 1; depth = 1 }

abbrev pub placed : ℕ → ℕ → ℕ → ℕ → PlacedLine
placed s o ty b = record { storage = s; offset = o; type = ty; bit = b }

-- a is at byte 0 of storage 0, b at byte 8; storage 1 is a bit
abbrev pub T : Tables
T = record {
  function = 0;
  next = 0;
  types =
      record { word = t_bool; args = []; size = 1; weight = 1; depth = 1 } ∷ record { word = t_pointer; args = []; size = 2; weight = 1; depth = 1 } ∷
      plain_type 8 1 ∷ plain_type 9 2 ∷ plain_type 16 2 ∷ plain_type 32 4 ∷ plain_type 64 8 ∷ plain_type 1 1 ∷
      record { word = t_array; args = 2 ∷ 3 ∷ []; size = 3; weight = 4; depth = 2 } ∷ plain_type 12 2 ∷ [];
  storages = record { kind = 2; len = 16; owner = 1; regions = 36 } ∷ record { kind = 0; len = 0; owner = 1; regions = 36 } ∷ [];
  variables =
      placed 0 0 2 0 ∷ placed 0 8 2 0 ∷ placed 0 0 3 0 ∷ placed 0 8 3 0 ∷ placed 0 0 4 0 ∷ placed 0 8 4 0 ∷ placed 0 0 5 0 ∷ placed 0 8 5 0 ∷
      placed 0 0 6 0 ∷ placed 0 8 6 0 ∷ placed 1 0 0 1 ∷ placed 0 0 0 0 ∷ placed 0 0 8 0 ∷ placed 0 0 1 0 ∷ placed 0 0 9 0 ∷ placed 0 8 9 0 ∷ [];
  statics = [];
  places = [];
  nodes = record { type = 0; word = n_bool; args = 1 ∷ []; line = 30; depth = 1 } ∷ [];
}

-- the ticket that they are read from
abbrev pub ticket : List String
ticket =
    "f,0,0" ∷ "t,bool" ∷ "t,pointer" ∷ "t,bits,8" ∷ "t,bits,9" ∷ "t,bits,16" ∷ "t,bits,32" ∷ "t,bits,64" ∷ "t,bits,1" ∷ "t,array,2,3" ∷ "t,bits,12" ∷
    "s,2,16,1,36" ∷ "s,0,0,1,36" ∷
    "v,0,0,2,0" ∷ "v,0,8,2,0" ∷ "v,0,0,3,0" ∷ "v,0,8,3,0" ∷ "v,0,0,4,0" ∷ "v,0,8,4,0" ∷ "v,0,0,5,0" ∷ "v,0,8,5,0" ∷ "v,0,0,6,0" ∷ "v,0,8,6,0" ∷
    "v,1,0,0,1" ∷ "v,0,0,0,0" ∷ "v,0,0,8,0" ∷ "v,0,0,1,0" ∷ "v,0,0,9,0" ∷ "v,0,8,9,0" ∷
    "n,0,bool,1" ∷ []

-- ---------------------------------------------------------------- the memory

-- a and b, each as 8 bytes; the bit is 1
abbrev pub memory : ℕ → ℕ → Memory
memory a b = record { byte = λ s o. get_or (bytes_of 8 a ++ bytes_of 8 b) o 0 % 256; bit = λ s. 1 }

-- bases near the end of the memory, so that addresses wrap around
abbrev pub given : Given
given = record { base = λ s. 65500 + s; function = λ f. 1000 + f }

-- ---------------------------------------------------------------- what a case shows

abbrev pub after_run : Value → Option Memory → Option Data
after_run v None = None
after_run v (Some M) = Some (data_of M v)

abbrev pub after_lowering : Memory → Outcome Value → Option Data
after_lowering M (refused n l) = None
after_lowering M (done v c o) = after_run v (run given o.instructions M)

-- lowered, and run
abbrev pub leaves : Expr → Memory → Option Data
leaves e M = after_lowering M (lower_expression T e nowhere (record { storage = 2; temporary = 0 }))

abbrev pub same_data : Data → Data → Bool
same_data empty d = false
same_data (flag x) empty = false
same_data (flag x) (flag y) = eqb x y
same_data (flag x) (number k y) = false
same_data (flag x) (parts ds) = false
same_data (number k x) empty = false
same_data (number k x) (flag y) = false
same_data (number k x) (number j y) = eqb k j && eqb x y
same_data (number k x) (parts ds) = false
same_data (parts ds) d = false

abbrev pub is_it : Option Data → Data → Bool
is_it None d = false
is_it (Some c) d = same_data c d

-- every premise holds, and both the meaning and the run give d
pub record Case : Type 0 where
  pub expr : Expr
  pub memory : Memory
  pub result : Data

abbrev pub shown : Case → Bool
shown c =
    single_operation c.expr && typed T c.expr && in_order T c.memory c.expr
    && is_it (eval T given c.memory c.expr) c.result && is_it (leaves c.expr c.memory) c.result

abbrev pub all_shown : List Case → Bool
all_shown [] = true
all_shown (c ∷ cs) = elim (shown c) [ true ↦ all_shown cs | false ↦ false ]

-- ---------------------------------------------------------------- writing cases

-- a bits type: its number and its bytes, and the variables a and b of that type
pub record Bits : Type 0 where
  pub ty : ℕ
  pub bytes : ℕ
  pub first : ℕ

abbrev pub u8 : Bits
u8 = record { ty = 2; bytes = 1; first = 0 }

abbrev pub u9 : Bits
u9 = record { ty = 3; bytes = 2; first = 2 }

-- the board of 12 valves
abbrev pub u12 : Bits
u12 = record { ty = 9; bytes = 2; first = 14 }

abbrev pub u16 : Bits
u16 = record { ty = 4; bytes = 2; first = 4 }

abbrev pub u32 : Bits
u32 = record { ty = 5; bytes = 4; first = 6 }

abbrev pub u64 : Bits
u64 = record { ty = 6; bytes = 8; first = 8 }

abbrev pub of_type : ℕ → At
of_type ty = record { line = 0; node = 0; ty = ty }

abbrev pub var_a : Bits → Expr
var_a t = read (of_type t.ty) (variable t.first)

abbrev pub var_b : Bits → Expr
var_b t = read (of_type t.ty) (variable (t.first + 1))

abbrev pub int : Bits → ℕ → Expr
int t v = integer (of_type t.ty) v

-- a op b
abbrev pub binary : Bits → hir.IntegerBinaryOp → ℕ → ℕ → ℕ → Case
binary t op a b r = record { expr = integer_binary (of_type t.ty) op (var_a t) (var_b t); memory = memory a b; result = number t.bytes r }

-- a op a constant
abbrev pub by_constant : Bits → hir.IntegerBinaryOp → ℕ → ℕ → ℕ → Case
by_constant t op a k r = record { expr = integer_binary (of_type t.ty) op (var_a t) (int t k); memory = memory a 0; result = number t.bytes r }

abbrev pub unary : Bits → hir.IntegerUnaryOp → ℕ → ℕ → Case
unary t op a r = record { expr = integer_unary (of_type t.ty) op (var_a t); memory = memory a 0; result = number t.bytes r }

abbrev pub compares : Bits → hir.CompareOp → ℕ → ℕ → ℕ → Case
compares t op a b r = record { expr = compare (of_type 0) op (var_a t) (var_b t); memory = memory a b; result = flag r }

abbrev pub converts : Bits → Bits → hir.ConversionOp → ℕ → ℕ → Case
converts s t op a r = record { expr = convert (of_type t.ty) op (var_a s); memory = memory a 0; result = number t.bytes r }

-- ---------------------------------------------------------------- the cases

-- each unary operator
abbrev pub unaries : List Case
unaries =
    unary u8 hir.negate 1 255 ∷ unary u8 hir.negate 0 0 ∷ unary u8 hir.negate 128 128 ∷ unary u9 hir.negate 1 511 ∷ unary u64 hir.negate 1 18446744073709551615 ∷
    unary u8 hir.not 15 240 ∷ unary u9 hir.not 0 511 ∷ unary u32 hir.not 0 4294967295 ∷
    unary u8 hir.count_leading_zeros 0 8 ∷ unary u9 hir.count_leading_zeros 1 8 ∷ unary u64 hir.count_leading_zeros 1099511627776 23 ∷
    unary u8 hir.count_trailing_zeros 0 8 ∷ unary u16 hir.count_trailing_zeros 32768 15 ∷
    unary u8 hir.population_count 255 8 ∷ unary u64 hir.population_count 18446744073709551615 64 ∷ []

-- each binary operator
abbrev pub binaries : List Case
binaries =
    by_constant u9 hir.add 505 12 5 ∷ by_constant u8 hir.add 250 12 6 ∷ binary u64 hir.add 18446744073709551615 2 1 ∷
    binary u8 hir.subtract 3 5 254 ∷ binary u9 hir.subtract 0 1 511 ∷ binary u32 hir.subtract 65536 1 65535 ∷
    binary u8 hir.multiply 16 17 16 ∷ binary u64 hir.multiply 18446744073709551615 18446744073709551615 1 ∷
    binary u8 (hir.divide hir.unsigned) 255 7 36 ∷ binary u8 (hir.divide hir.signed) 249 2 253 ∷ binary u8 (hir.divide hir.signed) 128 1 128 ∷
    binary u64 (hir.divide hir.signed) 9223372036854775808 1 9223372036854775808 ∷
    binary u8 (hir.remainder hir.unsigned) 255 7 3 ∷ binary u8 (hir.remainder hir.signed) 249 2 255 ∷ binary u8 (hir.remainder hir.signed) 128 255 0 ∷
    by_constant u8 hir.and 255 12 12 ∷ by_constant u9 hir.and 511 12 12 ∷ binary u64 hir.and 16045690984503098046 81985529216486895 9293516952471726 ∷
    binary u16 hir.or 3840 255 4095 ∷ binary u64 hir.or 16045690984503098046 81985529216486895 16118382996767113215 ∷
    binary u9 hir.xor 511 12 499 ∷ binary u64 hir.xor 16045690984503098046 81985529216486895 16109089479814641489 ∷ []

-- shifts at the width's edge: a distance of the width is 0
abbrev pub shifts : List Case
shifts =
    binary u8 hir.shift_left 129 1 2 ∷ binary u8 hir.shift_left 129 7 128 ∷ binary u8 hir.shift_left 129 8 129 ∷ binary u16 hir.shift_left 1 256 1 ∷
    binary u32 hir.shift_left 1 31 2147483648 ∷ binary u32 hir.shift_left 1 32 1 ∷ binary u64 hir.shift_left 3 63 9223372036854775808 ∷
    binary u8 (hir.shift_right hir.unsigned) 129 1 64 ∷ binary u8 (hir.shift_right hir.signed) 129 1 192 ∷ binary u8 (hir.shift_right hir.signed) 128 7 255 ∷
    binary u64 (hir.shift_right hir.signed) 9223372036854775808 63 18446744073709551615 ∷ binary u64 (hir.shift_right hir.unsigned) 9223372036854775808 64 9223372036854775808 ∷
    binary u16 hir.rotate_left 32769 1 3 ∷ binary u16 hir.rotate_right 32769 1 49152 ∷ binary u32 hir.rotate_left 2147483649 33 3 ∷ []

-- a distance is the whole amount: at 12 valves 256 is 4, and not 0 as its lowest byte
abbrev pub distances : List Case
distances =
    binary u12 hir.shift_left 1 256 16 ∷ by_constant u12 hir.shift_left 1 256 16 ∷ binary u12 hir.shift_left 1 255 8 ∷
    binary u12 (hir.shift_right hir.unsigned) 2048 256 128 ∷ binary u12 (hir.shift_right hir.signed) 2048 256 3968 ∷
    binary u12 hir.rotate_left 2049 256 24 ∷ binary u12 hir.rotate_right 2049 256 384 ∷ by_constant u12 hir.rotate_left 2049 4095 12 ∷
    binary u9 (hir.shift_right hir.unsigned) 256 511 2 ∷ []

-- a byte rotated by a constant
abbrev pub rotates : List Case
rotates =
    by_constant u8 hir.rotate_left 18 0 18 ∷ by_constant u8 hir.rotate_left 18 4 33 ∷ by_constant u8 hir.rotate_left 18 5 66 ∷
    by_constant u8 hir.rotate_left 18 8 18 ∷ by_constant u8 hir.rotate_left 18 255 9 ∷
    by_constant u8 hir.rotate_right 18 0 18 ∷ by_constant u8 hir.rotate_right 18 4 33 ∷ by_constant u8 hir.rotate_right 18 5 144 ∷
    by_constant u8 hir.rotate_right 18 6 72 ∷ by_constant u8 hir.rotate_right 18 8 18 ∷ by_constant u8 hir.rotate_right 18 255 36 ∷
    binary u8 hir.rotate_left 18 255 9 ∷ binary u8 hir.rotate_right 18 255 36 ∷ []

-- saturation at both ends
abbrev pub saturations : List Case
saturations =
    binary u8 (hir.saturating_add hir.unsigned) 200 100 255 ∷ binary u8 (hir.saturating_add hir.unsigned) 200 50 250 ∷
    binary u8 (hir.saturating_add hir.signed) 100 100 127 ∷ binary u8 (hir.saturating_add hir.signed) 156 156 128 ∷ binary u8 (hir.saturating_add hir.signed) 255 1 0 ∷
    binary u8 (hir.saturating_subtract hir.unsigned) 3 5 0 ∷ binary u8 (hir.saturating_subtract hir.unsigned) 255 5 250 ∷
    binary u8 (hir.saturating_subtract hir.signed) 127 255 127 ∷ binary u8 (hir.saturating_subtract hir.signed) 128 1 128 ∷ binary u8 (hir.saturating_subtract hir.signed) 0 1 255 ∷
    binary u9 (hir.saturating_add hir.signed) 255 255 255 ∷ binary u9 (hir.saturating_subtract hir.signed) 256 255 256 ∷
    binary u64 (hir.saturating_add hir.unsigned) 18446744073709551615 1 18446744073709551615 ∷ []

-- each comparison
abbrev pub comparisons : List Case
comparisons =
    compares u8 hir.equal 7 7 1 ∷ compares u64 hir.equal 7 8 0 ∷ compares u8 hir.not_equal 7 7 0 ∷ compares u9 hir.not_equal 256 0 1 ∷
    compares u8 (hir.less_than hir.signed) 255 1 1 ∷ compares u8 (hir.less_than hir.unsigned) 255 1 0 ∷
    compares u8 (hir.less_than_or_equal hir.signed) 128 127 1 ∷ compares u8 (hir.less_than_or_equal hir.unsigned) 128 127 0 ∷
    compares u9 (hir.greater_than hir.signed) 256 255 0 ∷ compares u9 (hir.greater_than hir.unsigned) 256 255 1 ∷
    compares u64 (hir.greater_than_or_equal hir.signed) 9223372036854775808 0 0 ∷ compares u64 (hir.greater_than_or_equal hir.unsigned) 9223372036854775808 0 1 ∷ []

-- each conversion; a packed bool, a bool in a byte and a constant one
abbrev pub conversions : List Case
conversions =
    converts u16 u9 hir.truncate 65535 511 ∷ converts u16 u8 hir.truncate 4660 52 ∷ converts u8 u8 hir.truncate 200 200 ∷
    converts u8 u9 hir.zero_extend 200 200 ∷ converts u9 u64 hir.zero_extend 511 511 ∷
    converts u8 u9 hir.sign_extend 200 456 ∷ converts u9 u64 hir.sign_extend 511 18446744073709551615 ∷ converts u8 u32 hir.sign_extend 127 127 ∷
    record { expr = convert (of_type 1) hir.reinterpret (var_a u16); memory = memory 4660 0; result = number 2 4660 } ∷
    record { expr = convert (of_type 4) hir.reinterpret (read (of_type 1) (variable 13)); memory = memory 4660 0; result = number 2 4660 } ∷
    record { expr = convert (of_type 3) hir.boolean_to_integer (read (of_type 0) (variable 10)); memory = memory 0 0; result = number 2 1 } ∷
    record { expr = convert (of_type 3) hir.boolean_to_integer (read (of_type 0) (variable 11)); memory = memory 2 0; result = number 2 1 } ∷
    record { expr = convert (of_type 6) hir.boolean_to_integer (boolean (of_type 0) 1); memory = memory 0 0; result = number 8 1 } ∷
    record { expr = convert (of_type 0) hir.integer_to_boolean (var_a u9); memory = memory 256 0; result = flag 1 } ∷
    record { expr = convert (of_type 0) hir.integer_to_boolean (var_a u9); memory = memory 0 0; result = flag 0 } ∷ []

-- 12 as an element of an array
abbrev pub elements : List Case
elements =
    record {
      expr = integer_binary (of_type 2) hir.add (read (of_type 2) (element (variable 12) (int u8 2))) (read (of_type 2) (element (variable 12) (int u8 0)));
      memory = memory 787201 0;
      result = number 1 13;
    } ∷ []
