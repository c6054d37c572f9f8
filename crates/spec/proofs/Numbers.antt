-- The ticket's and the listing's numbers for names, computed: each OP, PURPOSE, KIND and regions' sum stands in the answer to a small ticket.
use Prim.Native.Nat.{ℕ, ◌-◌}
use Prim.Native.String.{String}
use mathlib.Core.Bool.{Bool, true}
use mathlib.Core.List.{List, [], ◌∷◌, ◌++◌, map}
use Rattle.std.specs.Prelude.{Option, None, Some}
use mathlib.Core.Path.{◌≡◌, refl}
use lib.ListN.{length}
use Rattle.spec.specs.Text.{text, bytes, digits, split, line_feed}
use Rattle.spec.specs.Hir.{integer_unary_ops, integer_binary_ops, compare_ops, conversion_ops}
use Rattle.spec.specs.Hir as hir
use Rattle.spec.specs.Ticket.{NodeWord}
use Rattle.spec.specs.Forms.{Field, up_to, Rule, node_rules, find}
use Rattle.spec.specs.Operands.{nth}
use Rattle.spec.specs.Answer.{answer, computing}
use Rattle.spec.proofs.Cases.{Case, gives, Hold}
use Rattle.spec.proofs.Readings02.{printed, has_line, all_true}

-- ---------------------------------------------------------------- OP

-- a number, the operator it stands for, and a line of the answer to the ticket with that OP
pub record Row (A : Type 0) : Type 0 where
  pub number : ℕ
  pub name : A
  pub line : String

abbrev row : {A : Type 0} → ℕ → A → String → Row A
row n a l = record { number = n; name = a; line = l }

-- as many rows as operators, and each number its operator's
abbrev Names : {A : Type 0} → List A → List (Row A) → Type 0
Names ops rows = (length ops ≡ length rows) × (map (λ r. nth ops r.number) rows ≡ map (λ r. Some r.name) rows)

-- types 2, 3 and 4 are bits 8, 9 and 16; then the lines given, and the root's, which is cut at its OP
abbrev ticket : List String → String → ℕ → String → List ℕ
ticket lines before op after =
    text ("f,0,0" ∷ "t,bool" ∷ "t,pointer" ∷ "t,bits,8" ∷ "t,bits,9" ∷ "t,bits,16" ∷ []) ++ text lines ++ bytes before ++ digits op ++ bytes after ++ 10 ∷ []

abbrev stands : List ℕ → String → Bool
stands t l = has_line (bytes l) (split line_feed (printed (answer t 65536)))

abbrev Lines : {A : Type 0} → (ℕ → List ℕ) → List (Row A) → Type 0
Lines t rows = all_true (map (λ r. stands (t r.number) r.line) rows) ≡ true

unfoldable pub unaries : List (Row hir.IntegerUnaryOp)
unaries =
    row 0 hir.negate "i,sub,0.0,#0,#3,-,-,1" ∷
    row 1 hir.not "i,not,0.0,#3,1" ∷
    row 2 hir.count_leading_zeros "i,unary,2,8,1,0.0,1,#3,1" ∷
    row 3 hir.count_trailing_zeros "i,unary,3,8,1,0.0,1,#3,1" ∷
    row 4 hir.population_count "i,unary,4,8,1,0.0,1,#3,1" ∷
    []

abbrev pub unary_ticket : ℕ → List ℕ
unary_ticket op = ticket ("n,2,int,3" ∷ []) "n,2,unary," op ",0"

pub unaries_named : Names integer_unary_ops unaries
unfolding unaries computing
unaries_named = (refl, refl)

pub unaries_hold : Lines unary_ticket unaries
unfolding unaries computing has_line
unaries_hold = refl

-- at 16 bits: a byte rotated by a constant is no `shift`
unfoldable pub binaries : List (Row hir.IntegerBinaryOp)
binaries =
    row 0 hir.add "i,add,0.0,#3,#2,-,1,2" ∷
    row 1 hir.subtract "i,sub,0.0,#3,#2,-,1,2" ∷
    row 2 hir.multiply "i,binary,2,16,2,0.0,0.1,2,#3,#0,2,#2,#0,2" ∷
    row 3 (hir.divide hir.signed) "i,binary,3,16,2,0.0,0.1,2,#3,#0,2,#2,#0,2" ∷
    row 4 (hir.divide hir.unsigned) "i,binary,4,16,2,0.0,0.1,2,#3,#0,2,#2,#0,2" ∷
    row 5 (hir.remainder hir.signed) "i,binary,5,16,2,0.0,0.1,2,#3,#0,2,#2,#0,2" ∷
    row 6 (hir.remainder hir.unsigned) "i,binary,6,16,2,0.0,0.1,2,#3,#0,2,#2,#0,2" ∷
    row 7 hir.and "i,and,0.0,#3,#2,2" ∷
    row 8 hir.or "i,or,0.0,#3,#2,2" ∷
    row 9 hir.xor "i,xor,0.0,#3,#2,2" ∷
    row 10 hir.shift_left "i,shift,0,16,2,0.0,0.1,2,#3,#0,2,#2,#0,2" ∷
    row 11 (hir.shift_right hir.signed) "i,shift,2,16,2,0.0,0.1,2,#3,#0,2,#2,#0,2" ∷
    row 12 (hir.shift_right hir.unsigned) "i,shift,1,16,2,0.0,0.1,2,#3,#0,2,#2,#0,2" ∷
    row 13 hir.rotate_left "i,shift,3,16,2,0.0,0.1,2,#3,#0,2,#2,#0,2" ∷
    row 14 hir.rotate_right "i,shift,4,16,2,0.0,0.1,2,#3,#0,2,#2,#0,2" ∷
    row 15 (hir.saturating_add hir.signed) "i,binary,15,16,2,0.0,0.1,2,#3,#0,2,#2,#0,2" ∷
    row 16 (hir.saturating_add hir.unsigned) "i,binary,16,16,2,0.0,0.1,2,#3,#0,2,#2,#0,2" ∷
    row 17 (hir.saturating_subtract hir.signed) "i,binary,17,16,2,0.0,0.1,2,#3,#0,2,#2,#0,2" ∷
    row 18 (hir.saturating_subtract hir.unsigned) "i,binary,18,16,2,0.0,0.1,2,#3,#0,2,#2,#0,2" ∷
    []

abbrev pub binary_ticket : ℕ → List ℕ
binary_ticket op = ticket ("n,4,int,3" ∷ "n,4,int,2" ∷ []) "n,4,binary," op ",0,1"

pub binaries_named : Names integer_binary_ops binaries
unfolding binaries computing
binaries_named = (refl, refl)

pub binaries_hold : Lines binary_ticket binaries
unfolding binaries computing has_line
binaries_hold = refl

-- 10 on are float
unfoldable pub comparisons : List (Row hir.CompareOp)
comparisons =
    row 0 hir.equal "i,compare,0,8,0,1,#3,1,#2,2" ∷
    row 1 hir.not_equal "i,compare,1,8,0,1,#3,1,#2,2" ∷
    row 2 (hir.less_than hir.signed) "i,compare,2,8,0,1,#3,1,#2,2" ∷
    row 3 (hir.less_than hir.unsigned) "i,compare,3,8,0,1,#3,1,#2,2" ∷
    row 4 (hir.less_than_or_equal hir.signed) "i,compare,4,8,0,1,#3,1,#2,2" ∷
    row 5 (hir.less_than_or_equal hir.unsigned) "i,compare,5,8,0,1,#3,1,#2,2" ∷
    row 6 (hir.greater_than hir.signed) "i,compare,6,8,0,1,#3,1,#2,2" ∷
    row 7 (hir.greater_than hir.unsigned) "i,compare,7,8,0,1,#3,1,#2,2" ∷
    row 8 (hir.greater_than_or_equal hir.signed) "i,compare,8,8,0,1,#3,1,#2,2" ∷
    row 9 (hir.greater_than_or_equal hir.unsigned) "i,compare,9,8,0,1,#3,1,#2,2" ∷
    row 10 hir.float_equal "refused,24,9" ∷
    row 11 hir.float_not_equal "refused,24,9" ∷
    row 12 hir.float_less_than "refused,24,9" ∷
    row 13 hir.float_less_than_or_equal "refused,24,9" ∷
    row 14 hir.float_greater_than "refused,24,9" ∷
    row 15 hir.float_greater_than_or_equal "refused,24,9" ∷
    []

abbrev pub compare_ticket : ℕ → List ℕ
compare_ticket op = ticket ("n,2,int,3" ∷ "n,2,int,2" ∷ []) "n,0,compare," op ",0,1"

pub comparisons_named : Names compare_ops comparisons
unfolding comparisons computing
comparisons_named = (refl, refl)

pub comparisons_hold : Lines compare_ticket comparisons
unfolding comparisons computing has_line
comparisons_hold = refl

-- 5 to 8: signed plain, signed saturating, unsigned plain, unsigned saturating
unfoldable pub conversions : List (Row hir.ConversionOp)
conversions =
    row 0 hir.truncate "i,copy,0.1,#0,1" ∷
    row 1 hir.zero_extend "i,copy,0.1,#0,1" ∷
    row 2 hir.sign_extend "i,sext,8,2,0.0,0.1,1,#3,1" ∷
    row 3 (hir.integer_to_float hir.signed) "refused,24,8" ∷
    row 4 (hir.integer_to_float hir.unsigned) "refused,24,8" ∷
    row 5 (hir.float_to_integer hir.signed hir.plain) "refused,24,8" ∷
    row 6 (hir.float_to_integer hir.signed hir.saturating) "refused,24,8" ∷
    row 7 (hir.float_to_integer hir.unsigned hir.plain) "refused,24,8" ∷
    row 8 (hir.float_to_integer hir.unsigned hir.saturating) "refused,24,8" ∷
    row 9 hir.promote_float "refused,24,8" ∷
    row 10 hir.demote_float "refused,24,8" ∷
    row 11 hir.reinterpret "refused,22,8" ∷
    row 12 hir.boolean_to_integer "refused,24,8" ∷
    row 13 hir.integer_to_boolean "i,compare,1,8,0,1,#3,1,#0,1" ∷
    []

-- from bits 8 to bits 9
abbrev pub convert_ticket : ℕ → List ℕ
convert_ticket op = ticket ("n,2,int,3" ∷ []) "n,3,convert," op ",0"

pub conversions_named : Names conversion_ops conversions
unfolding conversions computing
conversions_named = (refl, refl)

pub conversions_hold : Lines convert_ticket conversions
unfolding conversions computing has_line
conversions_hold = refl

-- what those lines leave open: Truncate drops bytes, and 11 and 12 where they are rightly typed
unfoldable pub converted : List Case
converted =
    gives
    ("f,0,0" ∷ "t,bool" ∷ "t,pointer" ∷ "t,bits,16" ∷ "t,bits,8" ∷ "n,2,int,515" ∷ "n,3,convert,0,0" ∷ [])
    ("value,3,bytes,1,#3" ∷ "done,0,0,0" ∷ []) ∷
    gives
    ("f,0,0" ∷ "t,bool" ∷ "t,pointer" ∷ "t,bits,16" ∷ "n,1,null" ∷ "n,2,convert,11,0" ∷ [])
    ("value,2,bytes,2,#0,#0" ∷ "done,0,0,0" ∷ []) ∷
    gives
    ("f,0,0" ∷ "t,bool" ∷ "t,pointer" ∷ "t,bits,16" ∷ "n,0,bool,1" ∷ "n,2,convert,12,0" ∷ [])
    ("storage,0,2,2,0,0,36" ∷ "i,bittobyte,0.0,#1,1" ∷ "i,copy,0.1,#0,1" ∷ "value,2,bytes,2,0.0,0.1" ∷ "done,2,1,1" ∷ []) ∷
    []

pub converted_hold : Hold converted
unfolding converted computing
converted_hold = refl

-- a line's OP goes to the end of its operators' list
abbrev op_field : Option (Rule NodeWord) → Option Field
op_field None = None
op_field (Some r) = nth r.fields 0

abbrev ends_with : {A : Type 0} → String → List A → Type 0
ends_with w ops = op_field (find node_rules (bytes w)) ≡ Some (up_to (length ops - 1))

pub as_many : ends_with "unary" integer_unary_ops × ends_with "binary" integer_binary_ops × ends_with "compare" compare_ops × ends_with "convert" conversion_ops
unfolding computing
as_many = (refl, refl, refl, refl)

-- the first OP that there is not
pub no_more_ops :
    all_true (
    stands (unary_ticket 5) "refused,3,8" ∷ stands (binary_ticket 19) "refused,3,9" ∷
    stands (compare_ticket 16) "refused,3,9" ∷ stands (convert_ticket 14) "refused,3,8" ∷ []) ≡ true
unfolding computing has_line
no_more_ops = refl

-- ---------------------------------------------------------------- PURPOSE, KIND and regions

-- PURPOSE 0 to 8 in order; temporaries and bits 36, a Bool temporary 100, carries 2
unfoldable pub storages : List Case
storages =
    -- 0 tmp, of two bytes and of one
    gives
    ("f,0,7" ∷ "t,bool" ∷ "t,pointer" ∷ "n,1,function,5" ∷ [])
    ("storage,0,2,2,0,7,36" ∷ "i,function,0.0,0.1,5,0" ∷ "value,1,bytes,2,0.0,0.1" ∷ "done,1,1,8" ∷ []) ∷
    gives
    ("f,0,0" ∷ "t,bool" ∷ "t,pointer" ∷ "t,bits,8" ∷ "n,2,int,3" ∷ "n,2,unary,1,0" ∷ [])
    ("storage,0,1,0,0,0,36" ∷ "i,not,0.0,#3,1" ∷ "value,2,bytes,1,0.0" ∷ "done,1,1,1" ∷ []) ∷
    -- 0 tmp, a Bool
    gives
    ("f,0,0" ∷ "t,bool" ∷ "t,pointer" ∷ "n,0,bool,1" ∷ "n,0,bool,0" ∷ "n,0,bool,1" ∷ "n,0,select,0,1,2" ∷ [])
    ("storage,0,0,0,0,0,100" ∷ "i,selbit,0,#1,#1,#0,3" ∷ "value,0,bit,0" ∷ "done,1,1,1" ∷ []) ∷
    -- 1 add_carry
    gives
    ("f,0,0" ∷ "t,bool" ∷ "t,pointer" ∷ "t,bits,8" ∷ "n,2,int,3" ∷ "n,2,int,2" ∷ "n,2,binary,0,0,1" ∷ [])
    ("storage,0,1,0,0,0,36" ∷ "storage,1,3,0,1,1,2" ∷ "i,add,0.0,#3,#2,-,-,2" ∷ "value,2,bytes,1,0.0" ∷ "done,1,2,2" ∷ []) ∷
    -- 2 subtract_borrow
    gives
    ("f,0,0" ∷ "t,bool" ∷ "t,pointer" ∷ "t,bits,8" ∷ "n,2,int,3" ∷ "n,2,int,2" ∷ "n,2,binary,1,0,1" ∷ [])
    ("storage,0,1,0,0,0,36" ∷ "storage,1,3,0,2,1,2" ∷ "i,sub,0.0,#3,#2,-,-,2" ∷ "value,2,bytes,1,0.0" ∷ "done,1,2,2" ∷ []) ∷
    -- 3 negate_borrow
    gives
    ("f,0,0" ∷ "t,bool" ∷ "t,pointer" ∷ "t,bits,8" ∷ "n,2,int,3" ∷ "n,2,unary,0,0" ∷ [])
    ("storage,0,1,0,0,0,36" ∷ "storage,1,3,0,3,1,2" ∷ "i,sub,0.0,#0,#3,-,-,1" ∷ "value,2,bytes,1,0.0" ∷ "done,1,2,2" ∷ []) ∷
    -- 4 pointer_carry
    gives
    ("f,0,0" ∷ "t,bool" ∷ "t,pointer" ∷ "t,bits,8" ∷ "n,1,null" ∷ "n,2,int,2" ∷ "n,1,offset,0,1" ∷ [])
    ("storage,0,2,2,0,0,36" ∷ "storage,1,3,0,4,1,2" ∷ "i,add,0.0,#0,#2,-,1,2" ∷ "i,add,0.1,#0,#0,1,-,2" ∷ "value,1,bytes,2,0.0,0.1" ∷ "done,2,2,2" ∷ []) ∷
    -- 5 compare
    gives
    ("f,0,0" ∷ "t,bool" ∷ "t,pointer" ∷ "t,bits,8" ∷ "n,2,int,3" ∷ "n,2,int,2" ∷ "n,0,compare,0,0,1" ∷ [])
    ("storage,0,0,0,5,0,36" ∷ "i,compare,0,8,0,1,#3,1,#2,2" ∷ "value,0,bit,0" ∷ "done,1,1,1" ∷ []) ∷
    -- 6 integer_to_boolean
    gives
    ("f,0,0" ∷ "t,bool" ∷ "t,pointer" ∷ "t,bits,8" ∷ "n,2,int,3" ∷ "n,0,convert,13,0" ∷ [])
    ("storage,0,0,0,6,0,36" ∷ "i,compare,1,8,0,1,#3,1,#0,1" ∷ "value,0,bit,0" ∷ "done,1,1,1" ∷ []) ∷
    -- 7 condition
    gives
    ("f,0,0" ∷ "t,bool" ∷ "t,pointer" ∷ "t,bits,8" ∷ "n,2,int,1" ∷ "n,2,int,2" ∷ "n,2,int,3" ∷ "n,2,select,0,1,2" ∷ [])
    ("storage,0,0,0,7,0,36" ∷ "storage,1,1,0,0,1,36" ∷ "i,compare,1,8,0,1,#3,1,#0,3" ∷ "i,selbyte,1.0,0,#1,#2,3" ∷ "value,2,bytes,1,1.0" ∷ "done,2,2,2" ∷ []) ∷
    -- 8 read_bool
    gives
    ("f,0,0" ∷ "t,bool" ∷ "t,pointer" ∷ "s,1,0,1,36" ∷ "v,0,0,0,0" ∷ "p,variable,0" ∷ "n,0,read,0" ∷ [])
    ("storage,1,0,0,8,0,36" ∷ "i,bytetobit,1,0.0,0" ∷ "value,0,bit,1" ∷ "done,1,1,1" ∷ []) ∷
    []

pub storages_hold : Hold storages
unfolding storages computing
storages_hold = refl

-- ---------------------------------------------------------------- narrowed

unfoldable pub narrowings : List Case
narrowings =
    -- a function's own storage, of any regions
    gives
    ("f,0,0" ∷ "t,bool" ∷ "t,pointer" ∷ "s,1,0,1,4" ∷ "v,0,0,0,0" ∷ "p,variable,0" ∷ "n,1,address,0" ∷ [])
    ("storage,1,2,2,0,0,36" ∷ "narrowed,0" ∷ "i,address,1.0,1.1,0,0,0" ∷ "value,1,bytes,2,1.0,1.1" ∷ "done,1,1,1" ∷ []) ∷
    -- the program's: none
    gives
    ("f,0,0" ∷ "t,bool" ∷ "t,pointer" ∷ "s,1,0,0,36" ∷ "v,0,0,0,0" ∷ "p,variable,0" ∷ "n,1,address,0" ∷ [])
    ("storage,1,2,2,0,0,36" ∷ "i,address,1.0,1.1,0,0,0" ∷ "value,1,bytes,2,1.0,1.1" ∷ "done,1,1,1" ∷ []) ∷
    -- ascending, and once each: 2, 0 and 2 are taken, 1 is the program's
    gives
    ("f,0,0" ∷ "t,bool" ∷ "t,pointer" ∷ "t,struct,1,1,1,1" ∷ "s,1,0,1,36" ∷ "s,1,0,0,36" ∷ "s,1,0,1,36" ∷ "g,2,0,0,0" ∷ "g,0,9,0,0" ∷ "g,1,0,0,0" ∷
    "n,1,staticaddress,0,3" ∷ "n,1,staticaddress,1,0" ∷ "n,1,staticaddress,2,0" ∷ "n,1,staticaddress,0,0" ∷ "n,2,aggregate,0,1,2,3" ∷ [])
    ("storage,3,2,2,0,0,36" ∷ "storage,4,2,2,0,1,36" ∷ "storage,5,2,2,0,2,36" ∷ "storage,6,2,2,0,3,36" ∷ "narrowed,0" ∷ "narrowed,2" ∷
    "i,address,3.0,3.1,2,3,0" ∷ "i,address,4.0,4.1,0,0,1" ∷ "i,address,5.0,5.1,1,0,2" ∷ "i,address,6.0,6.1,2,0,3" ∷
    "value,2,aggregate,4" ∷ "value,1,bytes,2,3.0,3.1" ∷ "value,1,bytes,2,4.0,4.1" ∷ "value,1,bytes,2,5.0,5.1" ∷ "value,1,bytes,2,6.0,6.1" ∷ "done,4,4,4" ∷ []) ∷
    []

pub narrowings_hold : Hold narrowings
unfolding narrowings computing
narrowings_hold = refl
