-- A listing read back from its text: lines into fields, fields into operands. What is not in document 01's form reads as nothing.
use Rattle.std.specs.Prelude.{ℕ, zero, suc, true, false, List, [], ◌∷◌, ◌++◌, eqb, length}
use Prim.Native.String.{String}
use Rattle.std.specs.Prelude.{Option, None, Some}
use Rattle.spec.specs.Text.{same, split, numeral, line_feed, comma}
use Rattle.spec.specs.Text as text
use Rattle.spec.specs.Lir
use Rattle.spec.specs.Lir.{◌∷ᵛ◌}

-- ---------------------------------------------------------------- readers

-- what was read, and what is left
pub record Got (S A : Type 0) : Type 0 where
  pub it : A
  pub rest : List S

-- a reader of items S: fields of a line, or lines of a listing
abbrev pub Reader : Type 0 → Type 0 → Type 0
Reader S A = List S → Option (Got S A)

unfoldable pub then : {S A B : Type 0} → Option (Got S A) → (A → Reader S B) → Option (Got S B)
then None f = None
then (Some g) f = f g.it g.rest

infixl 20 ◌>>=◌
unfoldable pub ◌>>=◌ : {S A B : Type 0} → Reader S A → (A → Reader S B) → Reader S B
◌>>=◌ m f = λ xs. then (m xs) f

unfoldable pub pure : {S A : Type 0} → A → Reader S A
pure a = λ xs. Some (record { it = a; rest = xs })

abbrev with_rest : {S A : Type 0} → List S → Option A → Option (Got S A)
with_rest xs None = None
with_rest xs (Some a) = Some (record { it = a; rest = xs })

-- the next item, as f reads it
unfoldable pub next : {S A : Type 0} → (S → Option A) → Reader S A
next f [] = None
next f (x ∷ xs) = with_rest xs (f x)

unfoldable pub times : {S A : Type 0} → ℕ → Reader S A → Reader S (List A)
times zero m = pure []
times (suc n) m = do
  a ← m
  l ← times n m
  pure (a ∷ l)

abbrev all_of : {S A : Type 0} → Option (Got S A) → Option A
all_of None = None
all_of (Some g) = elim g.rest [ [] ↦ Some g.it | x ∷ xs ↦ None ]

-- m, with nothing left over
unfoldable pub whole : {S A : Type 0} → Reader S A → List S → Option A
whole m xs = all_of (m xs)

abbrev pub Field : Type 0
Field = List ℕ

-- the n-th of a list that has gaps, as an operator by its number
unfoldable pub nth : {A : Type 0} → List (Option A) → ℕ → Option A
nth [] n = None
nth (x ∷ xs) zero = x
nth (x ∷ xs) (suc n) = nth xs n

-- ---------------------------------------------------------------- fields

unfoldable pub number : Reader Field ℕ
number = next numeral

abbrev pair_of : Option ℕ → Option ℕ → Option Lir.ByteStorage
pair_of None b = None
pair_of (Some a) None = None
pair_of (Some a) (Some b) = Some (record { storage = a; offset = b })

abbrev byte_storage_parts : List (List ℕ) → Option Lir.ByteStorage
byte_storage_parts [] = None
byte_storage_parts (a ∷ []) = None
byte_storage_parts (a ∷ b ∷ []) = pair_of (numeral a) (numeral b)
byte_storage_parts (a ∷ b ∷ c ∷ cs) = None

-- `3.1`
unfoldable pub byte_storage_of : Field → Option Lir.ByteStorage
byte_storage_of f = byte_storage_parts (split 46 f)

abbrev pub mapped : {A B : Type 0} → (A → B) → Option A → Option B
mapped f None = None
mapped f (Some a) = Some (f a)

-- `#7` or `3.1`
unfoldable pub byte_operand_of : Field → Option Lir.ByteOperand
byte_operand_of [] = None
byte_operand_of (b ∷ f) = elim (eqb b 35) [ true ↦ mapped Lir.immediate (numeral f) | false ↦ mapped Lir.stored (byte_storage_of (b ∷ f)) ]

-- `#1` or `3`
unfoldable pub bit_operand_of : Field → Option Lir.BitOperand
bit_operand_of [] = None
bit_operand_of (b ∷ f) = elim (eqb b 35) [ true ↦ mapped Lir.constant (numeral f) | false ↦ mapped Lir.stored_bit (numeral (b ∷ f)) ]

-- `-` or `3`
unfoldable pub carry_of : Field → Option (Option ℕ)
carry_of [] = None
carry_of (b ∷ f) = elim (same (b ∷ f) (45 ∷ [])) [ true ↦ Some None | false ↦ mapped Some (numeral (b ∷ f)) ]

abbrev pub byte_storage : Reader Field Lir.ByteStorage
byte_storage = next byte_storage_of

abbrev pub byte_operand : Reader Field Lir.ByteOperand
byte_operand = next byte_operand_of

abbrev pub bit_operand : Reader Field Lir.BitOperand
bit_operand = next bit_operand_of

abbrev pub carry : Reader Field (Option ℕ)
carry = next carry_of

-- a count, then as many items
unfoldable pub listed : {A : Type 0} → Reader Field A → Reader Field (List A)
listed m = do
  n ← number
  times n m

abbrev pub chosen : {A : Type 0} → Option A → Reader Field A
chosen None = λ xs. None
chosen (Some a) = pure a

-- an operator by its number in the list
unfoldable pub one_of : {A : Type 0} → List (Option A) → Reader Field A
one_of ops = do
  n ← number
  chosen (nth ops n)

unfoldable pub shift_ops : List (Option Lir.ShiftOp)
shift_ops = Some Lir.shift_left ∷ Some Lir.shift_right_unsigned ∷ Some Lir.shift_right_signed ∷ Some Lir.rotate_left ∷ Some Lir.rotate_right ∷ []

unfoldable pub compare_ops : List (Option Lir.CompareOp)
compare_ops =
    Some Lir.equal ∷ Some Lir.not_equal ∷
    Some Lir.less_than_signed ∷ Some Lir.less_than_unsigned ∷ Some Lir.less_than_or_equal_signed ∷ Some Lir.less_than_or_equal_unsigned ∷
    Some Lir.greater_than_signed ∷ Some Lir.greater_than_unsigned ∷ Some Lir.greater_than_or_equal_signed ∷ Some Lir.greater_than_or_equal_unsigned ∷ []

unfoldable pub unary_ops : List (Option Lir.IntegerUnaryBytesOp)
unary_ops = None ∷ None ∷ Some Lir.count_leading_zeros ∷ Some Lir.count_trailing_zeros ∷ Some Lir.population_count ∷ []

unfoldable pub binary_ops : List (Option Lir.IntegerBinaryBytesOp)
binary_ops =
    None ∷ None ∷ Some Lir.multiply ∷ Some Lir.divide_signed ∷ Some Lir.divide_unsigned ∷ Some Lir.remainder_signed ∷ Some Lir.remainder_unsigned ∷
    None ∷ None ∷ None ∷ None ∷ None ∷ None ∷ None ∷ None ∷
    Some Lir.saturating_add_signed ∷ Some Lir.saturating_add_unsigned ∷ Some Lir.saturating_subtract_signed ∷ Some Lir.saturating_subtract_unsigned ∷ []

unfoldable pub purposes : List (Option Lir.Purpose)
purposes =
    Some Lir.tmp ∷ Some Lir.add_carry ∷ Some Lir.subtract_borrow ∷ Some Lir.negate_borrow ∷ Some Lir.pointer_carry ∷
    Some Lir.compare ∷ Some Lir.integer_to_boolean ∷ Some Lir.condition ∷ Some Lir.read_bool ∷ Some Lir.select_bool ∷ []

-- ---------------------------------------------------------------- instructions

unfoldable pub moved : (Lir.ByteStorage → Lir.ByteOperand → Lir.InstructionKind) → Reader Field Lir.InstructionKind
moved k = do
  d ← byte_storage
  s ← byte_operand
  pure (k d s)

unfoldable pub byte_binary : Lir.ByteBinaryOp → Reader Field Lir.InstructionKind
byte_binary op = do
  d ← byte_storage
  l ← byte_operand
  r ← byte_operand
  pure (Lir.byte_binary op d l r)

unfoldable pub carried : (Lir.ByteStorage → Lir.ByteOperand → Lir.ByteOperand → Option ℕ → Option ℕ → Lir.InstructionKind) → Reader Field Lir.InstructionKind
carried k = do
  d ← byte_storage
  l ← byte_operand
  r ← byte_operand
  i ← carry
  o ← carry
  pure (k d l r i o)

unfoldable pub address : Reader Field Lir.InstructionKind
address = do
  low ← byte_storage
  high ← byte_storage
  s ← number
  o ← number
  pure (Lir.address_of low high s o)

unfoldable pub function : Reader Field Lir.InstructionKind
function = do
  low ← byte_storage
  high ← byte_storage
  f ← number
  pure (Lir.function_address low high f)

unfoldable pub shift : Reader Field Lir.InstructionKind
shift = do
  op ← one_of shift_ops
  w ← number
  ds ← listed byte_storage
  v ← listed byte_operand
  a ← listed byte_operand
  pure (Lir.shift_bytes op w ds v a)

unfoldable pub compare : Reader Field Lir.InstructionKind
compare = do
  op ← one_of compare_ops
  w ← number
  d ← number
  l ← listed byte_operand
  r ← listed byte_operand
  pure (Lir.compare_bytes op w d l r)

unfoldable pub select_byte : Reader Field Lir.InstructionKind
select_byte = do
  d ← byte_storage
  c ← bit_operand
  t ← byte_operand
  f ← byte_operand
  pure (Lir.select_byte d c t f)

unfoldable pub select_bit : Reader Field Lir.InstructionKind
select_bit = do
  d ← number
  c ← bit_operand
  t ← bit_operand
  f ← bit_operand
  pure (Lir.select_bit d c t f)

unfoldable pub bit_to_byte : Reader Field Lir.InstructionKind
bit_to_byte = do
  d ← byte_storage
  s ← bit_operand
  pure (Lir.bit_to_byte d s)

unfoldable pub byte_to_bit : Reader Field Lir.InstructionKind
byte_to_bit = do
  d ← number
  s ← byte_operand
  pure (Lir.byte_to_bit d s)

unfoldable pub sign_extend : Reader Field Lir.InstructionKind
sign_extend = do
  w ← number
  ds ← listed byte_storage
  s ← listed byte_operand
  pure (Lir.sign_extend w ds s)

unfoldable pub integer_unary : Reader Field Lir.InstructionKind
integer_unary = do
  op ← one_of unary_ops
  w ← number
  ds ← listed byte_storage
  s ← listed byte_operand
  pure (Lir.integer_unary_bytes op w ds s)

unfoldable pub integer_binary : Reader Field Lir.InstructionKind
integer_binary = do
  op ← one_of binary_ops
  w ← number
  ds ← listed byte_storage
  l ← listed byte_operand
  r ← listed byte_operand
  pure (Lir.integer_binary_bytes op w ds l r)

-- a word, and the reader of the fields behind it
pub record Word (A : Type 0) : Type 0 where
  pub name : String
  pub reads : Reader Field A

abbrev word : {A : Type 0} → String → Reader Field A → Word A
word w m = record { name = w; reads = m }

unfoldable pub instruction_words : List (Word Lir.InstructionKind)
instruction_words =
    word "copy" (moved Lir.copy_byte) ∷
    word "not" (moved Lir.not_byte) ∷
    word "and" (byte_binary Lir.and) ∷
    word "or" (byte_binary Lir.or) ∷
    word "xor" (byte_binary Lir.xor) ∷
    word "add" (carried Lir.add) ∷
    word "sub" (carried Lir.subtract) ∷
    word "rol" (moved (Lir.rotate Lir.left)) ∷
    word "ror" (moved (Lir.rotate Lir.right)) ∷
    word "address" address ∷
    word "function" function ∷
    word "shift" shift ∷
    word "compare" compare ∷
    word "selbyte" select_byte ∷
    word "selbit" select_bit ∷
    word "bittobyte" bit_to_byte ∷
    word "bytetobit" byte_to_bit ∷
    word "sext" sign_extend ∷
    word "unary" integer_unary ∷
    word "binary" integer_binary ∷
    []

unfoldable pub find : {A : Type 0} → List (Word A) → Field → Reader Field A
find [] f = λ xs. None
find (w ∷ ws) f = elim (same (text.bytes w.name) f) [ true ↦ w.reads | false ↦ find ws f ]

-- a word of the list, then its fields
unfoldable pub headed : {A : Type 0} → List (Word A) → Reader Field A
headed ws [] = None
headed ws (f ∷ fs) = find ws f fs

abbrev pub instruction_kind : Reader Field Lir.InstructionKind
instruction_kind = headed instruction_words

-- ---------------------------------------------------------------- lines

abbrev pub Line : Type 0
Line = List Field

-- a line that begins with a word, its fields read by m
unfoldable pub line_of : {A : Type 0} → String → Reader Field A → Line → Option A
line_of w m [] = None
line_of w m (f ∷ fs) = elim (same (text.bytes w) f) [ true ↦ whole m fs | false ↦ None ]

abbrev more : {A : Type 0} → A → Got Line (List A) → Got Line (List A)
more a g = record { it = a ∷ g.it; rest = g.rest }

-- as many lines as f reads, then the rest
unfoldable pub lines_of : {A : Type 0} → (Line → Option A) → List Line → Got Line (List A)
lines_of f [] = record { it = []; rest = [] }
lines_of f (l ∷ ls) = elim (f l) [ None ↦ record { it = []; rest = l ∷ ls } | Some a ↦ more a (lines_of f ls) ]

unfoldable pub several : {A : Type 0} → (Line → Option A) → Reader Line (List A)
several f ls = Some (lines_of f ls)

-- KIND and LENGTH: a length only where there are several bytes
unfoldable pub kind_of : ℕ → ℕ → Option Lir.StorageKind
kind_of zero zero = Some Lir.bit
kind_of zero (suc n) = None
kind_of (suc zero) zero = Some Lir.byte
kind_of (suc zero) (suc n) = None
kind_of (suc (suc zero)) n = Some (Lir.bytes n)
kind_of (suc (suc (suc zero))) zero = Some Lir.carry
kind_of (suc (suc (suc zero))) (suc n) = None
kind_of (suc (suc (suc (suc k)))) n = None

unfoldable pub storage : Reader Field Lir.Storage
storage = do
  id ← number
  k ← number
  n ← number
  kind ← chosen (kind_of k n)
  purpose ← one_of purposes
  m ← number
  regions ← number
  pure (record { id = id; kind = kind; purpose = purpose; number = m; regions = regions })

unfoldable pub instruction : Reader Field Lir.Instruction
instruction = do
  k ← instruction_kind
  n ← number
  pure (record { kind = k; node = n })

unfoldable pub done : Reader Field Lir.Done
done = do
  i ← number
  s ← number
  n ← number
  pure (record { instructions = i; storages = s; next = n })

-- ---------------------------------------------------------------- values

-- a value's own line: without parts, or the number of its parts
pub data Shape : Type 0 where
  plain : Lir.Repr → Shape
  parted : ℕ → Shape

pub record Top : Type 0 where
  pub ty : ℕ
  pub shape : Shape

unfoldable pub bit_shape : Reader Field Shape
bit_shape = do
  b ← bit_operand
  pure (plain (Lir.bit_value b))

unfoldable pub bytes_shape : Reader Field Shape
bytes_shape = do
  bs ← listed byte_operand
  pure (plain (Lir.bytes_value bs))

unfoldable pub aggregate_shape : Reader Field Shape
aggregate_shape = do
  n ← number
  pure (parted n)

unfoldable pub shape_words : List (Word Shape)
shape_words = word "unit" (pure (plain Lir.unit)) ∷ word "bit" bit_shape ∷ word "bytes" bytes_shape ∷ word "aggregate" aggregate_shape ∷ []

abbrev pub shape : Reader Field Shape
shape = headed shape_words

unfoldable pub top : Reader Field Top
top = do
  ty ← number
  s ← shape
  pure (record { ty = ty; shape = s })

unfoldable pub values : Reader Line Lir.Value → ℕ → Reader Line Lir.Values
values m zero = pure Lir.no_values
values m (suc n) = do
  v ← m
  vs ← values m n
  pure (v ∷ᵛ vs)

-- a value of which the own line has been read; m reads a part
unfoldable pub shaped : Reader Line Lir.Value → ℕ → Shape → Reader Line Lir.Value
shaped m ty (plain r) = pure (Lir.value ty r)
shaped m ty (parted n) = do
  vs ← values m n
  pure (Lir.value ty (Lir.aggregate vs))

-- a value as deep as k
unfoldable pub value : ℕ → Reader Line Lir.Value
value zero = λ ls. None
value (suc k) = do
  t ← next (line_of "value" top)
  shaped (value k) t.ty t.shape

-- ---------------------------------------------------------------- the listing

unfoldable pub listing : ℕ → Reader Line Lir.Listing
listing k = do
  ss ← several (line_of "storage" storage)
  ns ← several (line_of "narrowed" number)
  is ← several (line_of "i" instruction)
  v ← value k
  d ← next (line_of "done" done)
  pure (record { storages = ss; narrowed = ns; instructions = is; value = v; done = d })

unfoldable pub fields_of_lines : List (List ℕ) → List Line
fields_of_lines [] = []
fields_of_lines (l ∷ ls) = split comma l ∷ fields_of_lines ls

-- the lines of a text that ends in a line feed
unfoldable pub lines_in : List (List ℕ) → Option (List (List ℕ))
lines_in [] = None
lines_in (l ∷ []) = elim l [ [] ↦ Some [] | x ∷ xs ↦ None ]
lines_in (l ∷ m ∷ ls) = mapped (λ ks. l ∷ ks) (lines_in (m ∷ ls))

-- the lines of a text, each as its fields
unfoldable pub lines : List ℕ → Option (List Line)
lines s = mapped fields_of_lines (lines_in (split line_feed s))

-- no value is deeper than there are lines
abbrev read_lines : Option (List Line) → Option Lir.Listing
read_lines None = None
read_lines (Some ls) = whole (listing (length ls)) ls

unfoldable pub read_listing : List ℕ → Option Lir.Listing
read_listing s = read_lines (lines s)

-- ---------------------------------------------------------------- without the nodes

unfoldable pub but_last : {A : Type 0} → List A → List A
but_last [] = []
but_last (x ∷ []) = []
but_last (x ∷ y ∷ xs) = x ∷ but_last (y ∷ xs)

-- a line's text, an instruction's without its last field
unfoldable pub plain_line : Line → List ℕ
plain_line [] = line_feed ∷ []
plain_line (f ∷ fs) = elim (same (text.bytes "i") f) [ true ↦ text.line f (but_last fs) | false ↦ text.line f fs ]

unfoldable pub plain_lines : List Line → List ℕ
plain_lines [] = []
plain_lines (l ∷ ls) = plain_line l ++ plain_lines ls

abbrev pub plain_of : Option (List Line) → List ℕ
plain_of None = []
plain_of (Some ls) = plain_lines ls

-- a listing's text, each instruction's line without its node
unfoldable pub without_nodes : List ℕ → List ℕ
without_nodes s = plain_of (lines s)
