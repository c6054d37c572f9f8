-- `lower_integer_unary`, `lower_integer_binary`, `mask_location`.
use Rattle.std.specs.Prelude.{ℕ, zero, suc, ◌-◌, ◌%◌, ◌^◌, Bool, true, false, ◌&&◌, cond, List, [], ◌∷◌, eqb, leb, length, get_or}
use Rattle.std.specs.Prelude.{Option, None, Some}
use Rattle.spec.specs.Hir.{IntegerUnaryOp, IntegerBinaryOp}
use Rattle.spec.specs.Ticket.{Tables}
use Rattle.spec.specs.Lir.{ByteStorage, ByteOperand, immediate, stored, InstructionKind, RotateDirection, ShiftOp, Value, copy_byte, not_byte, byte_binary, add, subtract, rotate, shift_bytes, integer_unary_bytes, integer_binary_bytes, add_carry, subtract_borrow, negate_borrow}
use Rattle.spec.specs.Lir as lir
use Rattle.spec.specs.Monad.{Lower, ◌>>=◌, ◌>>◌, emit, emits}
use Rattle.spec.specs.Operands.{value_bytes, all_immediate, lowest_byte}
use Rattle.spec.specs.Allocation.{Location, integer_width, odd_bits, allocate_temporary, allocate_carry, bytes_at, location_bytes}
use Rattle.spec.specs.ReadBytes.{read_location}
use Rattle.spec.specs.Operators.{UnaryForm, negating, inverting, counting, unary_form, BinaryForm, adding, subtracting, bytewise, shifting, whole, binary_form, rotate_direction, opposite}

-- ---------------------------------------------------------------- loops over bytes: `zip` stops at the shortest list

unfoldable pub zip2 : (ℕ → ByteStorage → ByteOperand → InstructionKind) → ℕ → List ByteStorage → List ByteOperand → List InstructionKind
zip2 f i [] bs = []
zip2 f i (d ∷ ds) [] = []
zip2 f i (d ∷ ds) (b ∷ bs) = f i d b ∷ zip2 f (suc i) ds bs

unfoldable pub zip3 :
    (ℕ → ByteStorage → ByteOperand → ByteOperand → InstructionKind) → ℕ → List ByteStorage → List ByteOperand → List ByteOperand → List InstructionKind
zip3 f i [] ls rs = []
zip3 f i (d ∷ ds) [] rs = []
zip3 f i (d ∷ ds) (l ∷ ls) [] = []
zip3 f i (d ∷ ds) (l ∷ ls) (r ∷ rs) = f i d l r ∷ zip3 f (suc i) ds ls rs

-- in: not at the first byte; out: not at the last of n destinations
abbrev pub carry_in : ℕ → ℕ → Option ℕ
carry_in c zero = None
carry_in c (suc i) = Some c

abbrev pub carry_out : ℕ → ℕ → ℕ → Option ℕ
carry_out c n i = cond (eqb (suc i) n) None (Some c)

unfoldable pub adds : ℕ → List ByteStorage → List ByteOperand → List ByteOperand → List InstructionKind
adds c ds ls rs = zip3 (λ i d l r. add d l r (carry_in c i) (carry_out c (length ds) i)) 0 ds ls rs

unfoldable pub subtracts : ℕ → List ByteStorage → List ByteOperand → List ByteOperand → List InstructionKind
subtracts c ds ls rs = zip3 (λ i d l r. subtract d l r (carry_in c i) (carry_out c (length ds) i)) 0 ds ls rs

unfoldable pub negates : ℕ → List ByteStorage → List ByteOperand → List InstructionKind
negates c ds bs = zip2 (λ i d b. subtract d (immediate 0) b (carry_in c i) (carry_out c (length ds) i)) 0 ds bs

-- ---------------------------------------------------------------- the last byte of a type with odd bits

unfoldable pub masks : ℕ → List ByteStorage → List InstructionKind
masks zero ds = []
masks (suc k) [] = []
masks (suc k) (d ∷ []) = byte_binary lir.and d (stored d) (immediate (2 ^ suc k - 1)) ∷ []
masks (suc k) (d ∷ e ∷ ds) = masks (suc k) (e ∷ ds)

-- ---------------------------------------------------------------- a byte rotated by a constant

-- the first rotate reads the input, the others the destination
unfoldable pub rotates : RotateDirection → ByteStorage → ByteOperand → ℕ → List InstructionKind
rotates dir d x zero = []
rotates dir d x (suc n) = rotate dir d x ∷ rotates dir d (stored d) n

abbrev rotates_by : Bool → Bool → RotateDirection → ByteStorage → ByteOperand → ℕ → List InstructionKind
rotates_by true few dir d x amount = copy_byte d x ∷ []
rotates_by false true dir d x amount = rotates dir d x amount
rotates_by false false dir d x amount = rotates (opposite dir) d x (8 - amount)

-- by the shorter way round; a distance of 0 copies
unfoldable pub byte_rotates : RotateDirection → ByteStorage → ByteOperand → ℕ → List InstructionKind
byte_rotates dir d x amount = rotates_by (eqb amount 0) (leb amount 4) dir d x amount

unfoldable pub first_storage : List ByteStorage → ByteStorage
first_storage ds = get_or ds 0 (record { storage = 0; offset = 0 })

unfoldable pub first_operand : List ByteOperand → ByteOperand
first_operand bs = get_or bs 0 (immediate 0)

-- the Rust's `byte_rotate`: one byte, turned by a constant
unfoldable pub byte_rotate : ℕ → List ByteStorage → List ByteOperand → List ByteOperand → Bool
byte_rotate width ds l r = eqb width 8 && eqb (length ds) 1 && eqb (length l) 1 && all_immediate r

abbrev rotates_or_shift : Bool → RotateDirection → ShiftOp → ℕ → List ByteStorage → List ByteOperand → List ByteOperand → List InstructionKind
rotates_or_shift true dir op width ds l r = byte_rotates dir (first_storage ds) (first_operand l) (lowest_byte r % 8)
rotates_or_shift false dir op width ds l r = shift_bytes op width ds l r ∷ []

abbrev shifts_by : Option RotateDirection → ShiftOp → ℕ → List ByteStorage → List ByteOperand → List ByteOperand → List InstructionKind
shifts_by None op width ds l r = shift_bytes op width ds l r ∷ []
shifts_by (Some dir) op width ds l r = rotates_or_shift (byte_rotate width ds l r) dir op width ds l r

unfoldable pub shifts : ShiftOp → ℕ → List ByteStorage → List ByteOperand → List ByteOperand → List InstructionKind
shifts op width ds l r = shifts_by (rotate_direction op) op width ds l r

-- ---------------------------------------------------------------- the steps

module _ (T : Tables) where
  unfoldable pub mask_location : Location → Lower Unit
  mask_location l = emits (masks (odd_bits T l.ty) (bytes_at T l))

  unfoldable pub unary_instructions : UnaryForm → ℕ → List ByteStorage → List ByteOperand → Lower Unit
  unary_instructions negating ty ds input = do
    borrow ← allocate_carry negate_borrow
    emits (negates borrow ds input)
  unary_instructions inverting ty ds input = emits (zip2 (λ i d b. not_byte d b) 0 ds input)
  unary_instructions (counting op) ty ds input = do
    width ← integer_width T ty
    emit (integer_unary_bytes op width ds input)

  unfoldable pub lower_integer_unary : IntegerUnaryOp → Value → ℕ → Lower Value
  lower_integer_unary op operand ty = do
    input ← value_bytes operand
    temporary ← allocate_temporary T ty
    destinations ← location_bytes T temporary
    unary_instructions (unary_form op) ty destinations input
    mask_location temporary
    read_location T temporary

  unfoldable pub binary_instructions : BinaryForm → ℕ → List ByteStorage → List ByteOperand → List ByteOperand → Lower Unit
  binary_instructions adding ty ds l r = do
    carry ← allocate_carry add_carry
    emits (adds carry ds l r)
  binary_instructions subtracting ty ds l r = do
    borrow ← allocate_carry subtract_borrow
    emits (subtracts borrow ds l r)
  binary_instructions (bytewise op) ty ds l r = emits (zip3 (λ i d x y. byte_binary op d x y) 0 ds l r)
  binary_instructions (shifting op) ty ds l r = do
    width ← integer_width T ty
    emits (shifts op width ds l r)
  binary_instructions (whole op) ty ds l r = do
    width ← integer_width T ty
    emit (integer_binary_bytes op width ds l r)

  unfoldable pub lower_integer_binary : IntegerBinaryOp → Value → Value → ℕ → Lower Value
  lower_integer_binary op l r ty = do
    left ← value_bytes l
    right ← value_bytes r
    temporary ← allocate_temporary T ty
    destinations ← location_bytes T temporary
    binary_instructions (binary_form op) ty destinations left right
    mask_location temporary
    read_location T temporary
