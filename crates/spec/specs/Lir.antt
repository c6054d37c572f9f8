-- lir.rs and the values of lir_lower.rs: operands, instructions, storages, values, and the listing that holds them.
use Rattle.std.specs.Prelude.{ℕ, List, [], ◌∷◌, ◌++◌, map}
use Rattle.std.specs.Prelude.{Option}

-- ---------------------------------------------------------------- operands

-- a byte of a storage
pub record ByteStorage : Type 0 where
  pub storage : ℕ
  pub offset : ℕ

pub data ByteOperand : Type 0 where
  immediate : ℕ → ByteOperand
  stored : ByteStorage → ByteOperand

-- a constant bit is 0 or 1
pub data BitOperand : Type 0 where
  constant : ℕ → BitOperand
  stored_bit : ℕ → BitOperand

pub data ValueOperand : Type 0 where
  bit_operand : BitOperand → ValueOperand
  byte_operand : ByteOperand → ValueOperand

pub data ValueStorage : Type 0 where
  bit_storage : ℕ → ValueStorage
  byte_storage : ByteStorage → ValueStorage

-- ---------------------------------------------------------------- operators

pub data ByteBinaryOp : Type 0 where
  and or xor : ByteBinaryOp

pub data RotateDirection : Type 0 where
  left right : RotateDirection

pub data ShiftOp : Type 0 where
  shift_left shift_right_unsigned shift_right_signed rotate_left rotate_right : ShiftOp

pub data CompareOp : Type 0 where
  equal not_equal less_than_unsigned less_than_signed less_than_or_equal_unsigned less_than_or_equal_signed : CompareOp
  greater_than_unsigned greater_than_signed greater_than_or_equal_unsigned greater_than_or_equal_signed : CompareOp

pub data IntegerUnaryBytesOp : Type 0 where
  count_leading_zeros count_trailing_zeros population_count : IntegerUnaryBytesOp

pub data IntegerBinaryBytesOp : Type 0 where
  multiply divide_unsigned divide_signed remainder_unsigned remainder_signed : IntegerBinaryBytesOp
  saturating_add_unsigned saturating_add_signed saturating_subtract_unsigned saturating_subtract_signed : IntegerBinaryBytesOp

-- ---------------------------------------------------------------- instructions

-- of `InstructionKind`, the cases that `lower_expression` makes; `ByteUnary` is only made with Not, `Rotate` never through a carry
pub data InstructionKind : Type 0 where
  copy_byte not_byte : ByteStorage → ByteOperand → InstructionKind
  byte_binary : ByteBinaryOp → ByteStorage → ByteOperand → ByteOperand → InstructionKind
  add subtract : ByteStorage → ByteOperand → ByteOperand → Option ℕ → Option ℕ → InstructionKind
  rotate : RotateDirection → ByteStorage → ByteOperand → InstructionKind
  address_of : ByteStorage → ByteStorage → ℕ → ℕ → InstructionKind
  function_address : ByteStorage → ByteStorage → ℕ → InstructionKind
  shift_bytes : ShiftOp → ℕ → List ByteStorage → List ByteOperand → List ByteOperand → InstructionKind
  compare_bytes : CompareOp → ℕ → ℕ → List ByteOperand → List ByteOperand → InstructionKind
  select_byte : ByteStorage → BitOperand → ByteOperand → ByteOperand → InstructionKind
  select_bit : ℕ → BitOperand → BitOperand → BitOperand → InstructionKind
  bit_to_byte : ByteStorage → BitOperand → InstructionKind
  byte_to_bit : ℕ → ByteOperand → InstructionKind
  sign_extend : ℕ → List ByteStorage → List ByteOperand → InstructionKind
  integer_unary_bytes : IntegerUnaryBytesOp → ℕ → List ByteStorage → List ByteOperand → InstructionKind
  integer_binary_bytes : IntegerBinaryBytesOp → ℕ → List ByteStorage → List ByteOperand → List ByteOperand → InstructionKind

-- with the node whose own step appended it
pub record Instruction : Type 0 where
  pub kind : InstructionKind
  pub node : ℕ

-- ---------------------------------------------------------------- storages

pub data StorageKind : Type 0 where
  bit byte : StorageKind
  bytes : ℕ → StorageKind
  carry : StorageKind

-- what a storage's name begins with
pub data Purpose : Type 0 where
  tmp add_carry subtract_borrow negate_borrow pointer_carry compare integer_to_boolean condition read_bool select_bool : Purpose

-- a new storage: its number, its name as purpose and number, and the sum of 2 ^ k over the regions allowed
pub record Storage : Type 0 where
  pub id : ℕ
  pub kind : StorageKind
  pub purpose : Purpose
  pub number : ℕ
  pub regions : ℕ

-- ---------------------------------------------------------------- values

infixr 67 ◌∷ᵛ◌
mutual
  pub data Value : Type 0 where
    value : ℕ → Repr → Value

  pub data Repr : Type 0 where
    unit : Repr
    bit_value : BitOperand → Repr
    bytes_value : List ByteOperand → Repr
    aggregate : Values → Repr

  pub data Values : Type 0 where
    no_values : Values
    ◌∷ᵛ◌ : Value → Values → Values

unfoldable mutual
  pub flatten_value_operands : Value → List ValueOperand
  flatten_value_operands (value ty r) = flatten_repr r

  pub flatten_repr : Repr → List ValueOperand
  flatten_repr unit = []
  flatten_repr (bit_value b) = bit_operand b ∷ []
  flatten_repr (bytes_value bs) = map byte_operand bs
  flatten_repr (aggregate vs) = flatten_values vs

  pub flatten_values : Values → List ValueOperand
  flatten_values no_values = []
  flatten_values (v ∷ᵛ vs) = flatten_value_operands v ++ flatten_values vs

-- ---------------------------------------------------------------- the listing

-- the line `done`
pub record Done : Type 0 where
  pub instructions : ℕ
  pub storages : ℕ
  pub next : ℕ

pub record Listing : Type 0 where
  pub storages : List Storage
  pub narrowed : List ℕ
  pub instructions : List Instruction
  pub value : Value
  pub done : Done
