-- What the code's operands, instructions and storages stand for.
use Rattle.std.specs.Prelude.{ℕ, zero, suc, ◌+◌, ◌/◌, ◌%◌, ◌^◌, ◌≤◌, Bool, true, false, List, ◌∷◌, [], ltb}
use Rattle.std.specs.Prelude.{Option, None, Some}
use Rattle.spec.specs.Lir as lir
use Rattle.spec.specs.Allocation.{bytes_from}
use Rattle.lir.specs.declared.ByteStorage.{ByteStorage}
use Rattle.lir.specs.declared.ByteOperand.{ByteOperand}
use Rattle.lir.specs.declared.BitOperand.{BitOperand}
use Rattle.lir.specs.declared.StorageId.{StorageId}
use Rattle.lir.specs.declared.Source.{Source}
use Rattle.lir.specs.declared.Bytes.{Bytes}
use Rattle.lir.specs.declared.Destinations.{Destinations}
use Rattle.lir.specs.declared.ByteBinaryOp.{ByteBinaryOp}
use Rattle.lir.specs.declared.RotateDirection.{RotateDirection}
use Rattle.lir.specs.declared.ShiftOp.{ShiftOp}
use Rattle.lir.specs.declared.CompareOp.{CompareOp}
use Rattle.lir.specs.declared.IntegerUnaryBytesOp.{IntegerUnaryBytesOp}
use Rattle.lir.specs.declared.IntegerBinaryBytesOp.{IntegerBinaryBytesOp}
use Rattle.lir.specs.declared.InstructionKind.{InstructionKind}
use Rattle.lir.specs.declared.Instruction.{Instruction}
use Rattle.lir.specs.declared.StorageKind.{StorageKind}
use Rattle.lir.specs.declared.Purpose.{Purpose}
use Rattle.lir.specs.declared.NewStorage.{NewStorage}

abbrev pub pick : {A : Type 0} → Bool → A → A → A
pick true x y = x
pick false x y = y

-- f i, f (i + 1), .. n of them
unfoldable pub tab : {A : Type 0} → (ℕ → A) → ℕ → ℕ → List A
tab f i zero = []
tab f i (suc n) = f i ∷ tab f (suc i) n

-- ---------------------------------------------------------------- operands

abbrev pub byte_storage_of : ByteStorage → lir.ByteStorage
byte_storage_of b = record { storage = b.storage.0; offset = b.offset }

abbrev pub byte_operand_of : ByteOperand → lir.ByteOperand
byte_operand_of (ByteOperand.Immediate n) = lir.immediate n
byte_operand_of (ByteOperand.Storage b) = lir.stored (byte_storage_of b)

abbrev pub bit_operand_of : BitOperand → lir.BitOperand
bit_operand_of (BitOperand.Constant n) = lir.constant n
bit_operand_of (BitOperand.Storage s) = lir.stored_bit s.0

abbrev pub carry_of : Option StorageId → Option ℕ
carry_of None = None
carry_of (Some s) = Some s.0

abbrev pub source_byte : Source → ℕ → lir.ByteOperand
source_byte (Source.Constant n) i = lir.immediate (n / 256 ^ i % 256)
source_byte (Source.Storage b) i = lir.stored (record { storage = b.storage.0; offset = b.offset + i })

-- byte i of a value: a zero behind the run
abbrev pub byte_at : Bytes → ℕ → lir.ByteOperand
byte_at b i = pick (ltb i b.count) (source_byte b.source i) (lir.immediate 0)

unfoldable pub bytes_of : Bytes → List lir.ByteOperand
bytes_of b = tab (byte_at b) 0 b.total

abbrev pub destinations_of : Destinations → List lir.ByteStorage
destinations_of d = bytes_from d.storage.0 0 d.count

-- ---------------------------------------------------------------- operators

abbrev pub byte_binary_op_of : ByteBinaryOp → lir.ByteBinaryOp
byte_binary_op_of ByteBinaryOp.And = lir.and
byte_binary_op_of ByteBinaryOp.Or = lir.or
byte_binary_op_of ByteBinaryOp.Xor = lir.xor

abbrev pub rotate_direction_of : RotateDirection → lir.RotateDirection
rotate_direction_of RotateDirection.Left = lir.left
rotate_direction_of RotateDirection.Right = lir.right

abbrev pub shift_op_of : ShiftOp → lir.ShiftOp
shift_op_of ShiftOp.Left = lir.shift_left
shift_op_of ShiftOp.RightUnsigned = lir.shift_right_unsigned
shift_op_of ShiftOp.RightSigned = lir.shift_right_signed
shift_op_of ShiftOp.RotateLeft = lir.rotate_left
shift_op_of ShiftOp.RotateRight = lir.rotate_right

abbrev pub compare_op_of : CompareOp → lir.CompareOp
compare_op_of CompareOp.Equal = lir.equal
compare_op_of CompareOp.NotEqual = lir.not_equal
compare_op_of CompareOp.LessThanUnsigned = lir.less_than_unsigned
compare_op_of CompareOp.LessThanSigned = lir.less_than_signed
compare_op_of CompareOp.LessThanOrEqualUnsigned = lir.less_than_or_equal_unsigned
compare_op_of CompareOp.LessThanOrEqualSigned = lir.less_than_or_equal_signed
compare_op_of CompareOp.GreaterThanUnsigned = lir.greater_than_unsigned
compare_op_of CompareOp.GreaterThanSigned = lir.greater_than_signed
compare_op_of CompareOp.GreaterThanOrEqualUnsigned = lir.greater_than_or_equal_unsigned
compare_op_of CompareOp.GreaterThanOrEqualSigned = lir.greater_than_or_equal_signed

abbrev pub unary_op_of : IntegerUnaryBytesOp → lir.IntegerUnaryBytesOp
unary_op_of IntegerUnaryBytesOp.CountLeadingZeros = lir.count_leading_zeros
unary_op_of IntegerUnaryBytesOp.CountTrailingZeros = lir.count_trailing_zeros
unary_op_of IntegerUnaryBytesOp.PopulationCount = lir.population_count

abbrev pub binary_op_of : IntegerBinaryBytesOp → lir.IntegerBinaryBytesOp
binary_op_of IntegerBinaryBytesOp.Multiply = lir.multiply
binary_op_of IntegerBinaryBytesOp.DivideUnsigned = lir.divide_unsigned
binary_op_of IntegerBinaryBytesOp.DivideSigned = lir.divide_signed
binary_op_of IntegerBinaryBytesOp.RemainderUnsigned = lir.remainder_unsigned
binary_op_of IntegerBinaryBytesOp.RemainderSigned = lir.remainder_signed
binary_op_of IntegerBinaryBytesOp.SaturatingAddUnsigned = lir.saturating_add_unsigned
binary_op_of IntegerBinaryBytesOp.SaturatingAddSigned = lir.saturating_add_signed
binary_op_of IntegerBinaryBytesOp.SaturatingSubtractUnsigned = lir.saturating_subtract_unsigned
binary_op_of IntegerBinaryBytesOp.SaturatingSubtractSigned = lir.saturating_subtract_signed

-- ---------------------------------------------------------------- instructions

abbrev pub kind_of : InstructionKind → lir.InstructionKind
kind_of (InstructionKind.CopyByte d s) = lir.copy_byte (byte_storage_of d) (byte_operand_of s)
kind_of (InstructionKind.NotByte d s) = lir.not_byte (byte_storage_of d) (byte_operand_of s)
kind_of (InstructionKind.ByteBinary op d l r) = lir.byte_binary (byte_binary_op_of op) (byte_storage_of d) (byte_operand_of l) (byte_operand_of r)
kind_of (InstructionKind.Add d l r i o) = lir.add (byte_storage_of d) (byte_operand_of l) (byte_operand_of r) (carry_of i) (carry_of o)
kind_of (InstructionKind.Subtract d l r i o) = lir.subtract (byte_storage_of d) (byte_operand_of l) (byte_operand_of r) (carry_of i) (carry_of o)
kind_of (InstructionKind.Rotate dir d s) = lir.rotate (rotate_direction_of dir) (byte_storage_of d) (byte_operand_of s)
kind_of (InstructionKind.AddressOf low high s o) = lir.address_of (byte_storage_of low) (byte_storage_of high) s.0 o
kind_of (InstructionKind.FunctionAddress low high f) = lir.function_address (byte_storage_of low) (byte_storage_of high) f
kind_of (InstructionKind.ShiftBytes op w ds v a) = lir.shift_bytes (shift_op_of op) w (destinations_of ds) (bytes_of v) (bytes_of a)
kind_of (InstructionKind.CompareBytes op w d l r) = lir.compare_bytes (compare_op_of op) w d.0 (bytes_of l) (bytes_of r)
kind_of (InstructionKind.SelectByte d c t f) = lir.select_byte (byte_storage_of d) (bit_operand_of c) (byte_operand_of t) (byte_operand_of f)
kind_of (InstructionKind.SelectBit d c t f) = lir.select_bit d.0 (bit_operand_of c) (bit_operand_of t) (bit_operand_of f)
kind_of (InstructionKind.BitToByte d s) = lir.bit_to_byte (byte_storage_of d) (bit_operand_of s)
kind_of (InstructionKind.ByteToBit d s) = lir.byte_to_bit d.0 (byte_operand_of s)
kind_of (InstructionKind.SignExtend w ds s) = lir.sign_extend w (destinations_of ds) (bytes_of s)
kind_of (InstructionKind.IntegerUnaryBytes op w ds s) = lir.integer_unary_bytes (unary_op_of op) w (destinations_of ds) (bytes_of s)
kind_of (InstructionKind.IntegerBinaryBytes op w ds l r) = lir.integer_binary_bytes (binary_op_of op) w (destinations_of ds) (bytes_of l) (bytes_of r)

abbrev pub instruction_of : Instruction → lir.Instruction
instruction_of i = record { kind = kind_of i.kind; node = i.node.0 }

-- ---------------------------------------------------------------- storages

abbrev pub storage_kind_of : StorageKind → lir.StorageKind
storage_kind_of StorageKind.Bit = lir.bit
storage_kind_of StorageKind.Byte = lir.byte
storage_kind_of (StorageKind.Bytes n) = lir.bytes n
storage_kind_of StorageKind.Carry = lir.carry

abbrev pub purpose_of : Purpose → lir.Purpose
purpose_of Purpose.Tmp = lir.tmp
purpose_of Purpose.AddCarry = lir.add_carry
purpose_of Purpose.SubtractBorrow = lir.subtract_borrow
purpose_of Purpose.NegateBorrow = lir.negate_borrow
purpose_of Purpose.PointerCarry = lir.pointer_carry
purpose_of Purpose.Compare = lir.compare
purpose_of Purpose.IntegerToBoolean = lir.integer_to_boolean
purpose_of Purpose.Condition = lir.condition
purpose_of Purpose.ReadBool = lir.read_bool
purpose_of Purpose.SelectBool = lir.select_bool

abbrev pub storage_of : NewStorage → lir.Storage
storage_of s = record { id = s.id.0; kind = storage_kind_of s.kind; purpose = purpose_of s.purpose; number = s.number.0; regions = s.regions }

-- ---------------------------------------------------------------- small enough for positions to be worked out

abbrev pub source_reach : Source → ℕ → ℕ
source_reach (Source.Constant n) c = 0
source_reach (Source.Storage b) c = b.offset + c

-- where the bytes that a value has in a storage end
abbrev pub reach : Bytes → ℕ
reach b = source_reach b.source b.count

pub record Small (b : Bytes) : Type 0 where
  pub reach_most : reach b ≤ 4294967296
  pub total_most : b.total ≤ 4294967296
