-- The listing's text (document 01, 'Listing').
use Rattle.std.specs.Prelude.{ℕ, suc, List, [], ◌∷◌, ◌++◌, map, length}
use Rattle.std.specs.Prelude.{Option, None, Some}
use Rattle.spec.specs.Text.{digits, line}
use Rattle.spec.specs.Text as text
use Rattle.spec.specs.Lir
use Rattle.spec.specs.Lir.{◌∷ᵛ◌}

-- ---------------------------------------------------------------- numbers for names

unfoldable pub kind_number : Lir.StorageKind → ℕ
kind_number Lir.bit = 0
kind_number Lir.byte = 1
kind_number (Lir.bytes n) = 2
kind_number Lir.carry = 3

unfoldable pub kind_length : Lir.StorageKind → ℕ
kind_length Lir.bit = 0
kind_length Lir.byte = 0
kind_length (Lir.bytes n) = n
kind_length Lir.carry = 0

unfoldable pub purpose_number : Lir.Purpose → ℕ
purpose_number Lir.tmp = 0
purpose_number Lir.add_carry = 1
purpose_number Lir.subtract_borrow = 2
purpose_number Lir.negate_borrow = 3
purpose_number Lir.pointer_carry = 4
purpose_number Lir.compare = 5
purpose_number Lir.integer_to_boolean = 6
purpose_number Lir.condition = 7
purpose_number Lir.read_bool = 8
purpose_number Lir.select_bool = 9

-- by `ShiftOp` from 0
unfoldable pub shift_number : Lir.ShiftOp → ℕ
shift_number Lir.shift_left = 0
shift_number Lir.shift_right_unsigned = 1
shift_number Lir.shift_right_signed = 2
shift_number Lir.rotate_left = 3
shift_number Lir.rotate_right = 4

-- the ticket's OPs, each signed case before its unsigned one
unfoldable pub compare_number : Lir.CompareOp → ℕ
compare_number Lir.equal = 0
compare_number Lir.not_equal = 1
compare_number Lir.less_than_signed = 2
compare_number Lir.less_than_unsigned = 3
compare_number Lir.less_than_or_equal_signed = 4
compare_number Lir.less_than_or_equal_unsigned = 5
compare_number Lir.greater_than_signed = 6
compare_number Lir.greater_than_unsigned = 7
compare_number Lir.greater_than_or_equal_signed = 8
compare_number Lir.greater_than_or_equal_unsigned = 9

unfoldable pub unary_number : Lir.IntegerUnaryBytesOp → ℕ
unary_number Lir.count_leading_zeros = 2
unary_number Lir.count_trailing_zeros = 3
unary_number Lir.population_count = 4

unfoldable pub binary_number : Lir.IntegerBinaryBytesOp → ℕ
binary_number Lir.multiply = 2
binary_number Lir.divide_signed = 3
binary_number Lir.divide_unsigned = 4
binary_number Lir.remainder_signed = 5
binary_number Lir.remainder_unsigned = 6
binary_number Lir.saturating_add_signed = 15
binary_number Lir.saturating_add_unsigned = 16
binary_number Lir.saturating_subtract_signed = 17
binary_number Lir.saturating_subtract_unsigned = 18

-- ---------------------------------------------------------------- fields

unfoldable pub byte_storage : Lir.ByteStorage → List ℕ
byte_storage s = digits s.storage ++ 46 ∷ digits s.offset

unfoldable pub byte_operand : Lir.ByteOperand → List ℕ
byte_operand (Lir.immediate n) = 35 ∷ digits n
byte_operand (Lir.stored s) = byte_storage s

unfoldable pub bit_operand : Lir.BitOperand → List ℕ
bit_operand (Lir.constant n) = 35 ∷ digits n
bit_operand (Lir.stored_bit s) = digits s

unfoldable pub carry_operand : Option ℕ → List ℕ
carry_operand None = 45 ∷ []
carry_operand (Some s) = digits s

-- a list is its count, then its items
unfoldable pub listed : {A : Type 0} → (A → List ℕ) → List A → List (List ℕ)
listed f xs = digits (length xs) ∷ map f xs

abbrev pub destinations : List Lir.ByteStorage → List (List ℕ)
destinations ds = listed byte_storage ds

abbrev pub operands : List Lir.ByteOperand → List (List ℕ)
operands bs = listed byte_operand bs

unfoldable pub byte_binary_word : Lir.ByteBinaryOp → List ℕ
byte_binary_word Lir.and = text.bytes "and"
byte_binary_word Lir.or = text.bytes "or"
byte_binary_word Lir.xor = text.bytes "xor"

unfoldable pub rotate_word : Lir.RotateDirection → List ℕ
rotate_word Lir.left = text.bytes "rol"
rotate_word Lir.right = text.bytes "ror"

-- ---------------------------------------------------------------- lines

unfoldable pub instruction_fields : Lir.InstructionKind → List (List ℕ)
instruction_fields (Lir.copy_byte d s) = text.bytes "copy" ∷ byte_storage d ∷ byte_operand s ∷ []
instruction_fields (Lir.not_byte d s) = text.bytes "not" ∷ byte_storage d ∷ byte_operand s ∷ []
instruction_fields (Lir.byte_binary op d l r) = byte_binary_word op ∷ byte_storage d ∷ byte_operand l ∷ byte_operand r ∷ []
instruction_fields (Lir.add d l r i o) =
    text.bytes "add" ∷ byte_storage d ∷ byte_operand l ∷ byte_operand r ∷ carry_operand i ∷ carry_operand o ∷ []
instruction_fields (Lir.subtract d l r i o) =
    text.bytes "sub" ∷ byte_storage d ∷ byte_operand l ∷ byte_operand r ∷ carry_operand i ∷ carry_operand o ∷ []
instruction_fields (Lir.rotate dir d s) = rotate_word dir ∷ byte_storage d ∷ byte_operand s ∷ []
instruction_fields (Lir.address_of low high s o) = text.bytes "address" ∷ byte_storage low ∷ byte_storage high ∷ digits s ∷ digits o ∷ []
instruction_fields (Lir.function_address low high f) = text.bytes "function" ∷ byte_storage low ∷ byte_storage high ∷ digits f ∷ []
instruction_fields (Lir.shift_bytes op w ds v a) =
    text.bytes "shift" ∷ digits (shift_number op) ∷ digits w ∷ destinations ds ++ operands v ++ operands a
instruction_fields (Lir.compare_bytes op w d l r) =
    text.bytes "compare" ∷ digits (compare_number op) ∷ digits w ∷ digits d ∷ operands l ++ operands r
instruction_fields (Lir.select_byte d c t f) =
    text.bytes "selbyte" ∷ byte_storage d ∷ bit_operand c ∷ byte_operand t ∷ byte_operand f ∷ []
instruction_fields (Lir.select_bit d c t f) = text.bytes "selbit" ∷ digits d ∷ bit_operand c ∷ bit_operand t ∷ bit_operand f ∷ []
instruction_fields (Lir.bit_to_byte d s) = text.bytes "bittobyte" ∷ byte_storage d ∷ bit_operand s ∷ []
instruction_fields (Lir.byte_to_bit d s) = text.bytes "bytetobit" ∷ digits d ∷ byte_operand s ∷ []
instruction_fields (Lir.sign_extend w ds s) = text.bytes "sext" ∷ digits w ∷ destinations ds ++ operands s
instruction_fields (Lir.integer_unary_bytes op w ds s) =
    text.bytes "unary" ∷ digits (unary_number op) ∷ digits w ∷ destinations ds ++ operands s
instruction_fields (Lir.integer_binary_bytes op w ds l r) =
    text.bytes "binary" ∷ digits (binary_number op) ∷ digits w ∷ destinations ds ++ operands l ++ operands r

-- the node comes last
unfoldable pub instruction_line : Lir.Instruction → List ℕ
instruction_line i = line (text.bytes "i") (instruction_fields i.kind ++ digits i.node ∷ [])

unfoldable pub storage_line : Lir.Storage → List ℕ
storage_line s =
    line (text.bytes "storage") (
    digits s.id ∷ digits (kind_number s.kind) ∷ digits (kind_length s.kind) ∷
    digits (purpose_number s.purpose) ∷ digits s.number ∷ digits s.regions ∷ [])

unfoldable pub narrowed_line : ℕ → List ℕ
narrowed_line s = line (text.bytes "narrowed") (digits s ∷ [])

unfoldable pub parts : Lir.Values → ℕ
parts Lir.no_values = 0
parts (v ∷ᵛ vs) = suc (parts vs)

unfoldable pub value_line : ℕ → List (List ℕ) → List ℕ
value_line ty fs = line (text.bytes "value") (digits ty ∷ fs)

-- outer first, an aggregate's parts following
unfoldable mutual
  pub value_lines : Lir.Value → List ℕ
  value_lines (Lir.value ty r) = repr_lines ty r

  pub repr_lines : ℕ → Lir.Repr → List ℕ
  repr_lines ty Lir.unit = value_line ty (text.bytes "unit" ∷ [])
  repr_lines ty (Lir.bit_value b) = value_line ty (text.bytes "bit" ∷ bit_operand b ∷ [])
  repr_lines ty (Lir.bytes_value bs) = value_line ty (text.bytes "bytes" ∷ operands bs)
  repr_lines ty (Lir.aggregate vs) = value_line ty (text.bytes "aggregate" ∷ digits (parts vs) ∷ []) ++ values_lines vs

  pub values_lines : Lir.Values → List ℕ
  values_lines Lir.no_values = []
  values_lines (v ∷ᵛ vs) = value_lines v ++ values_lines vs

unfoldable pub done_line : Lir.Done → List ℕ
done_line d = line (text.bytes "done") (digits d.instructions ∷ digits d.storages ∷ digits d.next ∷ [])

unfoldable pub each : {A : Type 0} → (A → List ℕ) → List A → List ℕ
each f [] = []
each f (x ∷ xs) = f x ++ each f xs

unfoldable pub print_listing : Lir.Listing → List ℕ
print_listing l =
    each storage_line l.storages ++
    each narrowed_line l.narrowed ++
    each instruction_line l.instructions ++
    value_lines l.value ++
    done_line l.done

-- ---------------------------------------------------------------- without the nodes

-- document 01's line of an instruction
unfoldable pub plain_instruction_line : Lir.Instruction → List ℕ
plain_instruction_line i = line (text.bytes "i") (instruction_fields i.kind)

-- document 01's listing: what equality with the Rust is read of
unfoldable pub print_plain_listing : Lir.Listing → List ℕ
print_plain_listing l =
    each storage_line l.storages ++
    each narrowed_line l.narrowed ++
    each plain_instruction_line l.instructions ++
    value_lines l.value ++
    done_line l.done
