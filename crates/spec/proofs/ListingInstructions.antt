-- Instructions: each form's fields are read back.
use Prim.Native.Nat.{ℕ}
use mathlib.Core.List.{List, [], ◌∷◌, ◌++◌, append_assoc}
use Rattle.std.specs.Prelude.{Option, Some}
use mathlib.Core.Path.{◌≡◌, refl}
use Rattle.spec.specs.Text.{digits, same}
use Rattle.spec.specs.Lir
use Rattle.spec.specs.Print as print
use Rattle.spec.specs.ReadBack as read
use Rattle.spec.specs.ReadBack.{Field, ◌>>=◌, pure, find, nth, instruction_words}
use Rattle.spec.proofs.ListingFields.{Fields, thens, then_next, last, word, number_field, storage_field, operand_field, bit_field, carry_field, destinations_fields, operands_fields, operator_field}

-- ---------------------------------------------------------------- operators by their numbers

shift_op : (op : Lir.ShiftOp) → nth read.shift_ops (print.shift_number op) ≡ Some op
unfolding nth read.shift_ops print.shift_number
shift_op Lir.shift_left = refl
shift_op Lir.shift_right_unsigned = refl
shift_op Lir.shift_right_signed = refl
shift_op Lir.rotate_left = refl
shift_op Lir.rotate_right = refl

compare_op : (op : Lir.CompareOp) → nth read.compare_ops (print.compare_number op) ≡ Some op
unfolding nth read.compare_ops print.compare_number
compare_op Lir.equal = refl
compare_op Lir.not_equal = refl
compare_op Lir.less_than_unsigned = refl
compare_op Lir.less_than_signed = refl
compare_op Lir.less_than_or_equal_unsigned = refl
compare_op Lir.less_than_or_equal_signed = refl
compare_op Lir.greater_than_unsigned = refl
compare_op Lir.greater_than_signed = refl
compare_op Lir.greater_than_or_equal_unsigned = refl
compare_op Lir.greater_than_or_equal_signed = refl

unary_op : (op : Lir.IntegerUnaryBytesOp) → nth read.unary_ops (print.unary_number op) ≡ Some op
unfolding nth read.unary_ops print.unary_number
unary_op Lir.count_leading_zeros = refl
unary_op Lir.count_trailing_zeros = refl
unary_op Lir.population_count = refl

binary_op : (op : Lir.IntegerBinaryBytesOp) → nth read.binary_ops (print.binary_number op) ≡ Some op
unfolding nth read.binary_ops print.binary_number
binary_op Lir.multiply = refl
binary_op Lir.divide_unsigned = refl
binary_op Lir.divide_signed = refl
binary_op Lir.remainder_unsigned = refl
binary_op Lir.remainder_signed = refl
binary_op Lir.saturating_add_unsigned = refl
binary_op Lir.saturating_add_signed = refl
binary_op Lir.saturating_subtract_unsigned = refl
binary_op Lir.saturating_subtract_signed = refl

shift_field : (op : Lir.ShiftOp) → Fields (read.one_of read.shift_ops) (digits (print.shift_number op) ∷ []) op
shift_field op = operator_field read.shift_ops (print.shift_number op) op (shift_op op)

compare_field : (op : Lir.CompareOp) → Fields (read.one_of read.compare_ops) (digits (print.compare_number op) ∷ []) op
compare_field op = operator_field read.compare_ops (print.compare_number op) op (compare_op op)

unary_field : (op : Lir.IntegerUnaryBytesOp) → Fields (read.one_of read.unary_ops) (digits (print.unary_number op) ∷ []) op
unary_field op = operator_field read.unary_ops (print.unary_number op) op (unary_op op)

binary_field : (op : Lir.IntegerBinaryBytesOp) → Fields (read.one_of read.binary_ops) (digits (print.binary_number op) ∷ []) op
binary_field op = operator_field read.binary_ops (print.binary_number op) op (binary_op op)

-- ---------------------------------------------------------------- what stands behind the words

moved : (k : Lir.ByteStorage → Lir.ByteOperand → Lir.InstructionKind) (d : Lir.ByteStorage) (s : Lir.ByteOperand)
    → Fields (read.moved k) (print.byte_storage d ∷ print.byte_operand s ∷ []) (k d s)
unfolding read.moved
moved k d s = then_next _ (storage_field d) (last (k d) (operand_field s))

byte_binary : (op : Lir.ByteBinaryOp) (d : Lir.ByteStorage) (l r : Lir.ByteOperand)
    → Fields (read.byte_binary op) (print.byte_storage d ∷ print.byte_operand l ∷ print.byte_operand r ∷ []) (Lir.byte_binary op d l r)
unfolding read.byte_binary
byte_binary op d l r = then_next _ (storage_field d) (then_next _ (operand_field l) (last (Lir.byte_binary op d l) (operand_field r)))

carried : (k : Lir.ByteStorage → Lir.ByteOperand → Lir.ByteOperand → Option ℕ → Option ℕ → Lir.InstructionKind)
    (d : Lir.ByteStorage) (l r : Lir.ByteOperand) (i o : Option ℕ)
    → Fields (read.carried k) (print.byte_storage d ∷ print.byte_operand l ∷ print.byte_operand r ∷ print.carry_operand i ∷ print.carry_operand o ∷ []) (k d l r i o)
unfolding read.carried
carried k d l r i o =
    then_next _ (storage_field d) (then_next _ (operand_field l) (then_next _ (operand_field r) (
    then_next _ (carry_field i) (last (k d l r i) (carry_field o)))))

-- destinations, then two lists of operands
two_operands : (k : List Lir.ByteStorage → List Lir.ByteOperand → List Lir.ByteOperand → Lir.InstructionKind)
    (ds : List Lir.ByteStorage) (l r : List Lir.ByteOperand)
    → Fields (read.listed read.byte_storage >>= λ d. read.listed read.byte_operand >>= λ a. read.listed read.byte_operand >>= λ b. pure (k d a b)) (print.destinations ds ++ print.operands l ++ print.operands r) (k ds l r)
two_operands k ds l r =
    rw (append_assoc (print.destinations ds) (print.operands l) (print.operands r))
    (thens _ (destinations_fields ds) (thens _ (operands_fields l) (last (k ds l) (operands_fields r))))

-- ---------------------------------------------------------------- every instruction

byte_binary_words : (op : Lir.ByteBinaryOp) {fs : List Field} {k : Lir.InstructionKind}
    → Fields (read.byte_binary op) fs k → Fields read.instruction_kind (print.byte_binary_word op ∷ fs) k
unfolding find instruction_words same print.byte_binary_word
byte_binary_words Lir.and p = word instruction_words refl p
byte_binary_words Lir.or p = word instruction_words refl p
byte_binary_words Lir.xor p = word instruction_words refl p

rotate_words : (d : Lir.RotateDirection) {fs : List Field} {k : Lir.InstructionKind}
    → Fields (read.moved (Lir.rotate d)) fs k → Fields read.instruction_kind (print.rotate_word d ∷ fs) k
unfolding find instruction_words same print.rotate_word
rotate_words Lir.left p = word instruction_words refl p
rotate_words Lir.right p = word instruction_words refl p

pub kind_fields : (k : Lir.InstructionKind) → Fields read.instruction_kind (print.instruction_fields k) k
unfolding print.instruction_fields find instruction_words same
    read.address read.function read.shift read.compare read.select_byte read.select_bit read.bit_to_byte read.byte_to_bit
    read.sign_extend read.integer_unary read.integer_binary
kind_fields (Lir.copy_byte d s) = word instruction_words refl (moved Lir.copy_byte d s)
kind_fields (Lir.not_byte d s) = word instruction_words refl (moved Lir.not_byte d s)
kind_fields (Lir.byte_binary op d l r) = byte_binary_words op (byte_binary op d l r)
kind_fields (Lir.add d l r i o) = word instruction_words refl (carried Lir.add d l r i o)
kind_fields (Lir.subtract d l r i o) = word instruction_words refl (carried Lir.subtract d l r i o)
kind_fields (Lir.rotate dir d s) = rotate_words dir (moved (Lir.rotate dir) d s)
kind_fields (Lir.address_of low high s o) =
    word instruction_words refl (
    then_next _ (storage_field low) (then_next _ (storage_field high) (then_next _ (number_field s) (last (Lir.address_of low high s) (number_field o)))))
kind_fields (Lir.function_address low high f) =
    word instruction_words refl (then_next _ (storage_field low) (then_next _ (storage_field high) (last (Lir.function_address low high) (number_field f))))
kind_fields (Lir.shift_bytes op w ds v a) =
    word instruction_words refl (then_next _ (shift_field op) (then_next _ (number_field w) (two_operands (Lir.shift_bytes op w) ds v a)))
kind_fields (Lir.compare_bytes op w d l r) =
    word instruction_words refl (then_next _ (compare_field op) (then_next _ (number_field w) (then_next _ (number_field d) (
    thens _ (operands_fields l) (last (Lir.compare_bytes op w d l) (operands_fields r))))))
kind_fields (Lir.select_byte d c t f) =
    word instruction_words refl (then_next _ (storage_field d) (then_next _ (bit_field c) (then_next _ (operand_field t) (last (Lir.select_byte d c t) (operand_field f)))))
kind_fields (Lir.select_bit d c t f) =
    word instruction_words refl (then_next _ (number_field d) (then_next _ (bit_field c) (then_next _ (bit_field t) (last (Lir.select_bit d c t) (bit_field f)))))
kind_fields (Lir.bit_to_byte d s) = word instruction_words refl (then_next _ (storage_field d) (last (Lir.bit_to_byte d) (bit_field s)))
kind_fields (Lir.byte_to_bit d s) = word instruction_words refl (then_next _ (number_field d) (last (Lir.byte_to_bit d) (operand_field s)))
kind_fields (Lir.sign_extend w ds s) =
    word instruction_words refl (then_next _ (number_field w) (thens _ (destinations_fields ds) (last (Lir.sign_extend w ds) (operands_fields s))))
kind_fields (Lir.integer_unary_bytes op w ds s) =
    word instruction_words refl (then_next _ (unary_field op) (then_next _ (number_field w) (
    thens _ (destinations_fields ds) (last (Lir.integer_unary_bytes op w ds) (operands_fields s)))))
kind_fields (Lir.integer_binary_bytes op w ds l r) =
    word instruction_words refl (then_next _ (binary_field op) (then_next _ (number_field w) (two_operands (Lir.integer_binary_bytes op w) ds l r)))
