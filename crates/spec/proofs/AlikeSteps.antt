-- The own steps of the operators over tables with the same types.
use Prim.Native.Nat.{ℕ}
use mathlib.Core.Bool.{Bool, true, false}
use mathlib.Core.List.{List}
use Rattle.std.specs.Prelude.{Option, None, Some}
use mathlib.Core.Path.{◌≡◌, refl}
use lib.Dec.{eqb}
use Rattle.spec.specs.Hir.{IntegerUnaryOp, IntegerBinaryOp, CompareOp, ConversionOp}
use Rattle.spec.specs.Ticket.{Tables}
use Rattle.spec.specs.Lir.{ByteStorage, ByteOperand, BitOperand, not_byte, byte_binary, copy_byte, Purpose, Value}
use Rattle.spec.specs.Operands.{value_repr, repr_bit, value_bytes, value_bit}
use Rattle.spec.specs.Allocation.{type_size, odd_bits, Location, bytes_at}
use Rattle.spec.specs.Operators.{UnaryForm, negating, inverting, counting, unary_form, BinaryForm, adding, subtracting, bytewise, shifting, whole, binary_form, ConversionForm, resizing, extending_sign, reinterpreting, from_boolean, to_boolean, of_float, conversion_form}
use Rattle.spec.specs.Arithmetic.{zip2, zip3, adds, subtracts, negates, masks, shifts, mask_location, unary_instructions, lower_integer_unary, binary_instructions, lower_integer_binary}
use Rattle.spec.specs.Conversions.{bit_to_bytes, lower_compare, not_zero, value_as_bit, normalized_bytes, resized, sign_extended, boolean_to_integer, integer_to_bool, reinterpreted, lower_conversion}
use Rattle.spec.proofs.AlikeLogic.{Follows, ◌then◌, ◌next◌, answers, refuses, known, required, emitting, emitting_one}
use Rattle.spec.proofs.AlikeReads.{More, extended, bit_alike, carry_alike, width_alike, temporary_alike, bytes_alike, location_alike}

pub operand_alike : (v : Value) → Follows (value_bytes v) (value_bytes v)
unfolding value_bytes
operand_alike v = known _ _

module _ (T : Tables) (m : More) where
  mask_alike : (l : Location) → Follows (mask_location T l) (mask_location (extended T m) l)
  unfolding mask_location odd_bits bytes_at type_size
  mask_alike l = emitting (masks (odd_bits T l.ty) (bytes_at T l))

  -- ------------------------------------------------------------ unary and binary operators

  unary_form_alike : (form : UnaryForm) (ty : ℕ) (ds : List ByteStorage) (bs : List ByteOperand)
      → Follows (unary_instructions T form ty ds bs) (unary_instructions (extended T m) form ty ds bs)
  unfolding unary_instructions
  unary_form_alike negating ty ds bs = carry_alike _ then λ c. emitting (negates c ds bs)
  unary_form_alike inverting ty ds bs = emitting (zip2 (λ i d b. not_byte d b) 0 ds bs)
  unary_form_alike (counting op) ty ds bs = width_alike T m ty then λ w. emitting_one _

  pub unary_alike : (op : IntegerUnaryOp) (v : Value) (ty : ℕ) → Follows (lower_integer_unary T op v ty) (lower_integer_unary (extended T m) op v ty)
  unfolding lower_integer_unary
  unary_alike op v ty =
      operand_alike v then λ input.
      temporary_alike T m ty then λ t.
      bytes_alike T m t then λ ds.
      unary_form_alike (unary_form op) ty ds input next
      mask_alike t next
      location_alike T m t

  binary_form_alike : (form : BinaryForm) (ty : ℕ) (ds : List ByteStorage) (l r : List ByteOperand)
      → Follows (binary_instructions T form ty ds l r) (binary_instructions (extended T m) form ty ds l r)
  unfolding binary_instructions
  binary_form_alike adding ty ds l r = carry_alike _ then λ c. emitting (adds c ds l r)
  binary_form_alike subtracting ty ds l r = carry_alike _ then λ c. emitting (subtracts c ds l r)
  binary_form_alike (bytewise op) ty ds l r = emitting (zip3 (λ i d x y. byte_binary op d x y) 0 ds l r)
  binary_form_alike (shifting op) ty ds l r = width_alike T m ty then λ w. emitting (shifts op w ds l r)
  binary_form_alike (whole op) ty ds l r = width_alike T m ty then λ w. emitting_one _

  pub binary_alike : (op : IntegerBinaryOp) (l r : Value) (ty : ℕ) → Follows (lower_integer_binary T op l r ty) (lower_integer_binary (extended T m) op l r ty)
  unfolding lower_integer_binary
  binary_alike op l r ty =
      operand_alike l then λ left.
      operand_alike r then λ right.
      temporary_alike T m ty then λ t.
      bytes_alike T m t then λ ds.
      binary_form_alike (binary_form op) ty ds left right next
      mask_alike t next
      location_alike T m t

  -- ------------------------------------------------------------ comparisons and conditions

  pub compare_alike : (op : CompareOp) (l r : Value) → Follows (lower_compare T op l r) (lower_compare (extended T m) op l r)
  unfolding lower_compare
  compare_alike op l r =
      width_alike T m _ then λ w.
      operand_alike l then λ left.
      operand_alike r then λ right.
      bit_alike _ then λ d.
      known _ _ then λ op'.
      emitting_one _ next
      answers

  not_zero_alike : (p : Purpose) (v : Value) → Follows (not_zero T p v) (not_zero (extended T m) p v)
  unfolding not_zero
  not_zero_alike p v =
      width_alike T m _ then λ w.
      operand_alike v then λ left.
      bit_alike p then λ d.
      emitting_one _ next
      answers

  as_bit_by : (v : Value) (b : Option BitOperand) → repr_bit (value_repr v) ≡ b → Follows (value_as_bit T v) (value_as_bit (extended T m) v)
  unfolding value_as_bit
  as_bit_by v None e = rw e (not_zero_alike _ v then λ d. answers)
  as_bit_by v (Some b) e = rw e answers

  pub value_as_bit_alike : (v : Value) → Follows (value_as_bit T v) (value_as_bit (extended T m) v)
  value_as_bit_alike v = as_bit_by v (repr_bit (value_repr v)) refl

  -- ------------------------------------------------------------ conversions

  normalized_by_alike : (b : Bool) (ty : ℕ) (bs : List ByteOperand) → eqb (odd_bits T ty) 0 ≡ b → Follows (normalized_bytes T ty bs) (normalized_bytes (extended T m) ty bs)
  unfolding normalized_bytes odd_bits bytes_at type_size
  normalized_by_alike true ty bs e = rw e answers
  normalized_by_alike false ty bs e =
      rw e
      (temporary_alike T m ty then λ t.
      emitting (zip2 (λ i d b. copy_byte d b) 0 (bytes_at T t) bs) next
      mask_alike t next
      location_alike T m t)

  normalized_alike : (ty : ℕ) (bs : List ByteOperand) → Follows (normalized_bytes T ty bs) (normalized_bytes (extended T m) ty bs)
  normalized_alike ty bs = normalized_by_alike (eqb (odd_bits T ty) 0) ty bs refl

  conversion_by_alike : (op : ConversionOp) (form : ConversionForm) (v : Value) (ty : ℕ) → conversion_form op ≡ form
      → Follows (lower_conversion T op v ty) (lower_conversion (extended T m) op v ty)
  unfolding lower_conversion resized sign_extended reinterpreted boolean_to_integer integer_to_bool value_bit type_size
  conversion_by_alike op resizing v ty e = rw e (operand_alike v then λ bs. normalized_alike ty _)
  conversion_by_alike op extending_sign v ty e =
      rw e
      (width_alike T m _ then λ w.
      operand_alike v then λ source.
      temporary_alike T m ty then λ t.
      bytes_alike T m t then λ ds.
      emitting_one _ next
      mask_alike t next
      location_alike T m t)
  conversion_by_alike op reinterpreting v ty e = rw e (required _ _ next answers)
  conversion_by_alike op from_boolean v ty e =
      rw e
      (known _ _ then λ source.
      temporary_alike T m ty then λ t.
      bytes_alike T m t then λ ds.
      emitting (bit_to_bytes ds source) next
      location_alike T m t)
  conversion_by_alike op to_boolean v ty e = rw e (not_zero_alike _ v then λ d. answers)
  conversion_by_alike op of_float v ty e = rw e refuses

  pub conversion_alike : (op : ConversionOp) (v : Value) (ty : ℕ) → Follows (lower_conversion T op v ty) (lower_conversion (extended T m) op v ty)
  conversion_alike op v ty = conversion_by_alike op (conversion_form op) v ty refl
