-- The own steps of selects and addresses: of an older storage, only its owner is looked at.
use Prim.Native.Nat.{ℕ}
use mathlib.Core.Bool.{Bool, true, false}
use mathlib.Core.List.{List, [], ◌∷◌}
use mathlib.Core.Path.{◌≡◌, refl}
use lib.ListN.{take}
use Rattle.spec.specs.Hir.{Place}
use Rattle.spec.specs.Ticket.{Tables, no_storage_line, storage_at}
use Rattle.spec.specs.Lir.{BitOperand, ValueOperand, bit_operand, byte_operand, ValueStorage, bit_storage, byte_storage, Value, pointer_carry}
use Rattle.spec.specs.Operands.{resize}
use Rattle.spec.specs.Allocation.{type_size, pointer_type, Location, allocate_bit_temporary, bytes_at, location_value_storages}
use Rattle.spec.specs.Places.{is_one}
use Rattle.spec.specs.Arithmetic.{adds}
use Rattle.spec.specs.Select.{select_as_byte, select_piece, select_pieces, select_to_location, lower_select, require_addressable, second_storage, materialize_location_address, lower_address_of, lower_static_address, lower_function_address, lower_pointer_offset}
use Rattle.spec.specs.Alike.{Pairwise, AlikeStorage}
use Rattle.spec.proofs.AlikeLogic.{Follows, ◌then◌, ◌next◌, answers, refuses, found, required, emitting, emitting_one, narrowing, allocating}
use Rattle.spec.proofs.AlikeReads.{More, extended, carry_alike, temporary_alike, bytes_alike, location_alike}
use Rattle.spec.proofs.AlikeSteps.{operand_alike}
use Rattle.spec.proofs.AlikePairs.{pair_at}
use Rattle.spec.proofs.AlikePlaces.{nth_more, SamePlace}

piece_alike : (c : BitOperand) (d : ValueStorage) (t f : ValueOperand) → Follows (select_piece c d t f) (select_piece c d t f)
unfolding select_piece select_as_byte allocate_bit_temporary
piece_alike c (bit_storage d) (bit_operand t) (bit_operand f) = emitting_one _
piece_alike c (bit_storage d) (bit_operand t) (byte_operand f) = refuses
piece_alike c (bit_storage d) (byte_operand t) f = refuses
piece_alike c (byte_storage d) (byte_operand t) (byte_operand f) = emitting_one _
piece_alike c (byte_storage d) (byte_operand t) (bit_operand f) = refuses
piece_alike c (byte_storage d) (bit_operand t) (bit_operand f) = allocating _ _ _ then λ b. emitting_one _ next emitting_one _
piece_alike c (byte_storage d) (bit_operand t) (byte_operand f) = refuses

pieces_alike : (c : BitOperand) (ds : List ValueStorage) (ts fs : List ValueOperand) → Follows (select_pieces c ds ts fs) (select_pieces c ds ts fs)
unfolding select_pieces
pieces_alike c [] ts fs = answers
pieces_alike c (d ∷ ds) [] fs = answers
pieces_alike c (d ∷ ds) (t ∷ ts) [] = answers
pieces_alike c (d ∷ ds) (t ∷ ts) (f ∷ fs) = piece_alike c d t f next pieces_alike c ds ts fs

module _ (T : Tables) (m : More) where
  to_location_alike : (l : Location) (c : BitOperand) (t f : Value) → Follows (select_to_location T l c t f) (select_to_location (extended T m) l c t f)
  unfolding select_to_location location_value_storages bytes_at type_size
  to_location_alike l c t f = required _ _ next pieces_alike _ _ _ _

  pub select_alike : (c : BitOperand) (t f : Value) (ty : ℕ) → Follows (lower_select T c t f ty) (lower_select (extended T m) c t f ty)
  unfolding lower_select
  select_alike c t f ty =
      temporary_alike T m ty then λ l.
      to_location_alike l c t f next
      location_alike T m l

  pub function_alike : (f : ℕ) → Follows (lower_function_address T f) (lower_function_address (extended T m) f)
  unfolding lower_function_address second_storage
  function_alike f =
      temporary_alike T m pointer_type then λ t.
      bytes_alike T m t then λ ds.
      emitting_one _ next
      location_alike T m t

  pub pointer_alike : (b o : Value) → Follows (lower_pointer_offset T b o) (lower_pointer_offset (extended T m) b o)
  unfolding lower_pointer_offset
  pointer_alike b o =
      operand_alike b then λ base.
      operand_alike o then λ offset.
      required _ _ next
      temporary_alike T m pointer_type then λ t.
      bytes_alike T m t then λ ds.
      carry_alike pointer_carry then λ c.
      emitting (adds c ds (take 2 base) (resize 2 offset)) next
      location_alike T m t

  module _ (ss : Pairwise AlikeStorage T.storages m.storages) where
    addressable_by : (s : ℕ) (b : Bool) → is_one (storage_at T s).owner ≡ b → (storage_at T s).owner ≡ (storage_at (extended T m) s).owner
        → Follows (require_addressable T s) (require_addressable (extended T m) s)
    unfolding require_addressable
    addressable_by s true e o = rw (← o, e) (narrowing s)
    addressable_by s false e o = rw (← o, e) answers

    address_alike : (s : ℕ) (b : Bool) (o : ℕ) → Follows (materialize_location_address T s b o) (materialize_location_address (extended T m) s b o)
    unfolding materialize_location_address second_storage
    address_alike s b o =
        required _ _ next
        addressable_by s (is_one (storage_at T s).owner) refl (pair_at s no_storage_line (record { kind = refl; len = refl; owner = refl }) ss).owner next
        temporary_alike T m pointer_type then λ t.
        bytes_alike T m t then λ ds.
        emitting_one _ next
        location_alike T m t

    pub address_of_alike : {p p' : Place} → SamePlace T m p p' → Follows (lower_address_of T p) (lower_address_of (extended T m) p')
    unfolding lower_address_of
    address_of_alike r = r.based then λ b. address_alike b.storage b.is_bit b.offset

    pub static_address_alike : (k o : ℕ) → Follows (lower_static_address T k o) (lower_static_address (extended T m) k o)
    unfolding lower_static_address
    static_address_alike k o = found _ _ _ (nth_more T.statics m.statics k) then λ p. address_alike p.storage (is_one p.bit) o
