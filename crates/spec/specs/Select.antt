-- `lower_select` and `select_to_location`; addresses; `lower_pointer_offset`.
use Rattle.std.specs.Prelude.{ℕ, Bool, true, false, ◌&&◌, not, List, [], ◌∷◌, eqb, leb, length, get_or, take}
use Rattle.spec.specs.Hir.{Place}
use Rattle.spec.specs.Ticket.{Tables, storage_at}
use Rattle.spec.specs.Lir.{ByteStorage, BitOperand, stored_bit, ValueOperand, bit_operand, byte_operand, ValueStorage, bit_storage, byte_storage, address_of, function_address, select_byte, select_bit, bit_to_byte, Value, flatten_value_operands, pointer_carry, select_bool}
use Rattle.spec.specs.Monad.{Lower, ◌>>=◌, ◌>>◌, pure, refuse, narrow, emit, emits, or_refuse, require}
use Rattle.spec.specs.Operands.{nth, value_type, value_bytes, resize}
use Rattle.spec.specs.Allocation.{pointer_type, Location, allocate_temporary, allocate_bit_temporary, allocate_carry, location_bytes, location_value_storages}
use Rattle.spec.specs.Places.{is_one, resolve_place_base}
use Rattle.spec.specs.ReadBytes.{read_location}
use Rattle.spec.specs.Arithmetic.{adds, first_storage}

-- ---------------------------------------------------------------- select

-- two bits for a byte: one of them is chosen into a new bit, and that becomes the byte
unfoldable pub select_as_byte : BitOperand → ByteStorage → BitOperand → BitOperand → Lower Unit
select_as_byte c d t f = do
  b ← allocate_bit_temporary select_bool
  emit (select_bit b c t f)
  emit (bit_to_byte d (stored_bit b))

-- 24: a bit meets a byte, or bytes a bit's storage
unfoldable pub select_piece : BitOperand → ValueStorage → ValueOperand → ValueOperand → Lower Unit
select_piece c (bit_storage d) (bit_operand t) (bit_operand f) = emit (select_bit d c t f)
select_piece c (bit_storage d) (bit_operand t) (byte_operand f) = refuse 24
select_piece c (bit_storage d) (byte_operand t) f = refuse 24
select_piece c (byte_storage d) (byte_operand t) (byte_operand f) = emit (select_byte d c t f)
select_piece c (byte_storage d) (byte_operand t) (bit_operand f) = refuse 24
select_piece c (byte_storage d) (bit_operand t) (bit_operand f) = select_as_byte c d t f
select_piece c (byte_storage d) (bit_operand t) (byte_operand f) = refuse 24

-- pair by pair: the shortest list ends them
unfoldable pub select_pieces : BitOperand → List ValueStorage → List ValueOperand → List ValueOperand → Lower Unit
select_pieces c [] ts fs = pure tt
select_pieces c (d ∷ ds) [] fs = pure tt
select_pieces c (d ∷ ds) (t ∷ ts) [] = pure tt
select_pieces c (d ∷ ds) (t ∷ ts) (f ∷ fs) = do
  select_piece c d t f
  select_pieces c ds ts fs

module _ (T : Tables) where
  unfoldable pub select_to_location : Location → BitOperand → Value → Value → Lower Unit
  select_to_location l c t f = do
    require 22 (eqb (value_type t) (value_type f) && eqb (value_type t) l.ty)
    select_pieces c (location_value_storages T l) (flatten_value_operands t) (flatten_value_operands f)

  unfoldable pub lower_select : BitOperand → Value → Value → ℕ → Lower Value
  lower_select c t f ty = do
    temporary ← allocate_temporary T ty
    select_to_location temporary c t f
    read_location T temporary

  -- ------------------------------------------------------------ addresses

  abbrev narrow_if : Bool → ℕ → Lower Unit
  narrow_if true s = narrow s
  narrow_if false s = pure tt

  -- only a function's own storage is narrowed
  unfoldable pub require_addressable : ℕ → Lower Unit
  require_addressable s = narrow_if (is_one (storage_at T s).owner) s

  unfoldable pub second_storage : List ByteStorage → ByteStorage
  second_storage ds = get_or ds 1 (record { storage = 0; offset = 0 })

  unfoldable pub materialize_location_address : ℕ → Bool → ℕ → Lower Value
  materialize_location_address s is_bit o = do
    require 21 (not is_bit)
    require_addressable s
    temporary ← allocate_temporary T pointer_type
    ds ← location_bytes T temporary
    emit (address_of (first_storage ds) (second_storage ds) s o)
    read_location T temporary

  unfoldable pub lower_address_of : Place → Lower Value
  lower_address_of p = do
    b ← resolve_place_base T p
    materialize_location_address b.storage b.is_bit b.offset

  -- the static's own offset is not added
  unfoldable pub lower_static_address : ℕ → ℕ → Lower Value
  lower_static_address k o = do
    p ← or_refuse 20 (nth T.statics k)
    materialize_location_address p.storage (is_one p.bit) o

  unfoldable pub lower_function_address : ℕ → Lower Value
  lower_function_address f = do
    temporary ← allocate_temporary T pointer_type
    ds ← location_bytes T temporary
    emit (function_address (first_storage ds) (second_storage ds) f)
    read_location T temporary

  -- 25: the Rust indexes two bytes of the base
  unfoldable pub lower_pointer_offset : Value → Value → Lower Value
  lower_pointer_offset b o = do
    base ← value_bytes b
    offset ← value_bytes o
    require 25 (leb 2 (length base))
    temporary ← allocate_temporary T pointer_type
    ds ← location_bytes T temporary
    carry ← allocate_carry pointer_carry
    emits (adds carry ds (take 2 base) (resize 2 offset))
    read_location T temporary
