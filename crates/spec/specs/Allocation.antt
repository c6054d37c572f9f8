-- `type_size` and `integer_width` of a type line, allocation, and the bytes of a location.
use Rattle.std.specs.Prelude.{ℕ, zero, suc, ◌+◌, ◌%◌, Bool, true, false, List, [], ◌∷◌, map}
use Rattle.std.specs.Prelude.{Option, None, Some}
use Rattle.spec.specs.Ticket.{TypeWord, t_unit, t_bool, t_bits, t_float, t_pointer, t_array, t_struct, t_tuple, t_opaque, Tables, type_at, arg}
use Rattle.spec.specs.Lir.{ByteStorage, ValueStorage, bit_storage, byte_storage, StorageKind, Purpose, tmp}
use Rattle.spec.specs.Lir as lir
use Rattle.spec.specs.Monad.{Lower, done, ◌>>=◌, pure, refuse, or_refuse}

-- ---------------------------------------------------------------- types

abbrev pub bool_type : ℕ
bool_type = 0

abbrev pub pointer_type : ℕ
pointer_type = 1

abbrev pub width_of : TypeWord → List ℕ → Option ℕ
width_of t_unit xs = None
width_of t_bool xs = None
width_of t_bits xs = Some (arg xs 0)
width_of t_float xs = None
width_of t_pointer xs = Some 16
width_of t_array xs = None
width_of t_struct xs = None
width_of t_tuple xs = None
width_of t_opaque xs = None

-- a bits type's width; 0 for any other
abbrev pub bits_of : TypeWord → List ℕ → ℕ
bits_of t_unit xs = 0
bits_of t_bool xs = 0
bits_of t_bits xs = arg xs 0
bits_of t_float xs = 0
bits_of t_pointer xs = 0
bits_of t_array xs = 0
bits_of t_struct xs = 0
bits_of t_tuple xs = 0
bits_of t_opaque xs = 0

module _ (T : Tables) where
  -- stored with the type's line, where reading worked it out by `type_size_by`
  unfoldable pub type_size : ℕ → ℕ
  type_size ty = (type_at T ty).size

  unfoldable pub integer_width : ℕ → Lower ℕ
  integer_width ty = or_refuse 23 (width_of (type_at T ty).word (type_at T ty).args)

  -- how many bits of its last byte a bits type has; 0 where it has all of them, and for any other type
  unfoldable pub odd_bits : ℕ → ℕ
  odd_bits ty = bits_of (type_at T ty).word (type_at T ty).args % 8

-- ---------------------------------------------------------------- allocation

-- ApplicationRam and ShadowStack; with WorkRam; CarryFlag: sums of 2 ^ k, k a region's place in `StorageRegion`
abbrev pub temporary_regions : ℕ
temporary_regions = 36

abbrev pub bool_regions : ℕ
bool_regions = 100

abbrev pub carry_regions : ℕ
carry_regions = 2

-- the next storage, with the next temporary's number in its name
unfoldable pub allocate_storage : StorageKind → Purpose → ℕ → Lower ℕ
allocate_storage kind purpose regions = λ h c.
    done c.storage
    (record { storage = c.storage + 1; temporary = c.temporary + 1 })
    (record {
      storages = record { id = c.storage; kind = kind; purpose = purpose; number = c.temporary; regions = regions } ∷ [];
      narrowed = [];
      instructions = [];
    })

unfoldable pub allocate_bit_temporary : Purpose → Lower ℕ
allocate_bit_temporary purpose = allocate_storage lir.bit purpose temporary_regions

unfoldable pub allocate_carry : Purpose → Lower ℕ
allocate_carry purpose = allocate_storage lir.carry purpose carry_regions

pub record Location : Type 0 where
  pub storage : ℕ
  pub offset : ℕ
  pub ty : ℕ
  pub is_bit : Bool

-- a byte, or more; a type of no bytes is refused
unfoldable pub allocate_sized : ℕ → Lower ℕ
allocate_sized zero = refuse 23
allocate_sized (suc zero) = allocate_storage lir.byte tmp temporary_regions
allocate_sized (suc (suc n)) = allocate_storage (lir.bytes (suc (suc n))) tmp temporary_regions

module _ (T : Tables) where
  -- `allocate_temporary` and the `allocate_location` that it calls; type 0 is Bool
  unfoldable pub allocate_temporary : ℕ → Lower Location
  allocate_temporary zero = do
    s ← allocate_storage lir.bit tmp bool_regions
    pure (record { storage = s; offset = 0; ty = bool_type; is_bit = true })
  allocate_temporary (suc ty) = do
    s ← allocate_sized (type_size T (suc ty))
    pure (record { storage = s; offset = 0; ty = suc ty; is_bit = false })

-- ---------------------------------------------------------------- the bytes of a location

unfoldable pub bytes_from : ℕ → ℕ → ℕ → List ByteStorage
bytes_from s o zero = []
bytes_from s o (suc n) = record { storage = s; offset = o } ∷ bytes_from s (suc o) n

module _ (T : Tables) where
  unfoldable pub bytes_at : Location → List ByteStorage
  bytes_at l = bytes_from l.storage l.offset (type_size T l.ty)

  abbrev location_bytes_by : Location → Bool → Lower (List ByteStorage)
  location_bytes_by l true = refuse 24
  location_bytes_by l false = pure (bytes_at l)

  unfoldable pub location_bytes : Location → Lower (List ByteStorage)
  location_bytes l = location_bytes_by l l.is_bit

  abbrev value_storages_by : Location → Bool → List ValueStorage
  value_storages_by l true = bit_storage l.storage ∷ []
  value_storages_by l false = map byte_storage (bytes_at l)

  unfoldable pub location_value_storages : Location → List ValueStorage
  location_value_storages l = value_storages_by l l.is_bit
