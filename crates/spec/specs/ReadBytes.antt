-- `read_bytes_as_type` and `read_location`.
use Rattle.std.specs.Prelude.{ℕ, zero, suc, ◌+◌, Bool, true, false, List, [], ◌∷◌, map}
use Rattle.spec.specs.Limits.{type_depth_limit}
use Rattle.spec.specs.Ticket.{TypeWord, t_unit, t_bool, t_bits, t_float, t_pointer, t_array, t_struct, t_tuple, t_opaque, Tables, type_at, arg}
use Rattle.spec.specs.Lir.{stored, stored_bit, byte_to_bit, Value, value, unit, bit_value, bytes_value, aggregate, Values, no_values, ◌∷ᵛ◌, read_bool}
use Rattle.spec.specs.Monad.{Lower, ◌>>=◌, ◌>>◌, pure, refuse, emit}
use Rattle.spec.specs.Allocation.{type_size, allocate_bit_temporary, Location, bytes_from}

-- n elements of one size, from offset o
unfoldable pub read_elements : (ℕ → Lower Value) → ℕ → ℕ → ℕ → Lower Values
read_elements rd size o zero = pure no_values
read_elements rd size o (suc n) = do
  v ← rd o
  vs ← read_elements rd size (o + size) n
  pure (v ∷ᵛ vs)

module _ (T : Tables) where
  unfoldable pub read_fields : (ℕ → ℕ → Lower Value) → ℕ → List ℕ → Lower Values
  read_fields rd o [] = pure no_values
  read_fields rd o (t ∷ ts) = do
    v ← rd t o
    vs ← read_fields rd (o + type_size T t) ts
    pure (v ∷ᵛ vs)

  unfoldable pub read_plain : ℕ → ℕ → ℕ → Lower Value
  read_plain s ty o = pure (value ty (bytes_value (map stored (bytes_from s o (type_size T ty)))))

  unfoldable pub read_bool_byte : ℕ → ℕ → ℕ → Lower Value
  read_bool_byte s ty o = do
    d ← allocate_bit_temporary read_bool
    emit (byte_to_bit d (stored (record { storage = s; offset = o })))
    pure (value ty (bit_value (stored_bit d)))

  -- storage s read from offset o as the type ty, rd being the same for a type less deep
  unfoldable pub read_word : (ℕ → ℕ → Lower Value) → ℕ → ℕ → ℕ → TypeWord → List ℕ → Lower Value
  read_word rd s ty o t_unit xs = pure (value ty unit)
  read_word rd s ty o t_bool xs = read_bool_byte s ty o
  read_word rd s ty o t_bits xs = read_plain s ty o
  read_word rd s ty o t_float xs = refuse 23
  read_word rd s ty o t_pointer xs = read_plain s ty o
  read_word rd s ty o t_array xs = do
    vs ← read_elements (rd (arg xs 0)) (type_size T (arg xs 0)) o (arg xs 1)
    pure (value ty (aggregate vs))
  read_word rd s ty o t_struct xs = do
    vs ← read_fields rd o xs
    pure (value ty (aggregate vs))
  read_word rd s ty o t_tuple xs = do
    vs ← read_fields rd o xs
    pure (value ty (aggregate vs))
  read_word rd s ty o t_opaque xs = read_plain s ty o

  -- types refer to earlier lines only; a readable ticket's are no deeper than the first number
  unfoldable pub read_bytes_as_type : ℕ → ℕ → ℕ → ℕ → Lower Value
  read_bytes_as_type zero s ty o = refuse 23
  read_bytes_as_type (suc d) s ty o =
      read_word (λ t p. read_bytes_as_type d s t p) s ty o (type_at T ty).word (type_at T ty).args

  abbrev read_location_by : Location → Bool → Lower Value
  read_location_by l true = pure (value l.ty (bit_value (stored_bit l.storage)))
  read_location_by l false = read_bytes_as_type type_depth_limit l.storage l.ty l.offset

  unfoldable pub read_location : Location → Lower Value
  read_location l = read_location_by l l.is_bit
