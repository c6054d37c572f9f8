-- Allocation and reading look at types alone: over tables with the same types they answer the same.
use Prim.Native.Nat.{ℕ, zero, suc, ◌+◌}
use mathlib.Core.Bool.{Bool, true, false}
use mathlib.Core.List.{List, [], ◌∷◌, ◌++◌}
use mathlib.Core.Path.{◌≡◌, refl}
use Rattle.spec.specs.Limits.{type_depth_limit}
use Rattle.spec.specs.Ticket.{TypeWord, t_unit, t_bool, t_bits, t_float, t_pointer, t_array, t_struct, t_tuple, t_opaque, StorageLine, PlacedLine, PlaceLine, NodeLine, Tables, type_at, arg}
use Rattle.spec.specs.Lir.{Value, Purpose}
use Rattle.spec.specs.Monad.{Lower}
use Rattle.spec.specs.Allocation.{type_size, integer_width, allocate_bit_temporary, allocate_carry, Location, allocate_sized, allocate_temporary, bytes_at, location_bytes}
use Rattle.spec.specs.ReadBytes.{read_elements, read_fields, read_plain, read_bool_byte, read_word, read_bytes_as_type, read_location}
use Rattle.spec.proofs.AlikeLogic.{Follows, ◌then◌, ◌next◌, answers, refuses, known, emitting_one, allocating}

-- ---------------------------------------------------------------- tables with more lines

-- the tables that take the place of others, and the lines added to others
pub record More : Type 0 where
  pub storages : List StorageLine
  pub variables : List PlacedLine
  pub statics : List PlacedLine
  pub places : List PlaceLine
  pub nodes : List NodeLine

-- the types are T's own, so what computes from types alone is the same term
abbrev pub extended : Tables → More → Tables
extended T m =
    record {
      function = T.function;
      next = T.next;
      types = T.types;
      storages = m.storages;
      variables = T.variables ++ m.variables;
      statics = T.statics ++ m.statics;
      places = m.places;
      nodes = m.nodes;
    }

-- ---------------------------------------------------------------- allocation

pub bit_alike : (p : Purpose) → Follows (allocate_bit_temporary p) (allocate_bit_temporary p)
unfolding allocate_bit_temporary
bit_alike p = allocating _ _ _

pub carry_alike : (p : Purpose) → Follows (allocate_carry p) (allocate_carry p)
unfolding allocate_carry
carry_alike p = allocating _ _ _

sized_alike : (n : ℕ) → Follows (allocate_sized n) (allocate_sized n)
unfolding allocate_sized
sized_alike zero = refuses
sized_alike (suc zero) = allocating _ _ _
sized_alike (suc (suc n)) = allocating _ _ _

elements_alike : (rd rd' : ℕ → Lower Value) (size : ℕ) → ((o : ℕ) → Follows (rd o) (rd' o))
    → (o n : ℕ) → Follows (read_elements rd size o n) (read_elements rd' size o n)
unfolding read_elements
elements_alike rd rd' size d o zero = answers
elements_alike rd rd' size d o (suc n) = d o then λ v. elements_alike rd rd' size d (o + size) n then λ vs. answers

module _ (T : Tables) (m : More) where
  pub width_alike : (ty : ℕ) → Follows (integer_width T ty) (integer_width (extended T m) ty)
  unfolding integer_width
  width_alike ty = known _ _

  pub temporary_alike : (ty : ℕ) → Follows (allocate_temporary T ty) (allocate_temporary (extended T m) ty)
  unfolding allocate_temporary type_size
  temporary_alike zero = allocating _ _ _ then λ s. answers
  temporary_alike (suc ty) = sized_alike _ then λ s. answers

  bytes_alike_by : (l : Location) (b : Bool) → l.is_bit ≡ b → Follows (location_bytes T l) (location_bytes (extended T m) l)
  unfolding location_bytes bytes_at type_size
  bytes_alike_by l true e = rw e refuses
  bytes_alike_by l false e = rw e answers

  pub bytes_alike : (l : Location) → Follows (location_bytes T l) (location_bytes (extended T m) l)
  bytes_alike l = bytes_alike_by l l.is_bit refl

  -- ------------------------------------------------------------ reading

  fields_alike : (rd rd' : ℕ → ℕ → Lower Value) → ((t o : ℕ) → Follows (rd t o) (rd' t o))
      → (o : ℕ) (ts : List ℕ) → Follows (read_fields T rd o ts) (read_fields (extended T m) rd' o ts)
  unfolding read_fields type_size
  fields_alike rd rd' d o [] = answers
  fields_alike rd rd' d o (t ∷ ts) = d t o then λ v. fields_alike rd rd' d (o + type_size T t) ts then λ vs. answers

  word_alike : (rd rd' : ℕ → ℕ → Lower Value) → ((t o : ℕ) → Follows (rd t o) (rd' t o))
      → (s ty o : ℕ) (w : TypeWord) (xs : List ℕ) → Follows (read_word T rd s ty o w xs) (read_word (extended T m) rd' s ty o w xs)
  unfolding read_word read_plain read_bool_byte type_size
  word_alike rd rd' d s ty o t_unit xs = answers
  word_alike rd rd' d s ty o t_bool xs = bit_alike _ then λ b. emitting_one _ next answers
  word_alike rd rd' d s ty o t_bits xs = answers
  word_alike rd rd' d s ty o t_float xs = refuses
  word_alike rd rd' d s ty o t_pointer xs = answers
  word_alike rd rd' d s ty o t_array xs = elements_alike _ _ _ (d (arg xs 0)) _ _ then λ vs. answers
  word_alike rd rd' d s ty o t_struct xs = fields_alike rd rd' d o xs then λ vs. answers
  word_alike rd rd' d s ty o t_tuple xs = fields_alike rd rd' d o xs then λ vs. answers
  word_alike rd rd' d s ty o t_opaque xs = answers

  type_alike : (d s ty o : ℕ) → Follows (read_bytes_as_type T d s ty o) (read_bytes_as_type (extended T m) d s ty o)
  unfolding read_bytes_as_type
  type_alike zero s ty o = refuses
  type_alike (suc d) s ty o = word_alike _ _ (λ t p. type_alike d s t p) s ty o (type_at T ty).word (type_at T ty).args

  location_alike_by : (l : Location) (b : Bool) → l.is_bit ≡ b → Follows (read_location T l) (read_location (extended T m) l)
  unfolding read_location
  location_alike_by l true e = rw e answers
  location_alike_by l false e = rw e (type_alike type_depth_limit l.storage l.ty l.offset)

  pub location_alike : (l : Location) → Follows (read_location T l) (read_location (extended T m) l)
  location_alike l = location_alike_by l l.is_bit refl
