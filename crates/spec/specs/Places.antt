-- Places: `field_offset`, `constant_usize`, `resolve_place`, `resolve_place_base`, `with_type`.
use Rattle.std.specs.Prelude.{ℕ, ◌+◌, ◌-◌, ◌*◌, Bool, false, List, [], ◌∷◌, eqb, leb, ltb, take}
use Rattle.std.specs.Prelude.{Option, None, Some}
use Rattle.spec.specs.Limits.{offset_limit}
use Rattle.spec.specs.Hir.{Expr, boolean, integer, float32, float64, null_pointer, static_address, function_address, read, integer_unary, integer_binary, float_unary, float_binary, compare, convert, select, address_of, pointer_offset, aggregate, extract_element, insert_element, Place, variable, static, field, element, byte_offset}
use Rattle.spec.specs.Ticket.{TypeWord, t_unit, t_bool, t_bits, t_float, t_pointer, t_array, t_struct, t_tuple, t_opaque, PlacedLine, Tables, type_at, arg, sum}
use Rattle.spec.specs.Monad.{Lower, ◌>>=◌, ◌>>◌, pure, or_refuse, require}
use Rattle.spec.specs.Operands.{nth}
use Rattle.spec.specs.Allocation.{Location, type_size}

-- an index or an offset of a place: that expression is looked at, and never lowered
unfoldable pub constant_usize : Expr → Option ℕ
constant_usize (boolean h b) = None
constant_usize (integer h v) = Some v
constant_usize (float32 h v) = None
constant_usize (float64 h v) = None
constant_usize (null_pointer h) = None
constant_usize (static_address h k o) = None
constant_usize (function_address h f) = None
constant_usize (read h p) = None
constant_usize (integer_unary h op e) = None
constant_usize (integer_binary h op l r) = None
constant_usize (float_unary h e) = None
constant_usize (float_binary h l r) = None
constant_usize (compare h op l r) = None
constant_usize (convert h op e) = None
constant_usize (select h t f c) = None
constant_usize (address_of h p) = None
constant_usize (pointer_offset h b o) = None
constant_usize (aggregate h es) = None
constant_usize (extract_element h e i) = None
constant_usize (insert_element h e i v) = None

abbrev pub fields_of : TypeWord → List ℕ → Option (List ℕ)
fields_of t_unit xs = None
fields_of t_bool xs = None
fields_of t_bits xs = None
fields_of t_float xs = None
fields_of t_pointer xs = None
fields_of t_array xs = None
fields_of t_struct xs = Some xs
fields_of t_tuple xs = Some xs
fields_of t_opaque xs = None

pub record ArrayOf : Type 0 where
  pub element : ℕ
  pub len : ℕ

abbrev pub array_of : TypeWord → List ℕ → Option ArrayOf
array_of t_unit xs = None
array_of t_bool xs = None
array_of t_bits xs = None
array_of t_float xs = None
array_of t_pointer xs = None
array_of t_array xs = Some (record { element = arg xs 0; len = arg xs 1 })
array_of t_struct xs = None
array_of t_tuple xs = None
array_of t_opaque xs = None

-- a part of a type: where it begins, and its own type
pub record Part : Type 0 where
  pub offset : ℕ
  pub ty : ℕ

-- a base's type is a line's content: an offset makes an opaque type that no line need have
pub record Base : Type 0 where
  pub storage : ℕ
  pub offset : ℕ
  pub word : TypeWord
  pub args : List ℕ
  pub size : ℕ
  pub is_bit : Bool

abbrev pub is_one : ℕ → Bool
is_one b = eqb b 1

-- 27, behind the step's other refusals
unfoldable pub within : ℕ → Lower Unit
within o = require 27 (leb o offset_limit)

module _ (T : Tables) where
  unfoldable pub field_offset : TypeWord → List ℕ → ℕ → Lower Part
  field_offset w xs i = do
    fs ← or_refuse 21 (fields_of w xs)
    ty ← or_refuse 21 (nth fs i)
    pure (record { offset = sum (type_size T) (take i fs); ty = ty })

  -- an array's element at a constant index inside it
  unfoldable pub element_offset : TypeWord → List ℕ → Expr → Lower Part
  element_offset w xs index = do
    a ← or_refuse 21 (array_of w xs)
    i ← or_refuse 21 (constant_usize index)
    require 21 (ltb i a.len)
    pure (record { offset = i * type_size T a.element; ty = a.element })

  -- ------------------------------------------------------------ resolve_place_base

  unfoldable pub base_of : PlacedLine → Base
  base_of p =
      record {
        storage = p.storage;
        offset = p.offset;
        word = (type_at T p.type).word;
        args = (type_at T p.type).args;
        size = type_size T p.type;
        is_bit = is_one p.bit;
      }

  unfoldable pub part_of : Base → Part → Base
  part_of b f =
      record {
        storage = b.storage;
        offset = b.offset + f.offset;
        word = (type_at T f.ty).word;
        args = (type_at T f.ty).args;
        size = type_size T f.ty;
        is_bit = false;
      }

  unfoldable pub opaque_rest : Base → ℕ → Base
  opaque_rest b n =
      record { storage = b.storage; offset = b.offset + n; word = t_opaque; args = (b.size - n) ∷ []; size = b.size - n; is_bit = false }

  unfoldable pub resolve_place_base : Place → Lower Base
  resolve_place_base (variable k) = do
    p ← or_refuse 20 (nth T.variables k)
    pure (base_of p)
  resolve_place_base (static k) = do
    p ← or_refuse 20 (nth T.statics k)
    pure (base_of p)
  resolve_place_base (field p i) = do
    b ← resolve_place_base p
    f ← field_offset b.word b.args i
    within (b.offset + f.offset)
    pure (part_of b f)
  resolve_place_base (element p index) = do
    b ← resolve_place_base p
    f ← element_offset b.word b.args index
    within (b.offset + f.offset)
    pure (part_of b f)
  resolve_place_base (byte_offset p e) = do
    b ← resolve_place_base p
    n ← or_refuse 21 (constant_usize e)
    within (b.offset + n)
    pure (opaque_rest b n)

  -- ------------------------------------------------------------ resolve_place

  unfoldable pub with_type : ℕ → PlacedLine → Lower Location
  with_type ty p = do
    require 22 (eqb p.type ty)
    pure (record { storage = p.storage; offset = p.offset; ty = ty; is_bit = is_one p.bit })

  unfoldable pub location_in : Base → ℕ → ℕ → Lower Location
  location_in b o ty = do
    within (b.offset + o)
    pure (record { storage = b.storage; offset = b.offset + o; ty = ty; is_bit = false })

  unfoldable pub resolve_place : Place → ℕ → Lower Location
  resolve_place (variable k) ty = do
    p ← or_refuse 20 (nth T.variables k)
    with_type ty p
  resolve_place (static k) ty = do
    p ← or_refuse 20 (nth T.statics k)
    with_type ty p
  resolve_place (field p i) ty = do
    b ← resolve_place_base p
    f ← field_offset b.word b.args i
    require 22 (eqb f.ty ty)
    location_in b f.offset ty
  resolve_place (element p index) ty = do
    b ← resolve_place_base p
    f ← element_offset b.word b.args index
    require 22 (eqb f.ty ty)
    location_in b f.offset ty
  resolve_place (byte_offset p e) ty = do
    b ← resolve_place_base p
    n ← or_refuse 21 (constant_usize e)
    location_in b n ty
