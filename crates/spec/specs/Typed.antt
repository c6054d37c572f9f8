-- Document 01's 'rightly typed' and 'single operation', as tests of an expression.
use Rattle.std.specs.Prelude.{ℕ, suc, Bool, true, false, ◌&&◌, ◌||◌, List, eqb, leb, ltb}
use Rattle.std.specs.Prelude.{Option, None, Some}
use Rattle.spec.specs.Hir.{At, Expr, boolean, integer, float32, float64, null_pointer, static_address, function_address, read, integer_unary, integer_binary, float_unary, float_binary, compare, convert, select, address_of, pointer_offset, aggregate, extract_element, insert_element, Exprs, no_exprs, ◌∷ᵉ◌, ConversionOp}
use Rattle.spec.specs.Hir as hir
use Rattle.spec.specs.Ticket.{TypeWord, t_unit, t_bool, t_bits, t_float, t_pointer, t_array, t_struct, t_tuple, t_opaque, Tables, type_at, arg}
use Rattle.spec.specs.Operands.{nth}
use Rattle.spec.specs.Allocation.{bool_type, pointer_type}

-- where a node stands; its TYPE is the expression's type
abbrev pub at_of : Expr → At
at_of (boolean h b) = h
at_of (integer h v) = h
at_of (float32 h v) = h
at_of (float64 h v) = h
at_of (null_pointer h) = h
at_of (static_address h k o) = h
at_of (function_address h f) = h
at_of (read h p) = h
at_of (integer_unary h op e) = h
at_of (integer_binary h op l r) = h
at_of (float_unary h e) = h
at_of (float_binary h l r) = h
at_of (compare h op l r) = h
at_of (convert h op e) = h
at_of (select h t f c) = h
at_of (address_of h p) = h
at_of (pointer_offset h b o) = h
at_of (aggregate h es) = h
at_of (extract_element h e i) = h
at_of (insert_element h e i v) = h

abbrev pub type_of : Expr → ℕ
type_of e = (at_of e).ty

abbrev pub is_bits_word : TypeWord → Bool
is_bits_word t_unit = false
is_bits_word t_bool = false
is_bits_word t_bits = true
is_bits_word t_float = false
is_bits_word t_pointer = false
is_bits_word t_array = false
is_bits_word t_struct = false
is_bits_word t_tuple = false
is_bits_word t_opaque = false

-- the type of part i: of an array's element, a struct's or a tuple's field
abbrev array_part : ℕ → ℕ → ℕ → Option ℕ
array_part element len i = elim (ltb i len) [ true ↦ Some element | false ↦ None ]

abbrev pub part_of_word : TypeWord → List ℕ → ℕ → Option ℕ
part_of_word t_unit xs i = None
part_of_word t_bool xs i = None
part_of_word t_bits xs i = None
part_of_word t_float xs i = None
part_of_word t_pointer xs i = None
part_of_word t_array xs i = array_part (arg xs 0) (arg xs 1) i
part_of_word t_struct xs i = nth xs i
part_of_word t_tuple xs i = nth xs i
part_of_word t_opaque xs i = None

-- a type with elements or fields, if only none of them: an aggregate of another TYPE matches nothing
abbrev pub has_parts : TypeWord → Bool
has_parts t_unit = false
has_parts t_bool = false
has_parts t_bits = false
has_parts t_float = false
has_parts t_pointer = false
has_parts t_array = true
has_parts t_struct = true
has_parts t_tuple = true
has_parts t_opaque = false

abbrev is_type : Option ℕ → ℕ → Bool
is_type None ty = false
is_type (Some t) ty = eqb t ty

module _ (T : Tables) where
  unfoldable pub is_bits : ℕ → Bool
  is_bits ty = is_bits_word (type_at T ty).word

  abbrev pub width : ℕ → ℕ
  width ty = arg (type_at T ty).args 0

  unfoldable pub part_type : ℕ → ℕ → Option ℕ
  part_type ty i = part_of_word (type_at T ty).word (type_at T ty).args i

  -- bits 16 and pointer
  abbrev address_like : ℕ → ℕ → Bool
  address_like s t = is_bits s && eqb (width s) 16 && eqb t pointer_type

  -- from the type s to the type t
  unfoldable pub conversion_typed : ConversionOp → ℕ → ℕ → Bool
  conversion_typed hir.truncate s t = is_bits s && is_bits t && leb (width t) (width s)
  conversion_typed hir.zero_extend s t = is_bits s && is_bits t && leb (width s) (width t)
  conversion_typed hir.sign_extend s t = is_bits s && is_bits t && leb (width s) (width t)
  conversion_typed (hir.integer_to_float x) s t = false
  conversion_typed (hir.float_to_integer x y) s t = false
  conversion_typed hir.promote_float s t = false
  conversion_typed hir.demote_float s t = false
  conversion_typed hir.reinterpret s t = eqb s t || address_like s t || address_like t s
  conversion_typed hir.boolean_to_integer s t = eqb s bool_type && is_bits t
  conversion_typed hir.integer_to_boolean s t = is_bits s && eqb t bool_type

  -- a place's index is looked at and not lowered, so its type does not matter
  unfoldable mutual
    pub typed : Expr → Bool
    typed (boolean h b) = eqb h.ty bool_type
    typed (integer h v) = is_bits h.ty
    typed (float32 h v) = false
    typed (float64 h v) = false
    typed (null_pointer h) = eqb h.ty pointer_type
    typed (static_address h k o) = eqb h.ty pointer_type
    typed (function_address h f) = eqb h.ty pointer_type
    typed (read h p) = true
    typed (integer_unary h op e) = is_bits h.ty && eqb (type_of e) h.ty && typed e
    typed (integer_binary h op l r) = is_bits h.ty && eqb (type_of l) h.ty && eqb (type_of r) h.ty && typed l && typed r
    typed (float_unary h e) = false
    typed (float_binary h l r) = false
    typed (compare h op l r) = eqb h.ty bool_type && is_bits (type_of l) && eqb (type_of r) (type_of l) && typed l && typed r
    typed (convert h op e) = conversion_typed op (type_of e) h.ty && typed e
    typed (select h t f c) =
        eqb (type_of t) h.ty && eqb (type_of f) h.ty && (eqb (type_of c) bool_type || is_bits (type_of c)) && typed t && typed f && typed c
    typed (address_of h p) = eqb h.ty pointer_type
    typed (pointer_offset h b o) = eqb h.ty pointer_type && eqb (type_of b) pointer_type && is_bits (type_of o) && typed b && typed o
    typed (aggregate h es) = has_parts (type_at T h.ty).word && parts_typed es h.ty 0
    typed (extract_element h e i) = is_type (part_type (type_of e) i) h.ty && typed e
    typed (insert_element h e i w) = eqb (type_of e) h.ty && is_type (part_type h.ty i) (type_of w) && typed e && typed w

    -- the parts from i on are those of the type, no more and no fewer
    pub parts_typed : Exprs → ℕ → ℕ → Bool
    parts_typed no_exprs ty i = elim (part_type ty i) [ None ↦ true | Some t ↦ false ]
    parts_typed (e ∷ᵉ es) ty i = is_type (part_type ty i) (type_of e) && typed e && parts_typed es ty (suc i)

-- ---------------------------------------------------------------- a single operation

-- a read, or `bool`, `int` or `null`
unfoldable pub is_leaf : Expr → Bool
is_leaf (boolean h b) = true
is_leaf (integer h v) = true
is_leaf (float32 h v) = false
is_leaf (float64 h v) = false
is_leaf (null_pointer h) = true
is_leaf (static_address h k o) = false
is_leaf (function_address h f) = false
is_leaf (read h p) = true
is_leaf (integer_unary h op e) = false
is_leaf (integer_binary h op l r) = false
is_leaf (float_unary h e) = false
is_leaf (float_binary h l r) = false
is_leaf (compare h op l r) = false
is_leaf (convert h op e) = false
is_leaf (select h t f c) = false
is_leaf (address_of h p) = false
is_leaf (pointer_offset h b o) = false
is_leaf (aggregate h es) = false
is_leaf (extract_element h e i) = false
is_leaf (insert_element h e i v) = false

-- one unary, binary, compare or convert over leaves
unfoldable pub single_operation : Expr → Bool
single_operation (boolean h b) = false
single_operation (integer h v) = false
single_operation (float32 h v) = false
single_operation (float64 h v) = false
single_operation (null_pointer h) = false
single_operation (static_address h k o) = false
single_operation (function_address h f) = false
single_operation (read h p) = false
single_operation (integer_unary h op e) = is_leaf e
single_operation (integer_binary h op l r) = is_leaf l && is_leaf r
single_operation (float_unary h e) = false
single_operation (float_binary h l r) = false
single_operation (compare h op l r) = is_leaf l && is_leaf r
single_operation (convert h op e) = is_leaf e
single_operation (select h t f c) = false
single_operation (address_of h p) = false
single_operation (pointer_offset h b o) = false
single_operation (aggregate h es) = false
single_operation (extract_element h e i) = false
single_operation (insert_element h e i v) = false
