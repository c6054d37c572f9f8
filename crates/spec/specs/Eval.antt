-- What an expression means in a memory, by the WebAssembly numerics; what a lowered value's pieces hold; and when reads are in order.
use Rattle.std.specs.Prelude.{ℕ, zero, suc, ◌+◌, ◌%◌, ◌^◌, Bool, true, false, ◌&&◌, not, List, [], ◌∷◌, map, eqb, leb, ltb}
use Rattle.std.specs.Prelude.{Option, None, Some}
use Rattle.numerics.specs.Numerics.{truth, iadd, isub, imul, idiv_u, idiv_s, irem_u, irem_s, iand, ior, ixor, inot, ineg, ishl, ishr_u, ishr_s, irotl, irotr, iclz, ictz, ipopcnt, ieq, ine, ilt_u, ilt_s, igt_u, igt_s, ile_u, ile_s, ige_u, ige_s, wrap, extend_u, extend_s, iadd_sat_u, iadd_sat_s, isub_sat_u, isub_sat_s}
use Rattle.spec.specs.Limits.{type_depth_limit}
use Rattle.spec.specs.Hir.{Expr, boolean, integer, float32, float64, null_pointer, static_address, function_address, read, integer_unary, integer_binary, float_unary, float_binary, compare, convert, select, address_of, pointer_offset, aggregate, extract_element, insert_element, Exprs, no_exprs, ◌∷ᵉ◌, Place, IntegerUnaryOp, IntegerBinaryOp, CompareOp, ConversionOp, signed, unsigned}
use Rattle.spec.specs.Hir as hir
use Rattle.spec.specs.Ticket.{TypeWord, t_unit, t_bool, t_bits, t_float, t_pointer, t_array, t_struct, t_tuple, t_opaque, StorageLine, Tables, type_at, storage_at, arg, nowhere}
use Rattle.spec.specs.Lir.{stored, ByteOperand, Value, value, Repr, unit, bit_value, bytes_value, Values, no_values, ◌∷ᵛ◌}
use Rattle.spec.specs.Lir as lir
use Rattle.spec.specs.Monad.{Outcome, refused, done, Counters}
use Rattle.spec.specs.Operands.{nth}
use Rattle.spec.specs.Allocation.{type_size, Location, bytes_from}
use Rattle.spec.specs.Places.{Base, resolve_place, resolve_place_base}
use Rattle.spec.specs.Machine.{Memory, Given, le, operands, bit_of, pick}
use Rattle.spec.specs.Typed.{type_of, width}

-- ---------------------------------------------------------------- data

-- what a value stands for: nothing, a bit, a number with its count of bytes, or parts, each with its type
mutual
  pub data Data : Type 0 where
    empty : Data
    flag : ℕ → Data
    number : ℕ → ℕ → Data
    parts : Datas → Data

  pub data Datas : Type 0 where
    no_data : Datas
    part : ℕ → Data → Datas → Datas

abbrev count : List ByteOperand → ℕ
count [] = 0
count (b ∷ bs) = suc (count bs)

-- what a lowered value's pieces hold
unfoldable mutual
  pub data_of : Memory → Value → Data
  data_of M (value ty r) = repr_data M r

  pub repr_data : Memory → Repr → Data
  repr_data M unit = empty
  repr_data M (bit_value b) = flag (bit_of M b)
  repr_data M (bytes_value bs) = number (count bs) (le (operands M bs))
  repr_data M (lir.aggregate vs) = parts (datas_of M vs)

  pub datas_of : Memory → Values → Datas
  datas_of M no_values = no_data
  datas_of M (v ∷ᵛ vs) = part (type_in v) (data_of M v) (datas_of M vs)
    where
      type_in : Value → ℕ
      type_in (value ty r) = ty

abbrev pub number_in : Data → ℕ
number_in empty = 0
number_in (flag x) = x
number_in (number k x) = x
number_in (parts ds) = 0

-- a condition holds where its bit is 1 or its number is not 0
abbrev pub holds : Data → Bool
holds d = not (eqb (number_in d) 0)

abbrev pub parts_in : Data → Datas
parts_in empty = no_data
parts_in (flag x) = no_data
parts_in (number k x) = no_data
parts_in (parts ds) = ds

unfoldable pub part_at : Datas → ℕ → Option Data
part_at no_data i = None
part_at (part t d ds) zero = Some d
part_at (part t d ds) (suc i) = part_at ds i

abbrev cons_part : ℕ → Data → Option Datas → Option Datas
cons_part t d None = None
cons_part t d (Some ds) = Some (part t d ds)

unfoldable pub set_part : Datas → ℕ → ℕ → Data → Option Datas
set_part no_data i u e = None
set_part (part t d ds) zero u e = Some (part u e ds)
set_part (part t d ds) (suc i) u e = cons_part t d (set_part ds i u e)

-- ---------------------------------------------------------------- operators

unfoldable pub unary_numeric : IntegerUnaryOp → ℕ → ℕ → ℕ
unary_numeric hir.negate = ineg
unary_numeric hir.not = inot
unary_numeric hir.count_leading_zeros = iclz
unary_numeric hir.count_trailing_zeros = ictz
unary_numeric hir.population_count = ipopcnt

unfoldable pub binary_numeric : IntegerBinaryOp → ℕ → ℕ → ℕ → Option ℕ
binary_numeric hir.add N i j = Some (iadd N i j)
binary_numeric hir.subtract N i j = Some (isub N i j)
binary_numeric hir.multiply N i j = Some (imul N i j)
binary_numeric (hir.divide signed) N i j = idiv_s N i j
binary_numeric (hir.divide unsigned) N i j = idiv_u N i j
binary_numeric (hir.remainder signed) N i j = irem_s N i j
binary_numeric (hir.remainder unsigned) N i j = irem_u N i j
binary_numeric hir.and N i j = Some (iand N i j)
binary_numeric hir.or N i j = Some (ior N i j)
binary_numeric hir.xor N i j = Some (ixor N i j)
binary_numeric hir.shift_left N i j = Some (ishl N i j)
binary_numeric (hir.shift_right signed) N i j = Some (ishr_s N i j)
binary_numeric (hir.shift_right unsigned) N i j = Some (ishr_u N i j)
binary_numeric hir.rotate_left N i j = Some (irotl N i j)
binary_numeric hir.rotate_right N i j = Some (irotr N i j)
binary_numeric (hir.saturating_add signed) N i j = Some (iadd_sat_s N i j)
binary_numeric (hir.saturating_add unsigned) N i j = Some (iadd_sat_u N i j)
binary_numeric (hir.saturating_subtract signed) N i j = Some (isub_sat_s N i j)
binary_numeric (hir.saturating_subtract unsigned) N i j = Some (isub_sat_u N i j)

-- floats have no meaning here
unfoldable pub compare_numeric : CompareOp → ℕ → ℕ → ℕ → Option ℕ
compare_numeric hir.equal N i j = Some (ieq N i j)
compare_numeric hir.not_equal N i j = Some (ine N i j)
compare_numeric (hir.less_than signed) N i j = Some (ilt_s N i j)
compare_numeric (hir.less_than unsigned) N i j = Some (ilt_u N i j)
compare_numeric (hir.less_than_or_equal signed) N i j = Some (ile_s N i j)
compare_numeric (hir.less_than_or_equal unsigned) N i j = Some (ile_u N i j)
compare_numeric (hir.greater_than signed) N i j = Some (igt_s N i j)
compare_numeric (hir.greater_than unsigned) N i j = Some (igt_u N i j)
compare_numeric (hir.greater_than_or_equal signed) N i j = Some (ige_s N i j)
compare_numeric (hir.greater_than_or_equal unsigned) N i j = Some (ige_u N i j)
compare_numeric hir.float_equal N i j = None
compare_numeric hir.float_not_equal N i j = None
compare_numeric hir.float_less_than N i j = None
compare_numeric hir.float_less_than_or_equal N i j = None
compare_numeric hir.float_greater_than N i j = None
compare_numeric hir.float_greater_than_or_equal N i j = None

-- ---------------------------------------------------------------- what stands at a place

abbrev outcome : {A : Type 0} → Outcome A → Option A
outcome (refused n l) = None
outcome (done a c o) = Some a

abbrev no_counters : Counters
no_counters = record { storage = 0; temporary = 0 }

abbrev then : {A B : Type 0} → Option A → (A → Option B) → Option B
then None f = None
then (Some a) f = f a

abbrev mapped : {A B : Type 0} → (A → B) → Option A → Option B
mapped f None = None
mapped f (Some a) = Some (f a)

module _ (T : Tables) where
  unfoldable pub located : Place → ℕ → Option Location
  located p ty = outcome (resolve_place T p ty nowhere no_counters)

  unfoldable pub based : Place → Option Base
  based p = outcome (resolve_place_base T p nowhere no_counters)

  module _ (M : Memory) (s : ℕ) where
    unfoldable pub plain_data : ℕ → ℕ → Data
    plain_data ty o = number (type_size T ty) (le (operands M (map stored (bytes_from s o (type_size T ty)))))

    unfoldable pub element_data : (ℕ → ℕ → Data) → ℕ → ℕ → ℕ → Datas
    element_data rd t o zero = no_data
    element_data rd t o (suc n) = part t (rd t o) (element_data rd t (o + type_size T t) n)

    unfoldable pub field_data : (ℕ → ℕ → Data) → ℕ → List ℕ → Datas
    field_data rd o [] = no_data
    field_data rd o (t ∷ ts) = part t (rd t o) (field_data rd (o + type_size T t) ts)

    unfoldable pub word_data : (ℕ → ℕ → Data) → ℕ → ℕ → TypeWord → List ℕ → Data
    word_data rd ty o t_unit xs = empty
    word_data rd ty o t_bool xs = flag (truth (not (eqb (M.byte s o) 0)))
    word_data rd ty o t_bits xs = plain_data ty o
    word_data rd ty o t_float xs = empty
    word_data rd ty o t_pointer xs = plain_data ty o
    word_data rd ty o t_array xs = parts (element_data rd (arg xs 0) o (arg xs 1))
    word_data rd ty o t_struct xs = parts (field_data rd o xs)
    word_data rd ty o t_tuple xs = parts (field_data rd o xs)
    word_data rd ty o t_opaque xs = plain_data ty o

    -- what storage s holds from offset o on, as the type ty
    unfoldable pub stored_data : ℕ → ℕ → ℕ → Data
    stored_data zero ty o = empty
    stored_data (suc d) ty o = word_data (λ t p. stored_data d t p) ty o (type_at T ty).word (type_at T ty).args

  abbrev data_at : Memory → Location → Bool → Data
  data_at M l true = flag (M.bit l.storage)
  data_at M l false = stored_data M l.storage type_depth_limit l.ty l.offset

  unfoldable pub read_data : Memory → Place → ℕ → Option Data
  read_data M p ty = then (located p ty) (λ l. Some (data_at M l l.is_bit))

  -- ------------------------------------------------------------ the expression

  abbrev bits_data : ℕ → ℕ → Data
  bits_data ty n = number (type_size T ty) n

  abbrev pointer_data : ℕ → Data
  pointer_data n = number 2 (n % 65536)

  unfoldable pub conversion_data : ConversionOp → ℕ → ℕ → Data → Option Data
  conversion_data hir.truncate s t d = Some (bits_data t (wrap (width T s) (width T t) (number_in d)))
  conversion_data hir.zero_extend s t d = Some (bits_data t (extend_u (width T s) (width T t) (number_in d)))
  conversion_data hir.sign_extend s t d = Some (bits_data t (extend_s (width T s) (width T t) (number_in d)))
  conversion_data (hir.integer_to_float x) s t d = None
  conversion_data (hir.float_to_integer x y) s t d = None
  conversion_data hir.promote_float s t d = None
  conversion_data hir.demote_float s t d = None
  conversion_data hir.reinterpret s t d = Some d
  conversion_data hir.boolean_to_integer s t d = Some (bits_data t (number_in d))
  conversion_data hir.integer_to_boolean s t d = Some (flag (ine (width T s) (number_in d) 0))

  module _ (G : Given) (M : Memory) where
    -- none where Wasm leaves a division undefined, or where the expression has no lowering
    unfoldable mutual
      pub eval : Expr → Option Data
      eval (boolean h b) = Some (flag b)
      eval (integer h v) = Some (bits_data h.ty v)
      eval (float32 h v) = None
      eval (float64 h v) = None
      eval (null_pointer h) = Some (pointer_data 0)
      eval (static_address h k o) = then (nth T.statics k) (λ p. Some (pointer_data (G.base p.storage + o)))
      eval (function_address h f) = Some (pointer_data (G.function f))
      eval (read h p) = read_data M p h.ty
      eval (integer_unary h op e) = then (eval e) (λ d. Some (bits_data h.ty (unary_numeric op (width T h.ty) (number_in d))))
      eval (integer_binary h op l r) =
          then (eval l) (λ c. then (eval r) (λ d.
          mapped (bits_data h.ty) (binary_numeric op (width T h.ty) (number_in c) (number_in d))))
      eval (float_unary h e) = None
      eval (float_binary h l r) = None
      eval (compare h op l r) =
          then (eval l) (λ c. then (eval r) (λ d.
          mapped flag (compare_numeric op (width T (type_of l)) (number_in c) (number_in d))))
      eval (convert h op e) = then (eval e) (conversion_data op (type_of e) h.ty)
      eval (select h t f c) = then (eval t) (λ x. then (eval f) (λ y. then (eval c) (λ d. Some (pick (holds d) x y))))
      eval (address_of h p) = then (based p) (λ b. Some (pointer_data (G.base b.storage + b.offset)))
      eval (pointer_offset h b o) = then (eval b) (λ c. then (eval o) (λ d. Some (pointer_data (number_in c + number_in d))))
      eval (aggregate h es) = mapped parts (evals es)
      eval (extract_element h e i) = then (eval e) (λ d. part_at (parts_in d) i)
      eval (insert_element h e i w) =
          then (eval e) (λ d. then (eval w) (λ x. mapped parts (set_part (parts_in d) i (type_of w) x)))

      pub evals : Exprs → Option Datas
      evals no_exprs = Some no_data
      evals (e ∷ᵉ es) = then (eval e) (λ d. mapped (part (type_of e) d) (evals es))

-- ---------------------------------------------------------------- premises of the running claims

-- a storage's bytes: 1 for kind 1, LENGTH for kind 2, none for 0 and 3
unfoldable pub storage_bytes : StorageLine → ℕ
storage_bytes s = pick (eqb s.kind 1) 1 (pick (eqb s.kind 2) s.len 0)

module _ (T : Tables) where
  abbrev ends_inside : Location → Bool → Bool
  ends_inside l true = eqb (storage_at T l.storage).kind 0
  ends_inside l false = leb (l.offset + type_size T l.ty) (storage_bytes (storage_at T l.storage))

  abbrev inside_by : Option Location → Bool
  inside_by None = true
  inside_by (Some l) = ends_inside l l.is_bit

  -- a read ends inside its storage; a BIT 1 read names a kind 0 storage
  unfoldable pub read_inside : Place → ℕ → Bool
  read_inside p ty = inside_by (located T p ty)

  -- numbers fit their types' widths
  module _ (fit : ℕ → Data → Bool) where
    abbrev fit_parts : Datas → Bool
    fit_parts no_data = true
    fit_parts (part t d ds) = fit t d && fit_parts ds

    abbrev fit_word : TypeWord → List ℕ → Data → Bool
    fit_word t_unit xs d = true
    fit_word t_bool xs d = true
    fit_word t_bits xs d = ltb (number_in d) (2 ^ arg xs 0)
    fit_word t_float xs d = true
    fit_word t_pointer xs d = true
    fit_word t_array xs d = fit_parts (parts_in d)
    fit_word t_struct xs d = fit_parts (parts_in d)
    fit_word t_tuple xs d = fit_parts (parts_in d)
    fit_word t_opaque xs d = true

  unfoldable pub fits : ℕ → ℕ → Data → Bool
  fits zero ty d = true
  fits (suc k) ty d = fit_word (λ t e. fits k t e) (type_at T ty).word (type_at T ty).args d

  abbrev fits_by : ℕ → Option Data → Bool
  fits_by ty None = true
  fits_by ty (Some d) = fits type_depth_limit ty d

  -- every read inside, every constant and number read fitting its width
  module _ (M : Memory) where
    unfoldable mutual
      pub in_order : Expr → Bool
      in_order (boolean h b) = true
      in_order (integer h v) = fits type_depth_limit h.ty (number 0 v)
      in_order (float32 h v) = true
      in_order (float64 h v) = true
      in_order (null_pointer h) = true
      in_order (static_address h k o) = true
      in_order (function_address h f) = true
      in_order (read h p) = read_inside p h.ty && fits_by h.ty (read_data T M p h.ty)
      in_order (integer_unary h op e) = in_order e
      in_order (integer_binary h op l r) = in_order l && in_order r
      in_order (float_unary h e) = in_order e
      in_order (float_binary h l r) = in_order l && in_order r
      in_order (compare h op l r) = in_order l && in_order r
      in_order (convert h op e) = in_order e
      in_order (select h t f c) = in_order t && in_order f && in_order c
      in_order (address_of h p) = true
      in_order (pointer_offset h b o) = in_order b && in_order o
      in_order (aggregate h es) = all_in_order es
      in_order (extract_element h e i) = in_order e
      in_order (insert_element h e i w) = in_order e && in_order w

      pub all_in_order : Exprs → Bool
      all_in_order no_exprs = true
      all_in_order (e ∷ᵉ es) = in_order e && all_in_order es
