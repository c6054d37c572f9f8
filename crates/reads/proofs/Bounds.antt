-- How much reading a type appends, and how many records its value has: by its size and its weight.
use Rattle.std.specs.Prelude.{◌≡◌, List, ◌∷◌, ◌++◌, [], ℕ, zero, suc, ◌+◌, ◌*◌, ◌≤◌, length}
use Rattle.std.proofs.Common.{subst, arith, zero-le, length-append}
use Rattle.spec.specs.Hir as hir
use Rattle.spec.specs.Ticket.{TypeWord, t_unit, t_bool, t_bits, t_float, t_pointer, t_array, t_struct, t_tuple, t_opaque, Tables, type_at, arg, sum, type_size_by, weight_by}
use Rattle.spec.specs.Readable.{TypesRight}
use Rattle.spec.specs.Lir.{Value, value, aggregate, Values}
use Rattle.spec.specs.Monad.{Out, Outcome, done, refused, Lower, nothing, prepend, bind_to, ◌>>=◌, ◌>>◌}
use Rattle.spec.specs.Monad as monad
use Rattle.spec.specs.Allocation.{type_size, allocate_storage, allocate_bit_temporary}
use Rattle.spec.specs.ReadBytes.{read_elements, read_fields, read_plain, read_bool_byte, read_word, read_bytes_as_type}
use Rattle.values.specs.Heads.{parts_of, preorders}
use Rattle.values.specs.Laws.{cons_to}
use Rattle.reads.specs.Reading.{size_of, weight_of}

-- at most k storages and k instructions, and w records
abbrev FewCase : ℕ → ℕ → Outcome Value → Type 0
FewCase k w (refused n l) = Unit {0}
FewCase k w (done v c o) = (length o.storages ≤ k) × (length o.instructions ≤ k) × (length (parts_of v) + 1 ≤ w)

abbrev FewListCase : ℕ → ℕ → Outcome Values → Type 0
FewListCase k w (refused n l) = Unit {0}
FewListCase k w (done vs c o) = (length o.storages ≤ k) × (length o.instructions ≤ k) × (length (preorders vs) ≤ w)

pub record Few (k w : ℕ) (x : Outcome Value) : Type 0 where
  pub shown : FewCase k w x

record FewList (k w : ℕ) (x : Outcome Values) : Type 0 where
  pub shown : FewListCase k w x

pub few_done : {k w : ℕ} {x : Outcome Value} {v : Value} {c : monad.Counters} {o : Out} → Few k w x → x ≡ done v c o
    → (length o.storages ≤ k) × (length o.instructions ≤ k) × (length (parts_of v) + 1 ≤ w)
few_done {k} {w} f e = subst (λ (z : Outcome Value). FewCase k w z) e f.shown

-- ---------------------------------------------------------------- one after the other

few_cons_in : (k w k' w' : ℕ) (v : Value) (o : Out) (h : hir.At) → (length o.storages ≤ k) × (length o.instructions ≤ k) × (length (parts_of v) + 1 ≤ w)
    → (y : Outcome Values) → FewListCase k' w' y → FewListCase (k + k') (w + w') (prepend o (bind_to (cons_to v) h y))
few_cons_in k w k' w' v o h a (refused n l) b = tt
few_cons_in k w k' w' v o h a (done vs c p) b = (
  omega (arith, a.0, b.0, length-append o.storages (p.storages ++ []), length-append p.storages []),
  omega (arith, a.1, b.1, length-append o.instructions (p.instructions ++ []), length-append p.instructions []),
  omega (arith, a.2, b.2, length-append (parts_of v) (preorders vs)),
)

few_cons : (k w k' w' : ℕ) (rest : Lower Values) (h : hir.At) → ((c : monad.Counters) → FewList k' w' (rest h c))
    → (x : Outcome Value) → FewCase k w x → FewListCase (k + k') (w + w') (bind_to (λ v h c. bind_to (cons_to v) h (rest h c)) h x)
few_cons k w k' w' rest h f (refused n l) a = tt
few_cons k w k' w' rest h f (done v c o) a = few_cons_in k w k' w' v o h a (rest h c) (f c).shown

few_gathered : (k w ty : ℕ) (h : hir.At) (y : Outcome Values) → FewListCase k w y → FewCase k (1 + w) (bind_to (λ vs h c. done (value ty (aggregate vs)) c nothing) h y)
few_gathered k w ty h (refused n l) a = tt
few_gathered k w ty h (done vs c o) a =
    (omega (arith, a.0, length-append o.storages []), omega (arith, a.1, length-append o.instructions []), omega (arith, a.2))

-- ---------------------------------------------------------------- parts, and a type

module _ (T : Tables) (rd : ℕ → ℕ → Lower Value) (f : (t o : ℕ) (h : hir.At) (c : monad.Counters) → Few (size_of T t) (weight_of T t) (rd t o h c)) where
  few_fields : (ts : List ℕ) (o : ℕ) (h : hir.At) (c : monad.Counters) → FewList (sum (size_of T) ts) (sum (weight_of T) ts) (read_fields T rd o ts h c)
  unfolding read_fields ◌>>=◌
  few_fields [] o h c = record { shown = (zero-le, zero-le, zero-le) }
  few_fields (t ∷ ts) o h c =
      record { shown = few_cons (size_of T t) (weight_of T t) (sum (size_of T) ts) (sum (weight_of T) ts) (read_fields T rd (o + type_size T t) ts) h (few_fields ts (o + type_size T t) h) (rd t o h c) (f t o h c).shown }

  few_elements : (t n o : ℕ) (h : hir.At) (c : monad.Counters) → FewList (n * size_of T t) (n * weight_of T t) (read_elements (rd t) (type_size T t) o n h c)
  unfolding read_elements ◌>>=◌
  few_elements t zero o h c = record { shown = (zero-le, zero-le, zero-le) }
  few_elements t (suc n) o h c =
      let e : suc n * size_of T t ≡ size_of T t + n * size_of T t = omega arith in
      let g : suc n * weight_of T t ≡ weight_of T t + n * weight_of T t = omega arith in
      record { shown = rw (e, g) (few_cons (size_of T t) (weight_of T t) (n * size_of T t) (n * weight_of T t) (read_elements (rd t) (type_size T t) (o + type_size T t) n) h (few_elements t n (o + type_size T t) h) (rd t o h c) (f t o h c).shown) }

  few_word : (s ty o : ℕ) (w : TypeWord) (xs : List ℕ) (h : hir.At) (c : monad.Counters) → Few (type_size_by (size_of T) w xs) (weight_by (weight_of T) w xs) (read_word T rd s ty o w xs h c)
  unfolding read_word read_plain read_bool_byte allocate_bit_temporary allocate_storage ◌>>=◌ ◌>>◌
  few_word s ty o t_unit xs h c = record { shown = (zero-le, zero-le, omega arith) }
  few_word s ty o t_bool xs h c = record { shown = (omega arith, omega arith, omega arith) }
  few_word s ty o t_bits xs h c = record { shown = (zero-le, zero-le, omega arith) }
  few_word s ty o t_float xs h c = record { shown = tt }
  few_word s ty o t_pointer xs h c = record { shown = (zero-le, zero-le, omega arith) }
  few_word s ty o t_array xs h c =
      let e : size_of T (arg xs 0) * arg xs 1 ≡ arg xs 1 * size_of T (arg xs 0) = omega arith in
      record { shown = rw e (few_gathered (arg xs 1 * size_of T (arg xs 0)) (arg xs 1 * weight_of T (arg xs 0)) ty h (read_elements (rd (arg xs 0)) (type_size T (arg xs 0)) o (arg xs 1) h c) (few_elements (arg xs 0) (arg xs 1) o h c).shown) }
  few_word s ty o t_struct xs h c = record { shown = few_gathered (sum (size_of T) xs) (sum (weight_of T) xs) ty h (read_fields T rd o xs h c) (few_fields xs o h c).shown }
  few_word s ty o t_tuple xs h c = record { shown = few_gathered (sum (size_of T) xs) (sum (weight_of T) xs) ty h (read_fields T rd o xs h c) (few_fields xs o h c).shown }
  few_word s ty o t_opaque xs h c = record { shown = (zero-le, zero-le, omega arith) }

weight_by_least : (f : ℕ → ℕ) (w : TypeWord) (xs : List ℕ) → 1 ≤ weight_by f w xs
weight_by_least f t_unit xs = omega arith
weight_by_least f t_bool xs = omega arith
weight_by_least f t_bits xs = omega arith
weight_by_least f t_float xs = omega arith
weight_by_least f t_pointer xs = omega arith
weight_by_least f t_array xs = omega arith
weight_by_least f t_struct xs = omega arith
weight_by_least f t_tuple xs = omega arith
weight_by_least f t_opaque xs = omega arith

module _ (T : Tables) (R : TypesRight T) where
  -- every type weighs something
  pub weight_least : (ty : ℕ) → 1 ≤ weight_of T ty
  weight_least ty = rw (R.weighed ty) (weight_by_least (weight_of T) (type_at T ty).word (type_at T ty).args)

  pub few_read : (d s ty o : ℕ) (h : hir.At) (c : monad.Counters) → Few (size_of T ty) (weight_of T ty) (read_bytes_as_type T d s ty o h c)
  unfolding read_bytes_as_type
  few_read zero s ty o h c = record { shown = tt }
  few_read (suc d) s ty o h c =
      let g = few_word T (λ t p. read_bytes_as_type T d s t p) (λ t p. few_read d s t p) s ty o (type_at T ty).word (type_at T ty).args h c in
      rw (← (R.sized ty), ← (R.weighed ty)) at g
