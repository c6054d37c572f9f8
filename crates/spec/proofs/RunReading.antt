-- Reading bytes as a type: the value denotes the data that stands there.
use Prim.Native.Nat.{ℕ, zero, suc, ◌+◌, ◌<◌}
use mathlib.Core.Bool.{not}
use mathlib.Core.List.{List, [], ◌∷◌, map}
use mathlib.Core.Path.{◌≡◌, refl, ap, ◌∙◌}
use native.Mathlib.Nat.{le_trans}
use lib.Dec.{eqb}
use lib.ListN.{replicate}
use Rattle.spec.specs.Ticket.{Tables, type_at, arg, t_unit, t_bool, t_float, t_array, t_struct, t_tuple}
use Rattle.spec.specs.Lir.{Value, stored}
use Rattle.spec.specs.Monad.{Lower}
use Rattle.spec.specs.Allocation.{type_size, bytes_from}
use Rattle.spec.specs.ReadBytes.{read_elements, read_fields, read_plain, read_bool_byte, read_word, read_bytes_as_type}
use Rattle.numerics.specs.Numerics.{truth}
use Rattle.spec.specs.Machine.{Memory, Given, bytes_of, operands, defined, effect}
use Rattle.spec.specs.Eval.{Data, empty, flag, number, parts, Datas, no_data, part}
use Rattle.spec.proofs.RunBounds.{truth_lt}
use Rattle.spec.proofs.RunFrames.{Agree, fixed_stored}
use Rattle.spec.proofs.RunHoare.{From, ◌then◌, ◌next◌, ending, allocates_bit, emitting_one, purely, at_it, from_refuse}
use Rattle.spec.proofs.RunTyping.{Plain, plain_bits, plain_pointer, plain_opaque, has_unit, has_bool, has_number, has_array, has_struct, has_tuple}
use Rattle.spec.proofs.RunValues.{of_unit, of_bytes, Gives, GivesAll, here, sets, gathered, nothing_read, one_more}

module _ (T : Tables) (s : ℕ) where
  -- storage s holds d from offset o on, read as the type ty as deep as f: a bool is any byte, which is 0 or not
  mutual
    pub data Stands (M : Memory) : ℕ → ℕ → ℕ → Data → Type 0 where
      too_deep : {ty o : ℕ} {d : Data} → Stands M 0 ty o d
      as_float : {f ty o : ℕ} {d : Data} → (type_at T ty).word ≡ t_float → Stands M (suc f) ty o d
      as_unit : {f ty o : ℕ} → (type_at T ty).word ≡ t_unit → Stands M (suc f) ty o empty
      as_bool : {f ty o x : ℕ} → (type_at T ty).word ≡ t_bool → truth (not (eqb (M.byte s o) 0)) ≡ x → Stands M (suc f) ty o (flag x)
      as_number : {f ty o k x : ℕ} → Plain T ty x → (type_at T ty).size ≡ k → operands M (map stored (bytes_from s o k)) ≡ bytes_of k x
          → Stands M (suc f) ty o (number k x)
      as_array : {f ty o : ℕ} {ds : Datas} → (type_at T ty).word ≡ t_array
          → StandAll M f (replicate (arg (type_at T ty).args 1) (arg (type_at T ty).args 0)) o ds → Stands M (suc f) ty o (parts ds)
      as_struct : {f ty o : ℕ} {ds : Datas} → (type_at T ty).word ≡ t_struct → StandAll M f (type_at T ty).args o ds → Stands M (suc f) ty o (parts ds)
      as_tuple : {f ty o : ℕ} {ds : Datas} → (type_at T ty).word ≡ t_tuple → StandAll M f (type_at T ty).args o ds → Stands M (suc f) ty o (parts ds)

    pub data StandAll (M : Memory) : ℕ → List ℕ → ℕ → Datas → Type 0 where
      stand_none : {f o : ℕ} → StandAll M f [] o no_data
      stand_more : {f t o : ℕ} {ts : List ℕ} {d : Data} {ds : Datas} → Stands M f t o d → StandAll M f ts (o + type_size T t) ds
          → StandAll M f (t ∷ ts) o (part t d ds)

  mutual
    pub stands_later : {n f ty o : ℕ} {M M' : Memory} {d : Data} → s < n → Agree n M M' → Stands M f ty o d → Stands M' f ty o d
    stands_later h a too_deep = too_deep
    stands_later h a (as_float e) = as_float e
    stands_later h a (as_unit e) = as_unit e
    stands_later h a (as_bool {o = o} e p) = as_bool e (ap (λ (b : ℕ). truth (not (eqb b 0))) (a.bytes s o h) ∙ p)
    stands_later {n} {M = M} {M' = M'} h a (as_number {o = o} {k = k} {x = x} q z p) = as_number q z ((fixed_stored n s h k o M (bytes_of k x) p).holds M' a)
    stands_later h a (as_array e ps) = as_array e (stand_later h a ps)
    stands_later h a (as_struct e ps) = as_struct e (stand_later h a ps)
    stands_later h a (as_tuple e ps) = as_tuple e (stand_later h a ps)

    pub stand_later : {n f o : ℕ} {M M' : Memory} {ts : List ℕ} {ds : Datas} → s < n → Agree n M M' → StandAll M f ts o ds → StandAll M' f ts o ds
    stand_later h a stand_none = stand_none
    stand_later h a (stand_more p ps) = stand_more (stands_later h a p) (stand_later h a ps)

  -- ------------------------------------------------------------ the steps of reading

  module _ (G : Given) where
    -- rd reads types as deep as f
    abbrev Reader : ℕ → (ℕ → ℕ → Lower Value) → Type 0
    Reader f rd = (ty o n : ℕ) (M : Memory) (d : Data) → s < n → Stands M f ty o d → From G n M (rd ty o) (Gives T n M ty d)

    module _ {f : ℕ} (rd : ℕ → ℕ → Lower Value) (R : Reader f rd) where
      fields_read : (ts : List ℕ) {n : ℕ} {M : Memory} (o : ℕ) (ds : Datas) → s < n → StandAll M f ts o ds → From G n M (read_fields T rd o ts) (GivesAll T n M ts ds)
      unfolding read_fields
      fields_read [] o ds h stand_none = nothing_read G T
      fields_read (t ∷ ts) {n} {M} o ds h (stand_more {d = d} {ds = es} p ps) =
          ◌then◌ G (R t o n M d h p) (one_more G T (λ n₁ M₁ l a. fields_read ts _ es (le_trans h l) (stand_later h a ps)))

      elements_read : (t k : ℕ) {n : ℕ} {M : Memory} (o : ℕ) (ds : Datas) → s < n → StandAll M f (replicate k t) o ds
          → From G n M (read_elements (rd t) (type_size T t) o k) (GivesAll T n M (replicate k t) ds)
      unfolding read_elements
      elements_read t zero o ds h stand_none = nothing_read G T
      elements_read t (suc k) {n} {M} o ds h (stand_more {d = d} {ds = es} p ps) =
          ◌then◌ G (R t o n M d h p) (one_more G T (λ n₁ M₁ l a. elements_read t k _ es (le_trans h l) (stand_later h a ps)))

    plain_read : {n : ℕ} {M : Memory} (ty k x o : ℕ) → s < n → Plain T ty x → (type_at T ty).size ≡ k → operands M (map stored (bytes_from s o k)) ≡ bytes_of k x
        → From G n M (read_plain T s ty o) (Gives T n M ty (number k x))
    unfolding read_plain type_size
    plain_read {n} {M} ty k x o h q z p =
        rw z (ending G (purely G _) (here (has_number q z) (of_bytes (fixed_stored n s h k o M (bytes_of k x) p))))

    bool_read : {n : ℕ} {M : Memory} (ty o x : ℕ) → (type_at T ty).word ≡ t_bool → truth (not (eqb (M.byte s o) 0)) ≡ x
        → From G n M (read_bool_byte T s ty o) (Gives T n M ty (flag x))
    unfolding read_bool_byte defined effect
    bool_read {M = M} ty o x e p =
        ◌then◌ G (allocates_bit G _) (at_it G (◌next◌ G (emitting_one G _ refl) (at_it G (ending G (purely G _)
        (rw p (sets x (has_bool e (rw p at (truth_lt (not (eqb (M.byte s o) 0)))))))))))

    word_read : {f n : ℕ} {M : Memory} (rd : ℕ → ℕ → Lower Value) → Reader f rd → (ty o : ℕ) (d : Data) → s < n → Stands M (suc f) ty o d
        → From G n M (read_word T rd s ty o (type_at T ty).word (type_at T ty).args) (Gives T n M ty d)
    unfolding read_word
    word_read rd R ty o d h (as_float e) = rw e (from_refuse G)
    word_read rd R ty o d h (as_unit e) = rw e (ending G (purely G _) (here (has_unit e) of_unit))
    word_read rd R ty o d h (as_bool {x = x} e p) = rw e (bool_read ty o x e p)
    word_read rd R ty o d h (as_number {k = k} {x = x} (plain_bits e l) z p) = rw e (plain_read ty k x o h (plain_bits e l) z p)
    word_read rd R ty o d h (as_number {k = k} {x = x} (plain_pointer e l) z p) = rw e (plain_read ty k x o h (plain_pointer e l) z p)
    word_read rd R ty o d h (as_number {k = k} {x = x} (plain_opaque e l) z p) = rw e (plain_read ty k x o h (plain_opaque e l) z p)
    word_read rd R ty o d h (as_array {ds = ds} e q) = rw e (◌then◌ G (elements_read rd R _ _ o ds h q) (gathered G T (has_array e)))
    word_read rd R ty o d h (as_struct {ds = ds} e q) = rw e (◌then◌ G (fields_read rd R _ o ds h q) (gathered G T (has_struct e)))
    word_read rd R ty o d h (as_tuple {ds = ds} e q) = rw e (◌then◌ G (fields_read rd R _ o ds h q) (gathered G T (has_tuple e)))

    -- THE STEP of reading: any type whose bytes stand in the storage; one that is too deep is refused
    pub type_read : (f : ℕ) → Reader f (λ ty o. read_bytes_as_type T f s ty o)
    unfolding read_bytes_as_type
    type_read zero ty o n M d h p = from_refuse G
    type_read (suc f) ty o n M d h p = word_read (λ t i. read_bytes_as_type T f s t i) (type_read f) ty o d h p
