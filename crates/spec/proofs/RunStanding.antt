-- What stands in a storage: what the meaning reads from a memory, and data written byte by byte.
use Prim.Native.Nat.{ℕ, zero, suc, ◌+◌, ◌*◌, ◌/◌, ◌%◌, ◌^◌, ◌<◌}
use mathlib.Core.Bool.{Bool, true, not, ◌&&◌}
use mathlib.Core.List.{List, [], ◌∷◌, ◌++◌, map}
use mathlib.Core.Path.{◌≡◌, refl, ap, ap₂, ◌∙◌}
use native.Mathlib.Omega.{arith}
use native.Mathlib.Nat.{pow-suc}
use lib.Dec.{eqb}
use borrow.Author.Tests.{ltb-true}
use lib.ListN.{length, replicate}
use Rattle.spec.specs.Ticket.{Tables, type_at, arg, TypeWord, t_unit, t_bool, t_bits, t_float, t_pointer, t_array, t_struct, t_tuple, t_opaque}
use Rattle.spec.specs.Readable.{TypesRight}
use Rattle.spec.specs.Lir.{stored}
use Rattle.spec.specs.Allocation.{type_size, bytes_from}
use Rattle.numerics.specs.Numerics.{truth}
use Rattle.spec.specs.Machine.{Memory, Proper, le, bytes_of, operands}
use Rattle.spec.specs.Eval.{Data, Datas, no_data, part, number_in, plain_data, element_data, field_data, word_data, stored_data, fits}
use Rattle.spec.proofs.RunLogic.{both}
use Rattle.spec.proofs.RunWords.{length_bytes_of}
use Rattle.spec.proofs.RunFrames.{heads, tails}
use Rattle.spec.proofs.RunTyping.{Plain, plain_bits, plain_pointer, plain_opaque, Has, has_unit, has_bool, has_number, has_array, has_struct, has_tuple, HasAll, has_none, has_more, by_word, image, images, has_size}
use Rattle.spec.proofs.RunReading.{Stands, StandAll, too_deep, as_float, as_unit, as_bool, as_number, as_array, as_struct, as_tuple, stand_none, stand_more}

-- ---------------------------------------------------------------- from a memory

-- the meaning's own test of parts
module _ (fit : ℕ → Data → Bool) where
  abbrev fit_parts : Datas → Bool
  fit_parts no_data = true
  fit_parts (part t d ds) = fit t d && fit_parts ds

module _ (M : Memory) (s : ℕ) (P : Proper M) where
  -- bytes are those of their number, which they hold
  canonical : (k o : ℕ) → operands M (map stored (bytes_from s o k)) ≡ bytes_of k (le (operands M (map stored (bytes_from s o k))))
  unfolding bytes_from bytes_of le
  canonical zero o = refl
  canonical (suc k) o =
      let b : M.byte s o < 256 = P.bytes s o in
      let rest : ℕ = le (operands M (map stored (bytes_from s (suc o) k))) in
      let e₀ : M.byte s o ≡ (M.byte s o + 256 * rest) % 256 = omega arith in
      let e₁ : rest ≡ (M.byte s o + 256 * rest) / 256 = omega arith in
      ap₂ (λ (x : ℕ) (l : List ℕ). x ∷ l) e₀ (canonical k (suc o) ∙ ap (bytes_of k) e₁)

  bounded : (k o : ℕ) → le (operands M (map stored (bytes_from s o k))) < 256 ^ k
  unfolding bytes_from le
  bounded zero o = omega arith
  bounded (suc k) o = let b : M.byte s o < 256 = P.bytes s o in let h = bounded k (suc o) in omega (arith, pow-suc 256 k)

  module _ (T : Tables) (R : TypesRight T) where
    plain_stands : {f : ℕ} (ty o : ℕ) → Plain T ty (number_in (plain_data T M s ty o)) → Stands T s M (suc f) ty o (plain_data T M s ty o)
    unfolding plain_data type_size
    plain_stands ty o q = as_number q refl (canonical (type_at T ty).size o)

    plain_bounded : (ty o k : ℕ) → (type_at T ty).size ≡ k → number_in (plain_data T M s ty o) < 256 ^ k
    unfolding plain_data type_size
    plain_bounded ty o k e = at_most (type_at T ty).size e (bounded (type_at T ty).size o)
      where
        at_most : {x : ℕ} (j : ℕ) → j ≡ k → x < 256 ^ j → x < 256 ^ k
        at_most j e h = rw e at h

    module _ {f : ℕ} (rd : ℕ → ℕ → Data) (fit : ℕ → Data → Bool) (S : (t o : ℕ) → fit t (rd t o) ≡ true → Stands T s M f t o (rd t o)) where
      fields_stand : (ts : List ℕ) (o : ℕ) → fit_parts fit (field_data T M s rd o ts) ≡ true → StandAll T s M f ts o (field_data T M s rd o ts)
      unfolding field_data
      fields_stand [] o h = stand_none
      fields_stand (t ∷ ts) o h = let b = both (fit t (rd t o)) _ h in stand_more (S t o b.0) (fields_stand ts (o + type_size T t) b.1)

      elements_stand : (n t o : ℕ) → fit_parts fit (element_data T M s rd t o n) ≡ true → StandAll T s M f (replicate n t) o (element_data T M s rd t o n)
      unfolding element_data
      elements_stand zero t o h = stand_none
      elements_stand (suc n) t o h = let b = both (fit t (rd t o)) _ h in stand_more (S t o b.0) (elements_stand n t (o + type_size T t) b.1)

    -- what the meaning reads stands there, if its numbers fit
    pub stored_stands : (f ty o : ℕ) → fits T f ty (stored_data T M s f ty o) ≡ true → Stands T s M f ty o (stored_data T M s f ty o)
    unfolding fits stored_data word_data plain_data
    stored_stands zero ty o h = too_deep
    stored_stands (suc f) ty o h = go (type_at T ty).word refl (λ t p q. stored_stands f t p q)
      where
        go : (w : TypeWord) → (type_at T ty).word ≡ w → ((t p : ℕ) → fits T f t (stored_data T M s f t p) ≡ true → Stands T s M f t p (stored_data T M s f t p))
            → Stands T s M (suc f) ty o (stored_data T M s (suc f) ty o)
        go t_unit e S = rw e (as_unit e)
        go t_bool e S = rw e (as_bool e refl)
        go t_bits e S = rw e (plain_stands ty o (plain_bits e (ltb-true _ _ (rw e at h))))
        go t_float e S = rw e (as_float e)
        go t_pointer e S = rw e (plain_stands ty o (plain_pointer e (plain_bounded ty o 2 (by_word T R ty e))))
        go t_array e S = rw e (as_array e (elements_stand (λ t p. stored_data T M s f t p) (λ t d. fits T f t d) S (arg (type_at T ty).args 1) (arg (type_at T ty).args 0) o (rw e at h)))
        go t_struct e S = rw e (as_struct e (fields_stand (λ t p. stored_data T M s f t p) (λ t d. fits T f t d) S (type_at T ty).args o (rw e at h)))
        go t_tuple e S = rw e (as_tuple e (fields_stand (λ t p. stored_data T M s f t p) (λ t d. fits T f t d) S (type_at T ty).args o (rw e at h)))
        go t_opaque e S = rw e (plain_stands ty o (plain_opaque e (plain_bounded ty o _ refl)))

-- ---------------------------------------------------------------- written byte by byte

-- bytes o and on of storage s
pub record Holds (M : Memory) (s o : ℕ) (xs : List ℕ) : Type 0 where
  pub found : operands M (map stored (bytes_from s o (length xs))) ≡ xs

holds_first : (M : Memory) (s o : ℕ) (xs ys : List ℕ) → Holds M s o (xs ++ ys) → Holds M s o xs
unfolding bytes_from
holds_first M s o [] ys h = record { found = refl }
holds_first M s o (x ∷ xs) ys h =
    record { found = ap₂ (λ (z : ℕ) (l : List ℕ). z ∷ l) (heads h.found) (holds_first M s (suc o) xs ys (record { found = tails h.found })).found }

holds_rest : (M : Memory) (s o : ℕ) (xs ys : List ℕ) → Holds M s o (xs ++ ys) → Holds M s (o + length xs) ys
unfolding bytes_from
holds_rest M s o [] ys h = rw (let e : o + 0 ≡ o = omega arith in e) h
holds_rest M s o (x ∷ xs) ys h =
    rw (let e : o + suc (length xs) ≡ suc o + length xs = omega arith in e) (holds_rest M s (suc o) xs ys (record { found = tails h.found }))

truth_of_bit : (x : ℕ) → x < 2 → truth (not (eqb x 0)) ≡ x
truth_of_bit zero h = refl
truth_of_bit (suc zero) h = refl
truth_of_bit (suc (suc x)) h = absurd (omega arith)

module _ (M : Memory) (s : ℕ) (T : Tables) (R : TypesRight T) where
  first_byte : (x o : ℕ) → Holds M s o (x ∷ []) → M.byte s o ≡ x
  unfolding bytes_from
  first_byte x o p = heads p.found

  behind : (t : ℕ) (d : Data) (o : ℕ) (xs : List ℕ) → Has T t d → Holds M s (o + length (image d)) xs → Holds M s (o + type_size T t) xs
  unfolding type_size
  behind t d o xs q p = rw (has_size T R q) at p

  mutual
    -- data whose bytes stand there, read as deep as f
    pub image_stands : {ty : ℕ} {d : Data} → Has T ty d → (f o : ℕ) → Holds M s o (image d) → Stands T s M f ty o d
    image_stands (has_unit e) zero o p = too_deep
    image_stands (has_unit e) (suc f) o p = as_unit e
    image_stands (has_bool e l) zero o p = too_deep
    image_stands (has_bool {x = x} e l) (suc f) o p = as_bool e (ap (λ (b : ℕ). truth (not (eqb b 0))) (first_byte x o p) ∙ truth_of_bit x l)
    image_stands (has_number q z) zero o p = too_deep
    image_stands (has_number {k = k} {x = x} q z) (suc f) o p = as_number q z (rw (length_bytes_of k x) at p.found)
    image_stands (has_array e qs) zero o p = too_deep
    image_stands (has_array e qs) (suc f) o p = as_array e (images_stand qs f o p)
    image_stands (has_struct e qs) zero o p = too_deep
    image_stands (has_struct e qs) (suc f) o p = as_struct e (images_stand qs f o p)
    image_stands (has_tuple e qs) zero o p = too_deep
    image_stands (has_tuple e qs) (suc f) o p = as_tuple e (images_stand qs f o p)

    images_stand : {ts : List ℕ} {ds : Datas} → HasAll T ts ds → (f o : ℕ) → Holds M s o (images ds) → StandAll T s M f ts o ds
    images_stand has_none f o p = stand_none
    images_stand (has_more {t = t} {d = d} {ds = ds} q qs) f o p =
        stand_more (image_stands q f o (holds_first M s o (image d) (images ds) p))
        (images_stand qs f (o + type_size T t) (behind t d o (images ds) q (holds_rest M s o (image d) (images ds) p)))
