-- Data of a type: its shape, its numbers' bounds, its bytes.
use Prim.Native.Nat.{ℕ, zero, suc, ◌*◌, ◌^◌, ◌<◌}
use mathlib.Core.Bool.{true}
use mathlib.Core.List.{List, [], ◌∷◌, ◌++◌}
use mathlib.Core.Path.{◌≡◌, refl, sym, ap, ◌∙◌}
use native.Mathlib.Omega.{arith}
use native.Mathlib.Nat.{le_trans}
use lib.ListN.{length, replicate, length-append}
use Rattle.spec.specs.Ticket.{Tables, type_at, arg, sum, type_size_by, TypeWord, t_unit, t_bool, t_bits, t_float, t_pointer, t_array, t_struct, t_tuple, t_opaque}
use Rattle.spec.specs.Readable.{TypesRight}
use Rattle.spec.specs.Allocation.{type_size}
use Rattle.spec.specs.Machine.{bytes_of}
use Rattle.spec.specs.Typed.{is_bits, is_bits_word, width}
use Rattle.spec.specs.Eval.{Data, empty, flag, number, parts, Datas, no_data, part, number_in}
use Rattle.spec.proofs.RunWords.{size, length_bytes_of}
use Rattle.spec.proofs.RunLaws.{room_le}

-- ---------------------------------------------------------------- bits types

-- type ty is bits w
pub record IsBits (T : Tables) (ty w : ℕ) : Type 0 where
  pub word : (type_at T ty).word ≡ t_bits
  pub wide : arg (type_at T ty).args 0 ≡ w
  pub sized : (type_at T ty).size ≡ size w
  pub some_width : 0 < w
  pub not_bool : 0 < ty

bits_word : (w : TypeWord) → is_bits_word w ≡ true → w ≡ t_bits
bits_word t_unit e = cc
bits_word t_bool e = cc
bits_word t_bits e = refl
bits_word t_float e = cc
bits_word t_pointer e = cc
bits_word t_array e = cc
bits_word t_struct e = cc
bits_word t_tuple e = cc
bits_word t_opaque e = cc

-- ---------------------------------------------------------------- data of a type

module _ (T : Tables) where
  -- numbers that a plain type has
  pub data Plain (ty x : ℕ) : Type 0 where
    plain_bits : (type_at T ty).word ≡ t_bits → x < 2 ^ arg (type_at T ty).args 0 → Plain ty x
    plain_pointer : (type_at T ty).word ≡ t_pointer → x < 65536 → Plain ty x
    plain_opaque : (type_at T ty).word ≡ t_opaque → x < 256 ^ (type_at T ty).size → Plain ty x

  mutual
    pub data Has : ℕ → Data → Type 0 where
      has_unit : {ty : ℕ} → (type_at T ty).word ≡ t_unit → Has ty empty
      has_bool : {ty x : ℕ} → (type_at T ty).word ≡ t_bool → x < 2 → Has ty (flag x)
      has_number : {ty k x : ℕ} → Plain ty x → (type_at T ty).size ≡ k → Has ty (number k x)
      has_array : {ty : ℕ} {ds : Datas} → (type_at T ty).word ≡ t_array
          → HasAll (replicate (arg (type_at T ty).args 1) (arg (type_at T ty).args 0)) ds → Has ty (parts ds)
      has_struct : {ty : ℕ} {ds : Datas} → (type_at T ty).word ≡ t_struct → HasAll (type_at T ty).args ds → Has ty (parts ds)
      has_tuple : {ty : ℕ} {ds : Datas} → (type_at T ty).word ≡ t_tuple → HasAll (type_at T ty).args ds → Has ty (parts ds)

    pub data HasAll : List ℕ → Datas → Type 0 where
      has_none : HasAll [] no_data
      has_more : {t : ℕ} {ts : List ℕ} {d : Data} {ds : Datas} → Has t d → HasAll ts ds → HasAll (t ∷ ts) (part t d ds)

  -- two words of one type are one word
  other_word : {u v w : TypeWord} {A : Type 0} → u ≡ v → u ≡ w → (v ≡ w → ◌≡◌ {A = ℕ} 0 1) → A
  other_word p q n = let z = n (sym p ∙ q) in absurd (omega arith)

  pub bits_data : {ty w : ℕ} {d : Data} → IsBits T ty w → Has ty d → (d ≡ number (size w) (number_in d)) × (number_in d < 2 ^ w)
  bits_data B (has_unit e) = other_word B.word e (λ q. cc)
  bits_data B (has_bool e l) = other_word B.word e (λ q. cc)
  bits_data B (has_array e qs) = other_word B.word e (λ q. cc)
  bits_data B (has_struct e qs) = other_word B.word e (λ q. cc)
  bits_data B (has_tuple e qs) = other_word B.word e (λ q. cc)
  bits_data B (has_number (plain_pointer e l) z) = other_word B.word e (λ q. cc)
  bits_data B (has_number (plain_opaque e l) z) = other_word B.word e (λ q. cc)
  bits_data B (has_number {x = x} (plain_bits e l) z) = (ap (λ (k : ℕ). number k x) (sym z ∙ B.sized), rw B.wide at l)

  pub flag_data : {ty : ℕ} {d : Data} → (type_at T ty).word ≡ t_bool → Has ty d → (d ≡ flag (number_in d)) × (number_in d < 2)
  flag_data f (has_unit e) = other_word f e (λ q. cc)
  flag_data f (has_array e qs) = other_word f e (λ q. cc)
  flag_data f (has_struct e qs) = other_word f e (λ q. cc)
  flag_data f (has_tuple e qs) = other_word f e (λ q. cc)
  flag_data f (has_number (plain_pointer e l) z) = other_word f e (λ q. cc)
  flag_data f (has_number (plain_opaque e l) z) = other_word f e (λ q. cc)
  flag_data f (has_number (plain_bits e l) z) = other_word f e (λ q. cc)
  flag_data f (has_bool e l) = (refl, l)

  pub pointer_data : {ty : ℕ} {d : Data} → (type_at T ty).word ≡ t_pointer → (type_at T ty).size ≡ 2 → Has ty d
      → (d ≡ number 2 (number_in d)) × (number_in d < 2 ^ 16)
  pointer_data f k (has_unit e) = other_word f e (λ q. cc)
  pointer_data f k (has_bool e l) = other_word f e (λ q. cc)
  pointer_data f k (has_array e qs) = other_word f e (λ q. cc)
  pointer_data f k (has_struct e qs) = other_word f e (λ q. cc)
  pointer_data f k (has_tuple e qs) = other_word f e (λ q. cc)
  pointer_data f k (has_number (plain_bits e l) z) = other_word f e (λ q. cc)
  pointer_data f k (has_number (plain_opaque e l) z) = other_word f e (λ q. cc)
  pointer_data f k (has_number {x = x} (plain_pointer e l) z) = (ap (λ (j : ℕ). number j x) (sym z ∙ k), l)

  pub has_bits : {ty w a : ℕ} → IsBits T ty w → a < 2 ^ w → Has ty (number (size w) a)
  has_bits {ty} {w} {a} B l = let l' : a < 2 ^ arg (type_at T ty).args 0 = rw B.wide l in has_number (plain_bits B.word l') B.sized

  -- a number of a bits type, by the type's bytes and by its width
  pub by_width : {ty w x : ℕ} {d : Data} → IsBits T ty w → number (type_size T ty) x ≡ d → number (size w) x ≡ d
  unfolding type_size
  by_width {x = x} B e = ap (λ (k : ℕ). number k x) (sym B.sized) ∙ e

  -- ------------------------------------------------------------ what a readable ticket's types give

  module _ (R : TypesRight T) where
    pub by_word : (ty : ℕ) {w : TypeWord} → (type_at T ty).word ≡ w → (type_at T ty).size ≡ type_size_by (λ t. (type_at T t).size) w (type_at T ty).args
    by_word ty {w} e = R.sized ty ∙ ap (λ (v : TypeWord). type_size_by (λ t. (type_at T t).size) v (type_at T ty).args) e

    pub bits_of_test : (ty : ℕ) → is_bits T ty ≡ true → IsBits T ty (width T ty)
    unfolding is_bits
    bits_of_test ty e =
        let b : (type_at T ty).word ≡ t_bits = bits_word _ e in
        record { word = b; wide = refl; sized = by_word ty b; some_width = R.width_least ty b; not_bool = other ty b }
      where
        other : (t : ℕ) → (type_at T t).word ≡ t_bits → 0 < t
        other zero b = other_word b R.bool_first (λ q. cc)
        other (suc t) b = omega arith

    pub pointer_size : (type_at T 1).size ≡ 2
    pointer_size = by_word 1 R.pointer_second

    pub has_pointer : (x : ℕ) → x < 65536 → Has 1 (number 2 x)
    has_pointer x l = has_number (plain_pointer R.pointer_second l) pointer_size

    -- a number fits its bytes
    pub plain_room : {ty x : ℕ} → Plain ty x → x < 256 ^ (type_at T ty).size
    plain_room {ty} (plain_bits e l) = rw (by_word ty e) (le_trans l (room_le (arg (type_at T ty).args 0)))
    plain_room {ty} (plain_pointer e l) = rw (by_word ty e) l
    plain_room {ty} (plain_opaque e l) = l

-- ---------------------------------------------------------------- the bytes of data, as a storage holds it

abbrev mutual
  pub image : Data → List ℕ
  image empty = []
  image (flag x) = x ∷ []
  image (number k x) = bytes_of k x
  image (parts ds) = images ds

  pub images : Datas → List ℕ
  images no_data = []
  images (part t d ds) = image d ++ images ds

module _ (T : Tables) (R : TypesRight T) where
  abbrev size_at : ℕ → ℕ
  size_at t = (type_at T t).size

  sum_replicate : (n t : ℕ) → sum size_at (replicate n t) ≡ size_at t * n
  sum_replicate zero t = omega arith
  sum_replicate (suc n) t = let h = sum_replicate n t in omega arith

  mutual
    -- a type's size is the length of its data's bytes
    pub has_size : {ty : ℕ} {d : Data} → Has T ty d → length (image d) ≡ size_at ty
    has_size (has_unit {ty} e) = sym (by_word T R ty e)
    has_size (has_bool {ty} e l) = sym (by_word T R ty e)
    has_size (has_number {k = k} {x = x} q z) = length_bytes_of k x ∙ sym z
    has_size (has_array {ty} e qs) =
        all_size qs ∙ sum_replicate (arg (type_at T ty).args 1) (arg (type_at T ty).args 0) ∙ sym (by_word T R ty e)
    has_size (has_struct {ty} e qs) = all_size qs ∙ sym (by_word T R ty e)
    has_size (has_tuple {ty} e qs) = all_size qs ∙ sym (by_word T R ty e)

    pub all_size : {ts : List ℕ} {ds : Datas} → HasAll T ts ds → length (images ds) ≡ sum size_at ts
    all_size has_none = refl
    all_size (has_more {d = d} {ds = ds} q qs) = let h = all_size qs in let k = has_size q in length-append (image d) (images ds) ∙ omega arith
