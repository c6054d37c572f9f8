-- Transposing and transposing back undo each other, and mirroring undoes itself.
use Prim.Native.Nat.{ℕ, suc, ◌+◌, ◌-◌, ◌*◌, ◌/◌, ◌%◌, ◌≤◌, ◌<◌}
use mathlib.Core.Path.{◌≡◌, refl, ap, ap₂, ◌∙◌}
use mathlib.Core.List.{List, ◌∷◌, []}
use native.Mathlib.Omega.{arith}
use native.Mathlib.Nat.{zero-add}
use lib.ListN.{length, get_or}
use lib.Seq.{ext_get_or}
use Rattle.blocks.specs.Blocks.{block_length, bit, gathered_byte, rearranged, transposed, transposed_back, mirrored, all_mirrored, Bytes}
use Rattle.blocks.proofs.Packed.{bit_below, byte_is, bit_of_byte, length_listed, get_d_listed}

module _ (first : ℕ → ℕ) (step : ℕ) (number : ℕ → ℕ) (xs : List ℕ) where
  pub length_rearranged : length (rearranged first step number xs) ≡ length xs
  unfolding rearranged
  length_rearranged = length_listed _ _ _

  pub rearranged_at : (k : ℕ) → k < length xs
      → get_or (rearranged first step number xs) k 0 ≡ gathered_byte xs (k / block_length * block_length + first (k % block_length)) step (number (k % block_length))
  unfolding rearranged
  rearranged_at k h = get_d_listed _ 0 _ k h ∙ rw zero-add

pub length_transposed : (xs : List ℕ) → length (transposed xs) ≡ length xs
unfolding transposed
length_transposed xs = length_rearranged _ _ _ xs

pub length_transposed_back : (xs : List ℕ) → length (transposed_back xs) ≡ length xs
unfolding transposed_back
length_transposed_back xs = length_rearranged _ _ _ xs

-- bit i of what is gathered
gathered_bit : (xs : List ℕ) (from step b i : ℕ) → i < 8 → bit (gathered_byte xs from step b) i ≡ bit (get_or xs (from + step * i) 0) b
unfolding gathered_byte
gathered_bit xs from step b i h = bit_of_byte _ (λ (j : ℕ). bit_below (get_or xs (from + step * j) 0) b) i h

-- in block q, bit d of byte v is that of valve v + 1 on day d: bit v of the day's mask
pub transposed_bit : (xs : List ℕ) (q v d : ℕ) → q * 64 + 64 ≤ length xs → v < 64 → d < 8
    → bit (get_or (transposed xs) (q * 64 + v) 0) d ≡ bit (get_or xs (q * 64 + v / 8 + 8 * d) 0) (v % 8)
unfolding transposed
transposed_bit xs q v d h g k =
    let block : (q * 64 + v) / 64 * 64 ≡ q * 64 = omega arith in
    let place : (q * 64 + v) % 64 ≡ v = omega arith in
    ap (λ (x : ℕ). bit x d) (rearranged_at _ _ _ xs (q * 64 + v) (omega arith) ∙ ap₂ (λ (m p : ℕ). gathered_byte xs (m + p / 8) 8 (p % 8)) block place)
    ∙ gathered_bit xs (q * 64 + v / 8) 8 (v % 8) d k

-- a second rearrangement undoes a first, where it takes bit i of byte v from where the first put it
module _ (first₁ : ℕ → ℕ) (step₁ : ℕ) (number₁ : ℕ → ℕ) (first₂ : ℕ → ℕ) (step₂ : ℕ) (number₂ : ℕ → ℕ)
    (inside : (v i : ℕ) → v < 64 → i < 8 → first₂ v + step₂ * i < 64)
    (a_bit : (v : ℕ) → v < 64 → number₂ v < 8)
    (same_byte : (v i : ℕ) → v < 64 → i < 8 → first₁ (first₂ v + step₂ * i) + step₁ * number₂ v ≡ v)
    (same_bit : (v i : ℕ) → v < 64 → i < 8 → number₁ (first₂ v + step₂ * i) ≡ i)
    (xs : List ℕ) (bytes : Bytes xs) (whole : length xs % block_length ≡ 0) where
  once : List ℕ
  once = rearranged first₁ step₁ number₁ xs

  -- its bit, by where the first took it
  bit_again : (k : ℕ) → k < length xs → (i : ℕ) → i < 8
      → bit (get_or once (k / 64 * 64 + first₂ (k % 64) + step₂ * i) 0) (number₂ (k % 64)) ≡ bit (get_or xs k 0) i
  unfolding once
  bit_again k h i g =
      let q = k / 64 * 64 in
      let v = k % 64 in
      let j = first₂ v + step₂ * i in
      let v<64 : v < 64 = omega arith in
      let j<64 = inside v i v<64 g in
      let e : q + first₂ v + step₂ * i ≡ q + j = omega arith in
      let in_list : q + j < length xs = omega arith in
      let block : (q + j) / 64 * 64 ≡ q = omega arith in
      let place : (q + j) % 64 ≡ j = omega arith in
      let from_byte : q + first₁ j + step₁ * number₂ v ≡ k = omega (arith, same_byte v i v<64 g) in
      ap (λ (m : ℕ). bit (get_or (rearranged first₁ step₁ number₁ xs) m 0) (number₂ v)) e
      ∙ ap (λ (m : ℕ). bit m (number₂ v)) (rearranged_at first₁ step₁ number₁ xs (q + j) in_list ∙ ap₂ (λ (m p : ℕ). gathered_byte xs (m + first₁ p) step₁ (number₁ p)) block place)
      ∙ gathered_bit xs (q + first₁ j) step₁ (number₁ j) (number₂ v) (a_bit v v<64)
      ∙ ap₂ (λ (m p : ℕ). bit (get_or xs m 0) p) from_byte (same_bit v i v<64 g)

  undone : rearranged first₂ step₂ number₂ (rearranged first₁ step₁ number₁ xs) ≡ xs
  unfolding once gathered_byte
  undone =
      let n = length_rearranged first₁ step₁ number₁ xs in
      let m = length_rearranged first₂ step₂ number₂ once in
      ext_get_or 0 _ _ (m ∙ n)
      (λ (k : ℕ) h. let g : k < length xs = omega arith in
      rearranged_at first₂ step₂ number₂ once k (omega arith) ∙ byte_is (get_or xs k 0) _ (bytes.below k) (bit_again k g))

module _ (xs : List ℕ) (bytes : Bytes xs) (whole : length xs % block_length ≡ 0) where
  pub back_of_transposed : transposed_back (transposed xs) ≡ xs
  unfolding transposed transposed_back
  back_of_transposed =
      undone (λ (v : ℕ). v / 8) 8 (λ (v : ℕ). v % 8) (λ (w : ℕ). w % 8 * 8) 1 (λ (w : ℕ). w / 8)
      (λ v i h g. omega arith) (λ v h. omega arith) (λ v i h g. omega arith) (λ v i h g. omega arith) xs bytes whole

  pub transposed_of_back : transposed (transposed_back xs) ≡ xs
  unfolding transposed transposed_back
  transposed_of_back =
      undone (λ (w : ℕ). w % 8 * 8) 1 (λ (w : ℕ). w / 8) (λ (v : ℕ). v / 8) 8 (λ (v : ℕ). v % 8)
      (λ v i h g. omega arith) (λ v h. omega arith) (λ v i h g. omega arith) (λ v i h g. omega arith) xs bytes whole

-- ---------------------------------------------------------------- mirrored bytes

mirrored_bit : (x i : ℕ) → i < 8 → bit (mirrored x) i ≡ bit x (7 - i)
unfolding mirrored
mirrored_bit x i h = bit_of_byte _ (λ (j : ℕ). bit_below x (7 - j)) i h

pub mirrored_twice : (x : ℕ) → x < 256 → mirrored (mirrored x) ≡ x
unfolding mirrored
mirrored_twice x h =
    byte_is x _ h (λ (i : ℕ) g. mirrored_bit x (7 - i) (omega arith) ∙ ap (bit x) (omega arith))

pub all_mirrored_twice : (xs : List ℕ) → Bytes xs → all_mirrored (all_mirrored xs) ≡ xs
unfolding all_mirrored
all_mirrored_twice [] b = refl
all_mirrored_twice (x ∷ xs) b =
    ap₂ ◌∷◌ (mirrored_twice x (b.below 0)) (all_mirrored_twice xs (record { below = λ (i : ℕ). b.below (suc i) }))
