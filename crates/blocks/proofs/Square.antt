-- A word transposed as a square of bits: where each exchange takes a bit from, one computed test of all 64, and the bytes that follow.
use Prim.Native.Nat.{ℕ, zero, suc, ◌+◌, ◌-◌, ◌*◌, ◌/◌, ◌%◌, ◌^◌, ◌≤◌, ◌<◌, min}
use mathlib.Core.Path.{◌≡◌, refl, sym, ap, ◌∙◌}
use mathlib.Core.Bool.{Bool, true, false, ◌&&◌}
use mathlib.Core.List.{List}
use native.Mathlib.Omega.{arith}
use native.Mathlib.Nat.{mod-lt, not-suc-le-zero, le_of_suc-le-suc, add-zero, zero-add}
use borrow.Author.Tests.{eqb-true, eqb-false, leb-true, leb-false, ltb-true}
use lib.Dec.{eqb, leb, ltb}
use lib.Bits.{bit_xor, differ}
use lib.ListN.{get_or}
use Rattle.spec.proofs.Bools.{and_left, and_right}
use Rattle.blocks.specs.Blocks.{bit, packed, gathered_byte, Bytes}
use Rattle.blocks.specs.Words.{apart, exchanged, transposed_word, word_at}
use Rattle.blocks.proofs.Packed.{bit_below, byte_is}
use Rattle.blocks.proofs.Bits.{bit_of_xor, bit_of_and, bit_shr, bit_shl_high, bit_shl_low, bit_mod, differ_two, taken_other, taken_back, taken_none}
use Rattle.blocks.proofs.Below.{all_below, below_at}

-- ---------------------------------------------------------------- one exchange

-- by whether the mask has a bit, and the bit a distance below; never both, or it would come from outside the word
abbrev picked : Bool → Bool → ℕ → ℕ → ℕ
picked true true k p = 64
picked true false k p = k + p
picked false true k p = p - k
picked false false k p = p

-- where bit p of an exchanged word comes from
unfoldable source : ℕ → ℕ → ℕ → ℕ
source k m p = picked (eqb (bit m p) 1) (leb k p && eqb (bit m (p - k)) 1) k p

module _ (w k m : ℕ) where
  apart_bit : (p : ℕ) → bit (apart w k m) p ≡ min (differ (bit w p) (bit w (k + p))) (bit m p)
  unfolding apart
  apart_bit p = bit_of_and (bit_xor w (w / 2 ^ k)) m p ∙ ap (λ (x : ℕ). min x (bit m p)) (bit_of_xor w (w / 2 ^ k) p ∙ ap (differ (bit w p)) (bit_shr w k p))

  apart_none : (p : ℕ) → eqb (bit m p) 1 ≡ false → bit (apart w k m) p ≡ 0
  apart_none p e =
      let z : bit m p ≡ 0 = omega (arith, bit_below m p, eqb-false (bit m p) 1 e) in
      apart_bit p ∙ rw z (omega arith)

  apart_some : (p : ℕ) → eqb (bit m p) 1 ≡ true → bit (apart w k m) p ≡ differ (bit w p) (bit w (k + p))
  apart_some p e =
      apart_bit p ∙ rw (eqb-true (bit m p) 1 e) (omega (arith, differ_two (bit w p) (bit w (k + p)) (bit_below w p) (bit_below w (k + p))))

  -- the same bits, moved up by the distance
  moved : ℕ → ℕ
  moved p = bit (apart w k m * 2 ^ k % 2 ^ 64) p

  moved_up : (p : ℕ) → p < 64 → k ≤ p → moved p ≡ bit (apart w k m) (p - k)
  unfolding moved
  moved_up p h g =
      let e : p ≡ k + (p - k) = omega arith in
      bit_mod _ 64 p h ∙ ap (bit (apart w k m * 2 ^ k)) e ∙ bit_shl_high (apart w k m) k (p - k)

  moved_low : (p : ℕ) → p < 64 → p < k → moved p ≡ 0
  unfolding moved
  moved_low p h g = bit_mod _ 64 p h ∙ bit_shl_low (apart w k m) k p g

  moved_none : (p : ℕ) → p < 64 → leb k p && eqb (bit m (p - k)) 1 ≡ false → moved p ≡ 0
  moved_none p h = go (leb k p) refl
    where
      go : (t : Bool) → leb k p ≡ t → t && eqb (bit m (p - k)) 1 ≡ false → moved p ≡ 0
      go true t e = moved_up p h (leb-true k p t) ∙ apart_none (p - k) e
      go false t e = moved_low p h (leb-false k p t)

  moved_some : (p : ℕ) → p < 64 → leb k p && eqb (bit m (p - k)) 1 ≡ true → moved p ≡ differ (bit w (p - k)) (bit w p)
  moved_some p h t =
      let g : k ≤ p = leb-true k p (and_left (leb k p) _ t) in
      let e : k + (p - k) ≡ p = omega arith in
      moved_up p h g ∙ apart_some (p - k) (and_right (leb k p) _ t) ∙ ap (λ (q : ℕ). differ (bit w (p - k)) (bit w q)) e

  exchanged_as : (p : ℕ) → bit (exchanged w k m) p ≡ differ (differ (bit w p) (bit (apart w k m) p)) (moved p)
  unfolding exchanged moved
  exchanged_as p = bit_of_xor (bit_xor w (apart w k m)) _ p ∙ rw (bit_of_xor w (apart w k m) p)

  exchanged_bit : (p : ℕ) → p < 64 → source k m p < 64 → bit (exchanged w k m) p ≡ bit w (source k m p)
  unfolding source
  exchanged_bit p h = go (eqb (bit m p) 1) (leb k p && eqb (bit m (p - k)) 1) refl refl
    where
      go : (s t : Bool) → eqb (bit m p) 1 ≡ s → leb k p && eqb (bit m (p - k)) 1 ≡ t → picked s t k p < 64 → bit (exchanged w k m) p ≡ bit w (picked s t k p)
      go true true d e g = absurd (omega arith)
      go true false d e g = exchanged_as p ∙ rw (apart_some p d, moved_none p h e) (taken_other (bit w p) (bit w (k + p)) (bit_below w p) (bit_below w (k + p)))
      go false true d e g = exchanged_as p ∙ rw (apart_none p d, moved_some p h e) (taken_back (bit w p) (bit w (p - k)) (bit_below w p) (bit_below w (p - k)))
      go false false d e g = exchanged_as p ∙ rw (apart_none p d, moved_none p h e) (taken_none (bit w p))

-- ---------------------------------------------------------------- the whole square

-- the three exchanges take bit p of the transposed word from the bit across the diagonal
across : ℕ → Bool
across p =
    ltb (source 28 0x00000000f0f0f0f0 p) 64
    && (ltb (source 14 0x0000cccc0000cccc (source 28 0x00000000f0f0f0f0 p)) 64
    && eqb (source 7 0x00aa00aa00aa00aa (source 14 0x0000cccc0000cccc (source 28 0x00000000f0f0f0f0 p))) (p % 8 * 8 + p / 8))

all_across : (p : ℕ) → p < 64 → across p ≡ true
unfolding bit source across all_below
all_across = below_at 64 across refl

transposed_word_bit : (w p : ℕ) → p < 64 → bit (transposed_word w) p ≡ bit w (p % 8 * 8 + p / 8)
unfolding transposed_word across
transposed_word_bit w p h =
    let c = source 28 0x00000000f0f0f0f0 p in
    let b = source 14 0x0000cccc0000cccc c in
    let t = all_across p h in
    let r = and_right (ltb c 64) _ t in
    let c<64 : c < 64 = ltb-true c 64 (and_left (ltb c 64) _ t) in
    let b<64 : b < 64 = ltb-true b 64 (and_left (ltb b 64) _ r) in
    let e = eqb-true _ _ (and_right (ltb b 64) _ r) in
    exchanged_bit _ 28 _ p h c<64 ∙ exchanged_bit _ 14 _ c c<64 b<64 ∙ exchanged_bit w 7 _ b b<64 (rw e (omega arith)) ∙ ap (bit w) e

-- ---------------------------------------------------------------- its bytes

-- bit b of byte d of a word
packed_byte_bit : (f : ℕ → ℕ) → ((j : ℕ) → f j < 256) → (n i d b : ℕ) → d < n → b < 8 → bit (packed 256 n i f) (d * 8 + b) ≡ bit (f (i + d)) b
unfolding packed
packed_byte_bit f bytes zero i d b h g = absurd (not-suc-le-zero h)
packed_byte_bit f bytes (suc n) i zero b h g =
    let x = f i + 256 * packed 256 n (suc i) f in
    let e : x % 256 ≡ f i = omega (arith, bytes i) in
    ap (bit x) (omega arith) ∙ sym (bit_mod x 8 b g) ∙ ap (λ (y : ℕ). bit y b) e ∙ ap (λ (j : ℕ). bit (f j) b) (sym (add-zero i))
packed_byte_bit f bytes (suc n) i (suc d) b h g =
    let x = f i + 256 * packed 256 n (suc i) f in
    let e : x / 256 ≡ packed 256 n (suc i) f = omega (arith, bytes i) in
    let k : suc d * 8 + b ≡ 8 + (d * 8 + b) = omega arith in
    ap (bit x) k ∙ sym (bit_shr x 8 (d * 8 + b)) ∙ ap (λ (y : ℕ). bit y (d * 8 + b)) e
    ∙ packed_byte_bit f bytes n (suc i) d b (le_of_suc-le-suc h) g ∙ ap (λ (j : ℕ). bit (f j) b) (omega arith)

-- byte i of a word read and transposed is what is gathered from bit i of its bytes
pub transposed_byte : (xs : List ℕ) → Bytes xs → (from step i : ℕ) → i < 8 → transposed_word (word_at xs from step) / 2 ^ (8 * i) % 256 ≡ gathered_byte xs from step i
unfolding word_at gathered_byte
transposed_byte xs bytes from step i h =
    let w = packed 256 8 0 (λ (j : ℕ). get_or xs (from + step * j) 0) in
    sym (byte_is (transposed_word w / 2 ^ (8 * i) % 256) _ (mod-lt _ (omega arith))
    (λ (d : ℕ) g. let e : (8 * i + d) % 8 * 8 + (8 * i + d) / 8 ≡ d * 8 + i = omega arith in
    sym (bit_mod (transposed_word w / 2 ^ (8 * i)) 8 d g ∙ bit_shr (transposed_word w) (8 * i) d ∙ transposed_word_bit w (8 * i + d) (omega arith) ∙ ap (bit w) e
    ∙ packed_byte_bit _ (λ (j : ℕ). bytes.below (from + step * j)) 8 0 d i g h ∙ ap (λ (j : ℕ). bit (get_or xs (from + step * j) 0) i) (zero-add d))))
