-- Words read from bytes one step apart, and written to such bytes.
use Prim.Native.Nat.{ℕ, ◌+◌, ◌*◌, ◌/◌, ◌%◌, ◌^◌, ◌≤◌, ◌<◌}
use mathlib.Core.Path.{◌≡◌, refl, ap, ◌∙◌}
use mathlib.Core.List.{List}
use mathlib.Core.Logic.{⊎_elim}
use native.Mathlib.Omega.{arith}
use native.Mathlib.Nat.{mul-le-mul_left, mul-suc, eq-or-lt_of_le}
use lib.ListN.{length, get_or, set, length-set}
use lib.Seq.{get_or-set_same, get_or-set_other}
use Rattle.std.proofs.Common.{w64, map, div-one}
use Rattle.std.specs.List.{range_with_len}
use Rattle.std.proofs.lemmas.List.FromFn.{get_or-map-range_with_len}
use Rattle.std.specs.Int.{from_le_bytes, to_le_bytes}
use Rattle.blocks.specs.Blocks.{packed}
use Rattle.blocks.specs.Words.{word_at, Spread}

-- each of eight places is inside
pub inside : (from step i n : ℕ) → from + step * 7 < n → i < 8 → from + step * i < n
inside from step i n h g =
    let k : i ≤ 7 = omega arith in
    omega (arith, mul-le-mul_left step k)

-- ---------------------------------------------------------------- reading

-- a word's eight bytes, put together
pub word_is : (bytes xs : List ℕ) (from step : ℕ) → ((i : ℕ) → i < 8 → get_or bytes i 0 ≡ get_or xs (from + step * i) 0) → from_le_bytes w64 bytes ≡ word_at xs from step
unfolding word_at packed
word_is bytes xs from step each =
    rw (each 0 (omega arith), each 1 (omega arith), each 2 (omega arith), each 3 (omega arith), each 4 (omega arith), each 5 (omega arith), each 6 (omega arith), each 7 (omega arith))
    (omega arith)

-- ---------------------------------------------------------------- writing

-- byte i of a word
pub byte_is : (word i : ℕ) → i < 8 → get_or (to_le_bytes w64 word) i 0 ≡ word / 2 ^ (8 * i) % 256
byte_is word i h =
    let all : to_le_bytes w64 word ≡ map (λ (k : ℕ). word / 2 ^ (8 * k) % 256) (range_with_len 0 8) = rw div-one in
    ap (λ (l : List ℕ). get_or l i 0) all ∙ get_or-map-range_with_len (λ (k : ℕ). word / 2 ^ (8 * k) % 256) 0 8 i i 0 h (omega arith)

pub spread_none : (word to step : ℕ) (l : List ℕ) → Spread word to step 0 l l
spread_none word to step l = record { long = refl; there = λ i h. absurd (omega arith); kept = λ j h. refl }

pub spread_more : {word to step i : ℕ} {before after : List ℕ} {x : ℕ} → Spread word to step i before after → 0 < step → to + step * i < length before
    → x ≡ word / 2 ^ (8 * i) % 256 → Spread word to step (i + 1) before (set after (to + step * i) x)
spread_more {word} {to} {step} {i} {before} {after} {x} c positive h e =
    let g : to + step * i < length after = omega (arith, c.long) in
    record {
      long = length-set after (to + step * i) x ∙ c.long;
      there = λ (j : ℕ) l. ⊎_elim
          (λ (d : j ≡ i). rw (d, get_or-set_same after (to + step * i) x 0 g) e)
          (λ (d : j < i). get_or-set_other after (to + step * i) (to + step * j) x 0 (λ z. omega (arith, mul-le-mul_left step d, mul-suc step j)) ∙ c.there j d)
          (eq-or-lt_of_le (omega arith));
      kept = λ (j : ℕ) l. get_or-set_other after (to + step * i) j x 0 (l i (omega arith)) ∙ c.kept j (λ (k : ℕ) d. l k (omega arith));
    }
