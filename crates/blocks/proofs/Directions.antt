-- One square more, in each of the two directions.
use Prim.Native.Nat.{ℕ, ◌+◌, ◌*◌, ◌/◌, ◌%◌, ◌≤◌, ◌<◌}
use mathlib.Core.Path.{◌≡◌, sym, ap₂, ◌∙◌}
use mathlib.Core.List.{List}
use native.Mathlib.Omega.{arith}
use lib.ListN.{length}
use Rattle.blocks.specs.Blocks.{block_length, gathered_byte, transposed, transposed_back, Bytes}
use Rattle.blocks.specs.Shown.{turned}
use Rattle.spec.specs.Answer.{accepted, left_in}
use Rattle.blocks.specs.declared.Places.{Places}
use Rattle.blocks.specs.declared.Direction.{Direction}
use Rattle.blocks.specs.declared.Direction.TheVariants.{ToValves, ToDays}
use Rattle.blocks.specs.Words.{transposed_word, word_at, Spread, places_of}
use Rattle.blocks.proofs.Inverse.{length_transposed, length_transposed_back, rearranged_at}
use Rattle.blocks.proofs.Square.{transposed_byte}
use Rattle.blocks.proofs.Squares.{Squares, squares_more, squares_all}

-- the square of byte j: eight valves, one behind the other
abbrev pub of_valves : ℕ → ℕ
of_valves j = j / 8

-- the square of byte j: the same eight valves on eight days
abbrev pub of_days : ℕ → ℕ
of_days j = j / 64 * 8 + j % 8

-- each of its bytes is inside
day_inside : (n t i : ℕ) → n % 64 ≡ 0 → t < n / 8 → i < 8 → t / 8 * 64 + t % 8 + 8 * i < n
day_inside n t i whole h g = omega arith

module _ (xs : List ℕ) (bytes : Bytes xs) (whole : length xs % block_length ≡ 0) {before output output' : List ℕ} {t word turned : ℕ}
    (h : t < length xs / 8) (e : turned ≡ transposed_word word) where
  pub valves_more : word ≡ word_at xs (t / 8 * 64 + t % 8) 8 → Squares of_valves (transposed xs) before t output → Spread turned (t * 8) 1 8 output output'
      → Squares of_valves (transposed xs) before (t + 1) output'
  unfolding transposed
  valves_more d c w =
      let n = length_transposed xs in
      squares_more (λ (j : ℕ). j % 8) c w
      (λ (i : ℕ) g. let k = t * 8 + 1 * i in
      let from : t / 8 * 64 + t % 8 ≡ k / 64 * 64 + k % 64 / 8 = omega arith in
      let number : i ≡ k % 64 % 8 = omega arith in
      rw (e, d) (transposed_byte xs bytes (t / 8 * 64 + t % 8) 8 i g) ∙ ap₂ (λ (a b : ℕ). gathered_byte xs a 8 b) from number ∙ sym (rearranged_at _ _ _ xs k (omega arith)))
      (λ i g. omega arith) (λ i g. omega arith) (λ j g. (omega arith, omega arith))

  pub days_more : word ≡ word_at xs (t * 8) 1 → Squares of_days (transposed_back xs) before t output → Spread turned (t / 8 * 64 + t % 8) 8 8 output output'
      → Squares of_days (transposed_back xs) before (t + 1) output'
  unfolding transposed_back
  days_more d c w =
      let n = length_transposed_back xs in
      squares_more (λ (j : ℕ). j % 64 / 8) c w
      (λ (i : ℕ) g. let k = t / 8 * 64 + t % 8 + 8 * i in
      let from : t * 8 ≡ k / 64 * 64 + k % 64 % 8 * 8 = omega arith in
      let number : i ≡ k % 64 / 8 = omega arith in
      rw (e, d) (transposed_byte xs bytes (t * 8) 1 i g) ∙ ap₂ (λ (a b : ℕ). gathered_byte xs a 1 b) from number ∙ sym (rearranged_at _ _ _ xs k (day_inside (length xs) t i whole h g)))
      (λ i g. omega arith) (λ i g. omega (arith, day_inside (length xs) t i whole h g)) (λ j g. (omega arith, omega arith))

-- ---------------------------------------------------------------- either way

-- the square that has byte j
abbrev pub square_of : Direction → ℕ → ℕ
square_of ToValves = of_valves
square_of ToDays = of_days

pub length_turned : (way : Direction) (xs : List ℕ) → length (turned way xs) ≡ length xs
length_turned ToValves xs = length_transposed xs
length_turned ToDays xs = length_transposed_back xs

module _ (way : Direction) (xs : List ℕ) (bytes : Bytes xs) (whole : length xs % block_length ≡ 0) {t : ℕ} (h : t < length xs / 8) (p : Places × Places) (e : p ≡ places_of way t) where
  -- a square is read inside the blocks, and written there
  pub places_inside : (p.0.first + p.0.step * 7 < length xs) × ((0 < p.1.step) × (p.1.first + p.1.step * 7 < length xs))
  places_inside = rw e (by way)
    where
      by : (way : Direction) → ((places_of way t).0.first + (places_of way t).0.step * 7 < length xs) × ((0 < (places_of way t).1.step) × ((places_of way t).1.first + (places_of way t).1.step * 7 < length xs))
      by ToValves = (omega arith, (omega arith, omega arith))
      by ToDays = (omega arith, (omega arith, omega arith))

  pub turned_more : {before output output' : List ℕ} {word turned' : ℕ} → turned' ≡ transposed_word word → word ≡ word_at xs p.0.first p.0.step
      → Squares (square_of way) (turned way xs) before t output → Spread turned' p.1.first p.1.step 8 output output' → Squares (square_of way) (turned way xs) before (t + 1) output'
  turned_more {before} {output} {output'} {word} {turned'} u = rw e (by way)
    where
      by : (way : Direction) → word ≡ word_at xs (places_of way t).0.first (places_of way t).0.step → Squares (square_of way) (turned way xs) before t output
          → Spread turned' (places_of way t).1.first (places_of way t).1.step 8 output output' → Squares (square_of way) (turned way xs) before (t + 1) output'
      by ToValves = valves_more xs bytes whole h u
      by ToDays = days_more xs bytes whole h u

-- and all of them are the output's bytes
pub turned_all : (way : Direction) (xs before output : List ℕ) (t : ℕ) → Squares (square_of way) (turned way xs) before t output → length xs / 8 ≤ t → length xs % block_length ≡ 0
    → output ≡ left_in (accepted (turned way xs)) before
turned_all ToValves xs before output t c h w = squares_all c (λ j k. omega (arith, length_transposed xs))
turned_all ToDays xs before output t c h w = squares_all c (λ j k. omega (arith, length_transposed_back xs))
