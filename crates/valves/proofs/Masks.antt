-- The valves that a mask's bits name rise, and make its number again.
use Prim.Native.Nat.{ℕ, zero, suc, ◌+◌, ◌-◌, ◌*◌, ◌/◌, ◌%◌, ◌^◌, ◌≤◌, ◌<◌}
use mathlib.Core.Path.{◌≡◌, refl, sym, ap, ◌∙◌}
use mathlib.Core.Bool.{Bool, true, false}
use mathlib.Core.List.{List}
use Rattle.std.specs.Prelude.{None, Some}
use native.Mathlib.Omega.{arith}
use native.Mathlib.Nat.{pow-suc, mul_assoc, mul_comm, add-mul, div-lt_iff_lt-mul, div-eq_of_lt}
use lib.Pow.{pow_pos, pow_mono}
use lib.Dec.{eqb, leb, ltb}
use borrow.Author.Tests.{ltb-true, ltb-false, leb-true, leb-false, lt-ltb, le-ltb, eqb-true, eqb-false}
use lib.ListN.{length, get_or, drop, drop_of_length-le}
use lib.Seq.{drop-cons}
use Rattle.spec.specs.Machine.{le}
use Rattle.std.specs.Int.{w64, from_le_bytes}
use Rattle.valves.specs.Maps.{set_bits, mask_valves, rising, map_number, when, board_map}

-- ---------------------------------------------------------------- the valves of set bits

-- two numbers on the same side of a bound
same_side : (a b c d : ℕ) → (a < b → c < d) → (b ≤ a → d ≤ c) → ltb a b ≡ ltb c d
same_side a b c d f g = by (ltb a b) refl
  where
    by : (t : Bool) → ltb a b ≡ t → ltb a b ≡ ltb c d
    by true e = rw (e, lt-ltb c d (f (ltb-true a b e)))
    by false e = rw (e, le-ltb c d (g (ltb-false a b e)))

-- from valve u + 1 on: they rise up to N where the number fits the valves that are left
bits_rise : (k u n N last : ℕ) → last ≤ u → n < 2 ^ k → rising N last (set_bits k (suc u) n) ≡ ltb n (2 ^ (N - u))
unfolding rising set_bits
bits_rise zero u n N last h g = sym (lt-ltb n (2 ^ (N - u)) (omega (arith, g, pow_pos (N - u))))
bits_rise (suc k) u n N last h g =
    let less : n / 2 < 2 ^ k = omega (arith, pow-suc 2 k) in
    by (eqb (n % 2) 1) refl (leb (suc u) N) refl (λ l e. bits_rise k (suc u) (n / 2) N l e less)
  where
    left : (b : Bool) → leb (suc u) N ≡ b → eqb (n % 2) 1 ≡ false → ltb (n / 2) (2 ^ (N - suc u)) ≡ ltb n (2 ^ (N - u))
    left true f e =
        let s : N - u ≡ suc (N - suc u) = omega (arith, leb-true (suc u) N f) in
        let w = pow-suc 2 (N - suc u) in
        rw s (same_side (n / 2) (2 ^ (N - suc u)) n (2 ^ suc (N - suc u)) (λ x. omega arith) (λ x. omega arith))
    left false f e =
        let s : N - u ≡ 0 = omega (arith, leb-false (suc u) N f) in
        let t : N - suc u ≡ 0 = omega arith in
        let o = eqb-false (n % 2) 1 e in
        let r : n % 2 ≡ 0 = omega (arith, o) in
        rw (s, t) (same_side (n / 2) (2 ^ 0) n (2 ^ 0) (λ x. omega arith) (λ x. omega arith))

    by : (t : Bool) → eqb (n % 2) 1 ≡ t → (b : Bool) → leb (suc u) N ≡ b
        → ((l : ℕ) → l ≤ suc u → rising N l (set_bits k (suc (suc u)) (n / 2)) ≡ ltb (n / 2) (2 ^ (N - suc u)))
        → rising N last (set_bits (suc k) (suc u) n) ≡ ltb n (2 ^ (N - u))
    by true e true f ih =
        let s : N - u ≡ suc (N - suc u) = omega (arith, leb-true (suc u) N f) in
        let w = pow-suc 2 (N - suc u) in
        rw (set_bits, e, lt-ltb last (suc u) (omega arith), f, ih (suc u) (omega arith), s)
        (same_side (n / 2) (2 ^ (N - suc u)) n (2 ^ suc (N - suc u)) (λ x. omega arith) (λ x. omega arith))
    by true e false f ih =
        let s : N - u ≡ 0 = omega (arith, leb-false (suc u) N f) in
        let o = eqb-true (n % 2) 1 e in
        rw (set_bits, e, lt-ltb last (suc u) (omega arith), f, s) (sym (le-ltb n (2 ^ 0) (omega arith)))
    by false e b f ih = rw (set_bits, e, ih last (omega arith)) (left b f e)

-- and make the number again
bits_number : (k u n : ℕ) → n < 2 ^ k → map_number (set_bits k (suc u) n) ≡ n * 2 ^ u
unfolding map_number set_bits
bits_number zero u n g = let e : n ≡ 0 = omega arith in rw e (omega arith)
bits_number (suc k) u n g =
    let double : n / 2 * 2 ^ suc u ≡ n / 2 * 2 * 2 ^ u = rw (pow-suc 2 u, mul_comm (2 ^ u) 2) (sym (mul_assoc (n / 2) 2 (2 ^ u))) in
    by (eqb (n % 2) 1) refl (bits_number k (suc u) (n / 2) (omega (arith, pow-suc 2 k)) ∙ double)
  where
    by : (t : Bool) → eqb (n % 2) 1 ≡ t → map_number (set_bits k (suc (suc u)) (n / 2)) ≡ n / 2 * 2 * 2 ^ u → map_number (set_bits (suc k) (suc u) n) ≡ n * 2 ^ u
    by true e rest =
        let o = eqb-true (n % 2) 1 e in
        let d : n ≡ n / 2 * 2 + 1 = omega arith in
        let i : suc u - 1 ≡ u = omega arith in
        rw (set_bits, e, i, rest) (omega (arith, ap (λ (z : ℕ). z * 2 ^ u) d, add-mul (n / 2 * 2) 1 (2 ^ u)))
    by false e rest =
        let o = eqb-false (n % 2) 1 e in
        let r : n % 2 ≡ 0 = omega (arith, o) in
        let d : n ≡ n / 2 * 2 = omega arith in
        rw (set_bits, e, rest) (ap (λ (z : ℕ). z * 2 ^ u) (sym d))

-- ---------------------------------------------------------------- the board's map

module _ (N : ℕ) (mask : List ℕ) (e : length mask ≡ 8) (m : ℕ) (q : m ≡ le mask) (g : m < 2 ^ 64) where
  pub mask_rises : rising N 0 (mask_valves mask) ≡ ltb m (2 ^ N)
  unfolding mask_valves
  mask_rises = let z : N - 0 ≡ N = omega arith in rw (e, ← q, bits_rise 64 0 m N 0 (omega arith) g, z)

  pub mask_sum : map_number (mask_valves mask) ≡ m
  unfolding mask_valves
  mask_sum = rw (e, ← q, bits_number 64 0 m g) (omega arith)

  mask_board : board_map N (Some (mask_valves mask)) ≡ when (ltb m (2 ^ N)) m
  unfolding board_map
  mask_board = rw (mask_rises, mask_sum)

  mask_fits : m < 2 ^ N → Some m ≡ board_map N (Some (mask_valves mask))
  mask_fits h = sym (mask_board ∙ rw (lt-ltb m (2 ^ N) h))

  mask_none : 2 ^ N ≤ m → None ≡ board_map N (Some (mask_valves mask))
  mask_none h = sym (mask_board ∙ rw (le-ltb m (2 ^ N) h))

-- ---------------------------------------------------------------- as the code tests it

one_more : (s : List ℕ) (i : ℕ) → i < length s → le (drop i s) ≡ get_or s i 0 + 256 * le (drop (suc i) s)
unfolding le
one_more s i h = rw (drop-cons s i 0 h)

-- eight bytes are one word
word_of : (s : List ℕ) → length s ≡ 8 → from_le_bytes w64 s ≡ le s
unfolding le
word_of s e =
    let h : length s ≤ 8 = omega arith in
    let z : le (drop 8 s) ≡ 0 = rw (drop_of_length-le s h) in
    omega (arith, z, one_more s 0 (omega arith), one_more s 1 (omega arith), one_more s 2 (omega arith), one_more s 3 (omega arith), one_more s 4 (omega arith), one_more s 5 (omega arith), one_more s 6 (omega arith), one_more s 7 (omega arith))

module _ (N : ℕ) (mask : List ℕ) (e : length mask ≡ 8) (m : ℕ) (w : m ≡ from_le_bytes w64 mask) (g : m < 2 ^ 64) where
  pub mask_whole : 64 ≤ N → Some m ≡ board_map N (Some (mask_valves mask))
  mask_whole h = mask_fits N mask e m (w ∙ word_of mask e) g (omega (arith, pow_mono h))

  pub mask_shifted : m / 2 ^ N ≡ 0 → Some m ≡ board_map N (Some (mask_valves mask))
  mask_shifted h = mask_fits N mask e m (w ∙ word_of mask e) g (omega (arith, (div-lt_iff_lt-mul {x = m} {y = 1} (pow_pos N)).0 (omega arith)))

  pub mask_over : (m / 2 ^ N ≡ 0 → ⊥) → None ≡ board_map N (Some (mask_valves mask))
  mask_over h = mask_none N mask e m (w ∙ word_of mask e) g (by (ltb m (2 ^ N)) refl)
    where
      by : (t : Bool) → ltb m (2 ^ N) ≡ t → 2 ^ N ≤ m
      by true f = absurd (h (div-eq_of_lt (ltb-true m (2 ^ N) f)))
      by false f = ltb-false m (2 ^ N) f

pub ruleset mask_laws = (mask_whole, mask_shifted, mask_over)
