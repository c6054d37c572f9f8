-- The signed reading of a number below 2 ^ N, at every width N: its two cases, and all that follows from them.
use Rattle.std.proofs.Common.{◌≡◌, ℕ, zero, suc, ◌+◌, ◌-◌, ◌*◌, ◌/◌, ◌%◌, ◌^◌, ◌<◌, ◌≤◌, min, true, false, ℤ, pos, negsuc, neg_ℤ, None, Some, w64, to_z, of_z, FitsSigned, refl, ap, ◌∙◌, ⊎_elim, ◌⊎◌, inl, inr, le_refl, le_trans, lt_of_le_of_lt, mod-lt, mod-eq_of_lt, arith, pow_pos, pow_mono, pow-add, div-le_self, le-ltb, lt-ltb, le-leb, eq-eqb, ne_eqb}
use Rattle.std.proofs.lemmas.Bool.{false≢true, cases_lt, cases_eq}
use Rattle.std.proofs.lemmas.Bool.Decides.{nat_tests}
use borrow.Author.Tests.{ltb-true, ltb-false, lt-leb}
use lib.Signed.{mag_shr}
use Rattle.std.proofs.lemmas.Int.{to_z-of_z, to_z_pos}
use Rattle.std.proofs.lemmas.Nat.{shl-shr, mul-le, shl_below, shr_below, mod-pow-add}
use Rattle.std.proofs.Math.Nat.{mul-mod_left, pos_of_ne-zero}
use Rattle.std.specs.Prelude.{unsigned_abs, int_lt, int_div, int_rem}
use Rattle.std.specs.Int.{int_shr, int_max, int_min, saturate_signed, CanDivide}
use Rattle.numerics.specs.Numerics.{signed, unsigned, sat_s, sign_bit, shifted_right, top_bits, idiv_s, irem_s}
use Rattle.numerics.specs.Functions.{IsWidth}
use Rattle.numerics.proofs.Modulo.{quotient_in, quotient_out, pow_fits, half_twice, complement_shr, complement_mod, ones_shr}

-- cut off at m, and at - 1 - m
abbrev saturate : ℤ → ℕ → ℤ
saturate (pos n) m = pos (min n m)
saturate (negsuc n) m = negsuc (min n m)

module _ (N : ℕ) (w : IsWidth N) where
  -- ---------------------------------------------------------------- the two cases

  -- below half of 2 ^ N a number is its own reading ..
  signed_low : (i : ℕ) → i < 2 ^ (N - 1) → signed N i ≡ pos i
  unfolding signed
  signed_low i h = let t = half_twice N w in rw (lt-ltb (i * 2) (2 ^ N) (omega arith))

  -- .. and from there on it is 2 ^ N less
  signed_high : (i : ℕ) → 2 ^ (N - 1) ≤ i → i < 2 ^ N → signed N i ≡ negsuc (2 ^ N - suc i)
  unfolding signed
  signed_high i h l = let t = half_twice N w in rw (le-ltb (i * 2) (2 ^ N) (omega arith), lt-ltb i (2 ^ N) l)

  half_fits : 2 ^ (N - 1) ≤ 2 ^ 63
  half_fits = pow_mono {i = N - 1} {j = 63} (omega arith)

  -- the largest reading: N - 1 set bits, out of 63
  max_bits : (2 ^ 63 - 1) / 2 ^ (64 - N) ≡ 2 ^ (N - 1) - 1
  max_bits = ap (λ (k : ℕ). (2 ^ 63 - 1) / 2 ^ k) (let e : 64 - N ≡ 63 - (N - 1) = omega arith in e) ∙ ones_shr 63 (N - 1) (omega arith)

  pub max_is : to_z w64 ((2 ^ 63 - 1) / 2 ^ (64 - N)) ≡ pos (2 ^ (N - 1) - 1)
  max_is = rw max_bits (to_z_pos w64 (2 ^ (N - 1) - 1) (omega (arith, half_fits, pow_pos (N - 1))))

  pub min_is : to_z w64 (2 ^ 64 - suc ((2 ^ 63 - 1) / 2 ^ (64 - N))) ≡ negsuc (2 ^ (N - 1) - 1)
  min_is = rw max_bits (to_z-of_z w64 (negsuc (2 ^ (N - 1) - 1)) (record { sfits = omega (arith, half_fits, pow_pos (N - 1)) }))

  -- ---------------------------------------------------------------- into i64, and out of it

  -- a's lowest N bits at the top of 64
  at_top : (a : ℕ) → (a * 2 ^ (64 - N)) % 2 ^ 64 ≡ a % 2 ^ N * 2 ^ (64 - N)
  at_top a =
      let k = 64 - N in
      ap (λ (m : ℕ). (a * 2 ^ k) % 2 ^ m) (let e : 64 ≡ N + (64 - N) = omega arith in e)
      ∙ mod-pow-add (a * 2 ^ k) N k
      ∙ rw (shl-shr a k, mul-mod_left a (2 ^ k)) (omega arith)

  -- shifted down again they have their reading
  module _ (i : ℕ) where
    top_low : i < 2 ^ (N - 1) → i * 2 ^ (64 - N) < 2 ^ 63
    top_low h = rw (let e : N - 1 + (64 - N) ≡ 63 = omega arith in e) at (shl_below i (N - 1) (64 - N) h)

    top_high : 2 ^ (N - 1) ≤ i → 2 ^ 63 ≤ i * 2 ^ (64 - N)
    top_high h = rw (← pow-add 2 (N - 1) (64 - N), (let e : N - 1 + (64 - N) ≡ 63 = omega arith in e)) at (mul-le (2 ^ (N - 1)) (2 ^ (64 - N)) i (2 ^ (64 - N)) h (le_refl (2 ^ (64 - N))))

    top_rest : i < 2 ^ N → (2 ^ 64 - suc (i * 2 ^ (64 - N))) / 2 ^ (64 - N) ≡ 2 ^ N - suc i
    top_rest l =
        let e : N + (64 - N) ≡ 64 = omega arith in
        rw (e, shl-shr i (64 - N)) at (complement_shr N (64 - N) (i * 2 ^ (64 - N)) (shl_below i N (64 - N) l))

    extended_at : i < 2 ^ N → int_shr (to_z w64 (i * 2 ^ (64 - N))) (64 - N) ≡ signed N i
    extended_at l =
        ⊎_elim
        (λ (h : i < 2 ^ (N - 1)). rw (signed_low i h, lt-ltb (i * 2 ^ (64 - N)) (2 ^ 63) (top_low h)) (ap pos (shl-shr i (64 - N))))
        (λ (h : 2 ^ (N - 1) ≤ i). rw (signed_high i h l, le-ltb (i * 2 ^ (64 - N)) (2 ^ 63) (top_high h)) (ap negsuc (top_rest l)))
        (cases_lt i (2 ^ (N - 1)))

  pub extended : (a : ℕ) → int_shr (to_z w64 ((a * 2 ^ (64 - N)) % 2 ^ 64)) (64 - N) ≡ signed N (a % 2 ^ N)
  extended a = rw (at_top a) (extended_at (a % 2 ^ N) (mod-lt a (pow_pos N)))

  -- a reading is an i64
  pub signed_fits : (i : ℕ) → i < 2 ^ N → FitsSigned w64 (signed N i)
  signed_fits i l =
      let t = half_twice N w in
      ⊎_elim
      (λ (h : i < 2 ^ (N - 1)). rw (signed_low i h) (record { sfits = omega (arith, half_fits) }))
      (λ (h : 2 ^ (N - 1) ≤ i). rw (signed_high i h l) (record { sfits = omega (arith, half_fits) }))
      (cases_lt i (2 ^ (N - 1)))

  -- the number that an i64 is congruent to
  pub unsigned_is : (z : ℤ) → FitsSigned w64 z → of_z w64 z % 2 ^ N ≡ unsigned N z
  unfolding unsigned
  unsigned_is (pos n) f = refl
  unsigned_is (negsuc n) f =
      let e : 64 - N + N ≡ 64 = omega arith in
      let l : n < 2 ^ (64 - N + N) = rw e (omega (arith, f.sfits)) in
      rw e at (complement_mod (64 - N) N n l) ∙ (let g : 2 ^ N - suc (n % 2 ^ N) ≡ 2 ^ N - 1 - n % 2 ^ N = omega arith in g)

  -- ---------------------------------------------------------------- the ends of the range

  -- a reading cut off at both of them
  cut : (m : ℕ) (z : ℤ) → int_max (negsuc m) (int_min z (pos m)) ≡ saturate z m
  cut m (pos n) = grind (arith, nat_tests)
  cut m (negsuc n) = grind (arith, nat_tests)

  pub clamped : (z : ℤ) → unsigned N (int_max (negsuc (2 ^ (N - 1) - 1)) (int_min z (pos (2 ^ (N - 1) - 1)))) ≡ sat_s N z
  unfolding sat_s
  clamped (pos n) = ap (unsigned N) (cut (2 ^ (N - 1) - 1) (pos n))
  clamped (negsuc n) = ap (unsigned N) (cut (2 ^ (N - 1) - 1) (negsuc n))

  -- what 64 bits cut off, N bits do
  pub cut_twice : (z : ℤ) → sat_s N (saturate_signed w64 z) ≡ sat_s N z
  unfolding sat_s
  cut_twice (pos n) = ap (λ (m : ℕ). unsigned N (pos m)) (omega (arith, half_fits))
  cut_twice (negsuc n) = ap (λ (m : ℕ). unsigned N (negsuc m)) (omega (arith, half_fits))

-- ---------------------------------------------------------------- shifts and quotients

-- the sign's copies stand above what is left of the number
sign_shifted_of : (N i k : ℕ) → IsWidth N → i < 2 ^ N → k < N → unsigned N (int_shr (signed N i) k) ≡ shifted_right N i k + sign_bit N i * top_bits N k
unfolding unsigned shifted_right sign_bit top_bits
sign_shifted_of N i k w l h =
    let t = half_twice N w in
    let e : N ≡ N - k + k = omega arith in
    let q : i / 2 ^ k < 2 ^ (N - k) = shr_below i (N - k) k (rw (← e) l) in
    let c : (2 ^ N - suc i) / 2 ^ k ≡ 2 ^ (N - k) - suc (i / 2 ^ k) = rw (← e) at (complement_shr (N - k) k i (rw (← e) l)) in
    let p : 2 ^ (N - k) ≤ 2 ^ N = pow_mono {i = N - k} {j = N} (omega arith) in
    ⊎_elim
    (λ (g : i < 2 ^ (N - 1)). rw (signed_low N w i g, lt-leb (2 ^ N) (i * 2) (omega arith), mod-eq_of_lt (let z : i / 2 ^ k < 2 ^ N = omega arith in z)) (omega arith))
    (λ (g : 2 ^ (N - 1) ≤ i).
    rw (signed_high N w i g l, le-leb (2 ^ N) (i * 2) (omega arith), c, mod-eq_of_lt (let z : 2 ^ (N - k) - suc (i / 2 ^ k) < 2 ^ N = omega arith in z)) (omega arith))
    (cases_lt i (2 ^ (N - 1)))

-- the sizes' quotient, with a sign
by_signs : (x y : ℤ) → (int_div x y ≡ pos (unsigned_abs x / unsigned_abs y)) ⊎ (int_div x y ≡ neg_ℤ (pos (unsigned_abs x / unsigned_abs y)))
by_signs (pos a) (pos b) = inl refl
by_signs (pos a) (negsuc b) = inr refl
by_signs (negsuc a) (pos b) = inr refl
by_signs (negsuc a) (negsuc b) = inl refl

module _ (N i j : ℕ) (w : IsWidth N) (li : i < 2 ^ N) (lj : j < 2 ^ N) where
  -- 0 is read as 0, and nothing else is
  zero_read : j ≡ 0 → of_z w64 (signed N j) ≡ 0
  zero_read e = rw (e, signed_low N w 0 (pow_pos (N - 1)))

  read_zero : of_z w64 (signed N j) ≡ 0 → j ≡ 0
  read_zero =
      ⊎_elim
      (λ (g : j < 2 ^ (N - 1)). rw (signed_low N w j g) (λ e. e))
      (λ (g : 2 ^ (N - 1) ≤ j). rw (signed_high N w j g lj) (λ (e : 2 ^ 64 - suc (2 ^ N - suc j) ≡ 0). absurd (omega (arith, pow_fits N w, pow_pos (N - 1)))))
      (cases_lt j (2 ^ (N - 1)))

  -- any other is no divisor 0
  nonzero : (j ≡ 0 → ⊥) → 0 < of_z w64 (signed N j)
  nonzero z = pos_of_ne-zero (λ e. z (read_zero e))

  no_remainder_of : of_z w64 (signed N j) ≡ 0 → irem_s N i j ≡ None
  unfolding irem_s
  no_remainder_of e = rw (read_zero e)

  remainder_of : (of_z w64 (signed N j) ≡ 0 → ⊥) → irem_s N i j ≡ Some (unsigned N (int_rem (signed N i) (signed N j)))
  unfolding irem_s
  remainder_of e = rw (ne_eqb j 0 (λ z. e (zero_read z)))

  -- the quotient's size is at most half of 2 ^ N
  quotient_size : (n : ℕ) × (n ≤ 2 ^ (N - 1)) × ((int_div (signed N i) (signed N j) ≡ pos n) ⊎ (int_div (signed N i) (signed N j) ≡ neg_ℤ (pos n)))
  quotient_size =
      let t = half_twice N w in
      let l : unsigned_abs (signed N i) ≤ 2 ^ (N - 1) =
      ⊎_elim
      (λ (g : i < 2 ^ (N - 1)). rw (signed_low N w i g) (omega arith))
      (λ (g : 2 ^ (N - 1) ≤ i). rw (signed_high N w i g li) (omega arith))
      (cases_lt i (2 ^ (N - 1)))
      in
      let n = unsigned_abs (signed N i) / unsigned_abs (signed N j) in
      (n, le_trans (div-le_self (unsigned_abs (signed N i)) (unsigned_abs (signed N j))) l, by_signs (signed N i) (signed N j))

  -- a quotient that is no i64 is 2 ^ (N - 1), which has no reading
  undivided_by : (j ≡ 0 → ⊥) → ¬ CanDivide w64 (signed N i) (signed N j) → (n : ℕ) → n ≤ 2 ^ (N - 1)
      → (int_div (signed N i) (signed N j) ≡ pos n) ⊎ (int_div (signed N i) (signed N j) ≡ neg_ℤ (pos n)) → idiv_s N i j ≡ None
  unfolding idiv_s
  undivided_by z h n l (inl e) =
      ⊎_elim
      (λ (g : n < 2 ^ 63). absurd (h (nonzero z, rw e (record { sfits = g }))))
      (λ (g : 2 ^ 63 ≤ n). rw (ne_eqb j 0 z, e, eq-eqb n (2 ^ (N - 1)) (omega (arith, half_fits N w))))
      (cases_lt n (2 ^ 63))
  undivided_by z h zero l (inr e) = absurd (h (nonzero z, rw e (record { sfits = omega arith })))
  undivided_by z h (suc n) l (inr e) = absurd (h (nonzero z, rw e (record { sfits = omega (arith, half_fits N w) })))

  undivided_of : ¬ CanDivide w64 (signed N i) (signed N j) → idiv_s N i j ≡ None
  unfolding idiv_s
  undivided_of h =
      ⊎_elim
      (λ (z : j ≡ 0). rw z)
      (λ (z : j ≡ 0 → ⊥). undivided_by z h quotient_size.0 quotient_size.1 quotient_size.2)
      (cases_eq j 0)

  -- and so is what is above the largest reading
  over_by : (j ≡ 0 → ⊥) → (n : ℕ) → n ≤ 2 ^ (N - 1) → (int_div (signed N i) (signed N j) ≡ pos n) ⊎ (int_div (signed N i) (signed N j) ≡ neg_ℤ (pos n))
      → int_lt (pos (2 ^ (N - 1) - 1)) (int_div (signed N i) (signed N j)) ≡ true → idiv_s N i j ≡ None
  unfolding idiv_s
  over_by z n l (inl e) h =
      let g = ltb-true (2 ^ (N - 1) - 1) n (rw e at h) in
      rw (ne_eqb j 0 z, e, eq-eqb n (2 ^ (N - 1)) (omega arith))
  over_by z zero l (inr e) h =
      let g = ltb-true (2 ^ (N - 1) - 1) 0 (rw e at h) in absurd (omega arith)
  over_by z (suc n) l (inr e) h =
      absurd (false≢true (rw e at h))

  -- any other is the quotient of the sizes, with its sign
  divided_by : (j ≡ 0 → ⊥) → (n : ℕ) → n ≤ 2 ^ (N - 1) → (int_div (signed N i) (signed N j) ≡ pos n) ⊎ (int_div (signed N i) (signed N j) ≡ neg_ℤ (pos n))
      → int_lt (pos (2 ^ (N - 1) - 1)) (int_div (signed N i) (signed N j)) ≡ false → idiv_s N i j ≡ Some (unsigned N (int_div (signed N i) (signed N j)))
  unfolding idiv_s
  divided_by z n l (inl e) h =
      let g = ltb-false (2 ^ (N - 1) - 1) n (rw e at h) in
      rw (ne_eqb j 0 z, e, ne_eqb n (2 ^ (N - 1)) (λ u. omega (arith, pow_pos (N - 1))))
  divided_by z zero l (inr e) h = rw (ne_eqb j 0 z, e, ne_eqb 0 (2 ^ (N - 1)) (λ u. omega (arith, pow_pos (N - 1))))
  divided_by z (suc n) l (inr e) h = rw (ne_eqb j 0 z, e)

  -- a divisor that is not 0
  not_zero : 0 < of_z w64 (signed N j) → j ≡ 0 → ⊥
  not_zero p z = let e = zero_read z in omega arith

  over_of : 0 < of_z w64 (signed N j) → int_lt (pos (2 ^ (N - 1) - 1)) (int_div (signed N i) (signed N j)) ≡ true → idiv_s N i j ≡ None
  over_of p = over_by (not_zero p) quotient_size.0 quotient_size.1 quotient_size.2

  divided_of : 0 < of_z w64 (signed N j) → int_lt (pos (2 ^ (N - 1) - 1)) (int_div (signed N i) (signed N j)) ≡ false → idiv_s N i j ≡ Some (unsigned N (int_div (signed N i) (signed N j)))
  divided_of p = divided_by (not_zero p) quotient_size.0 quotient_size.1 quotient_size.2

-- the same of operands that are not reduced
module _ (N a : ℕ) (w : IsWidth N) where
  below : a % 2 ^ N < 2 ^ N
  below = mod-lt a (pow_pos N)

  pub sign_shifted : (k : ℕ) → k < N → unsigned N (int_shr (signed N (a % 2 ^ N)) k) ≡ shifted_right N (a % 2 ^ N) k + sign_bit N (a % 2 ^ N) * top_bits N k
  sign_shifted k l = sign_shifted_of N (a % 2 ^ N) k w below l

module _ (N a b : ℕ) (w : IsWidth N) where
  pub no_remainder : of_z w64 (signed N (b % 2 ^ N)) ≡ 0 → irem_s N (a % 2 ^ N) (b % 2 ^ N) ≡ None
  no_remainder = no_remainder_of N (a % 2 ^ N) (b % 2 ^ N) w (below N a w) (below N b w)

  pub remainder : (of_z w64 (signed N (b % 2 ^ N)) ≡ 0 → ⊥) → irem_s N (a % 2 ^ N) (b % 2 ^ N) ≡ Some (unsigned N (int_rem (signed N (a % 2 ^ N)) (signed N (b % 2 ^ N))))
  remainder = remainder_of N (a % 2 ^ N) (b % 2 ^ N) w (below N a w) (below N b w)

  pub undivided : ¬ CanDivide w64 (signed N (a % 2 ^ N)) (signed N (b % 2 ^ N)) → idiv_s N (a % 2 ^ N) (b % 2 ^ N) ≡ None
  undivided = undivided_of N (a % 2 ^ N) (b % 2 ^ N) w (below N a w) (below N b w)

  pub over : 0 < of_z w64 (signed N (b % 2 ^ N)) → int_lt (pos (2 ^ (N - 1) - 1)) (int_div (signed N (a % 2 ^ N)) (signed N (b % 2 ^ N))) ≡ true → idiv_s N (a % 2 ^ N) (b % 2 ^ N) ≡ None
  over = over_of N (a % 2 ^ N) (b % 2 ^ N) w (below N a w) (below N b w)

  pub divided : 0 < of_z w64 (signed N (b % 2 ^ N)) → int_lt (pos (2 ^ (N - 1) - 1)) (int_div (signed N (a % 2 ^ N)) (signed N (b % 2 ^ N))) ≡ false
      → idiv_s N (a % 2 ^ N) (b % 2 ^ N) ≡ Some (unsigned N (int_div (signed N (a % 2 ^ N)) (signed N (b % 2 ^ N))))
  divided = divided_of N (a % 2 ^ N) (b % 2 ^ N) w (below N a w) (below N b w)

-- ---------------------------------------------------------------- for the functions' proofs

-- a reading moved right is an i64 too
pub shift_fits : (z : ℤ) (k : ℕ) → FitsSigned w64 z → FitsSigned w64 (int_shr z k)
shift_fits z k f = record { sfits = lt_of_le_of_lt (mag_shr z (2 ^ k)) f.sfits }

-- an i64 is passed as it is
pub ruleset passed = (to_z-of_z, signed_fits, shift_fits)

pub ruleset readings = (max_is, min_is, extended, signed_fits, unsigned_is, clamped, to_z-of_z)

pub ruleset quotients = (quotient_in, quotient_out, undivided, divided, over, to_z-of_z, signed_fits)

pub ruleset remainders = (quotient_in, quotient_out, no_remainder, remainder, to_z-of_z, signed_fits)
