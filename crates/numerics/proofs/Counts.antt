-- The counts of bits at every width, by those of 64 bits.
use Rattle.std.proofs.Common.{◌≡◌, ℕ, zero, suc, ◌+◌, ◌-◌, ◌*◌, ◌/◌, ◌%◌, ◌^◌, ◌<◌, ◌≤◌, min, max, Bool, true, false, eqb, sym, refl, ap, ◌∙◌, zero-le, mod-lt, arith, pow_pos, eqb-true}
use borrow.Author.Tests.{eqb-false}
use lib.Count as C
use lib.Count.{ones_step, under, leading_unique}
use Rattle.numerics.specs.Numerics.{significant, trailing, ones}
use Rattle.numerics.specs.Functions.{IsWidth}

-- half of a number has a bit less
half_lt : (n i : ℕ) → i < 2 ^ suc n → i / 2 < 2 ^ n
half_lt n i h = omega arith

-- ---------------------------------------------------------------- ones

-- 0 has no bits set
none : C.ones 0 ≡ 0
unfolding C.ones
none = refl

-- all ones of a number below 2 ^ n are among its n lowest bits
ones_is : (n i : ℕ) → i < 2 ^ n → C.ones i ≡ ones n i
unfolding ones
ones_is zero i h = rw (let e : i ≡ 0 = omega arith in e) none
ones_is (suc n) i h = ones_step i ∙ ap (λ (x : ℕ). i % 2 + x) (ones_is n (i / 2) (half_lt n i h))

-- ---------------------------------------------------------------- trailing zeros

-- of k digits, no fewer than n: the count of the n lowest stops at n
trailing_is : (k n i : ℕ) → n ≤ k → min (C.count_trailing_zeros k i) n ≡ trailing n i
unfolding trailing C.count_trailing_zeros
trailing_is k zero i h = omega arith
trailing_is zero (suc n) i h = absurd (omega arith)
trailing_is (suc k) (suc n) i h = go (i % 2) (eqb (i % 2) 0) refl (C.count_trailing_zeros k (i / 2)) (trailing n (i / 2)) (trailing_is k n (i / 2) (omega arith))
  where
    go : (b : ℕ) (c : Bool) → eqb b 0 ≡ c → (t u : ℕ) → min t n ≡ u → min (under b t) (suc n) ≡ elim c [ true ↦ suc u | false ↦ 0 ]
    go zero true e t u g = omega arith
    go zero false e t u g = absurd (eqb-false 0 0 e refl)
    go (suc b) true e t u g = let z = eqb-true (suc b) 0 e in absurd (omega arith)
    go (suc b) false e t u g = omega arith

-- ---------------------------------------------------------------- leading zeros

-- there are at most n significant bits
significant_le : (n i : ℕ) → significant n i ≤ n
unfolding significant
significant_le zero i = zero-le
significant_le (suc n) i = go (eqb i 0) (significant_le n (i / 2))
  where
    go : (t : Bool) → significant n (i / 2) ≤ n → elim t [ true ↦ 0 | false ↦ suc (significant n (i / 2)) ] ≤ suc n
    go true h = zero-le
    go false h = omega arith

-- the significant bits are i's length: no fewer hold it
length_is : (n i : ℕ) → i < 2 ^ n → (i < 2 ^ significant n i) × (2 ^ significant n i ≤ max 1 (2 * i))
unfolding significant
length_is zero i h = (h, omega arith)
length_is (suc n) i h = go (eqb i 0) refl (length_is n (i / 2) (half_lt n i h))
  where
    go : (t : Bool) → eqb i 0 ≡ t → (i / 2 < 2 ^ significant n (i / 2)) × (2 ^ significant n (i / 2) ≤ max 1 (2 * (i / 2)))
        → (i < 2 ^ (elim t [ true ↦ 0 | false ↦ suc (significant n (i / 2)) ])) × (2 ^ (elim t [ true ↦ 0 | false ↦ suc (significant n (i / 2)) ]) ≤ max 1 (2 * i))
    go true e p = let z = eqb-true i 0 e in (omega arith, omega arith)
    go false e p = let z = eqb-false i 0 e in (omega arith, omega arith)

-- the significant bits and the leading zeros of 64 make 64
leading_is : (n i : ℕ) → IsWidth n → i < 2 ^ n → C.count_leading_zeros 64 i ≡ 64 - significant n i
leading_is n i w h =
    let l = length_is n i h in
    let m = significant_le n i in
    sym (leading_unique 64 i (64 - significant n i) (significant n i) (omega arith) l.0 (omega arith))

module _ (N a : ℕ) (w : IsWidth N) where
  -- the 64 - N bits above the width are leading zeros ..
  pub leading_enough : 64 - N ≤ C.count_leading_zeros 64 (a % 2 ^ N)
  leading_enough = omega (arith, leading_is N (a % 2 ^ N) w (mod-lt a (pow_pos N)), significant_le N (a % 2 ^ N))

  -- .. and without them the rest are the width's own
  pub leading_left : C.count_leading_zeros 64 (a % 2 ^ N) - (64 - N) ≡ N - significant N (a % 2 ^ N)
  leading_left = rw (leading_is N (a % 2 ^ N) w (mod-lt a (pow_pos N))) (omega (arith, significant_le N (a % 2 ^ N)))

  -- all 64 where no bit is set, and then N
  pub trailing_left : min (C.count_trailing_zeros 64 (a % 2 ^ N)) N ≡ trailing N (a % 2 ^ N)
  trailing_left = trailing_is 64 N (a % 2 ^ N) w.fits

  -- a number of N bits has no others set
  pub ones_left : C.ones (a % 2 ^ N) ≡ ones N (a % 2 ^ N)
  ones_left = ones_is N (a % 2 ^ N) (mod-lt a (pow_pos N))
