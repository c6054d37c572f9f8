-- Numbers modulo 2 ^ N, at every width N.
use Rattle.std.proofs.Common.{◌≡◌, ℕ, suc, ◌+◌, ◌-◌, ◌*◌, ◌/◌, ◌%◌, ◌^◌, ◌<◌, ◌≤◌, sym, ap, ◌∙◌, Option, None, false, le-leb, le_refl, bit_and, mod-lt, mod-eq_of_lt, arith, pow_pos, pow_mono, pow-add, ⊎_elim}
use Rattle.std.proofs.Math.Nat.{zero-div, zero-mod, add-mod, add-mod_right, mod-eq-sub-mod}
use Rattle.std.proofs.lemmas.Bool.{cases_lt}
use Rattle.std.proofs.lemmas.Nat.{shr_split, shr_below, shr_high, mod_low, mod-pow-add, mul-mod, and_mod}
use Rattle.numerics.specs.Functions.{IsWidth, widths, quotient_at}

module _ (N : ℕ) where
  -- a number of N bits is a u64
  pub pow_fits : IsWidth N → 2 ^ N ≤ 2 ^ 64
  pow_fits w = pow_mono w.fits

  -- 2 ^ N is twice 2 ^ (N - 1)
  pub half_twice : IsWidth N → 2 ^ N ≡ 2 ^ (N - 1) + 2 ^ (N - 1)
  half_twice w = go (N - 1) (let e : N ≡ suc (N - 1) = omega arith in e)
    where
      go : (k : ℕ) → N ≡ suc k → 2 ^ N ≡ 2 ^ k + 2 ^ k
      go k e = rw e (omega arith)

  -- M bits hold the lowest N
  pub narrowed : (M x : ℕ) → N ≤ M → x % 2 ^ M % 2 ^ N ≡ x % 2 ^ N
  narrowed M x h =
      ap (λ (k : ℕ). x % 2 ^ k % 2 ^ N) (let e : M ≡ (M - N) + N = omega arith in e)
      ∙ ap (λ (y : ℕ). y % 2 ^ N) (mod-pow-add x (M - N) N)
      ∙ mod_low (x / 2 ^ N % 2 ^ (M - N)) N (x % 2 ^ N) (mod-lt x (pow_pos N))

  -- .. and so do 64, at any width
  pub of_64 : (x : ℕ) → IsWidth N → x % 2 ^ 64 % 2 ^ N ≡ x % 2 ^ N
  of_64 x w = narrowed 64 x w.fits

-- ---------------------------------------------------------------- complements

-- what is left up to j + k set bits, by its j high bits and its k low ones
complement : (j k x : ℕ) → x < 2 ^ (j + k) → 2 ^ (j + k) - suc x ≡ (2 ^ j - suc (x / 2 ^ k)) * 2 ^ k + (2 ^ k - suc (x % 2 ^ k))
complement j k x h =
    let q = x / 2 ^ k in
    let p = 2 ^ j - suc q in
    let e : 2 ^ j ≡ p + q + 1 = omega (arith, shr_below x j k h) in
    let f : 2 ^ j * 2 ^ k ≡ (p + q + 1) * 2 ^ k = ap (λ (m : ℕ). m * 2 ^ k) e in
    omega (arith, f, pow-add 2 j k, shr_split x k, mod-lt x (pow_pos k))

pub complement_shr : (j k x : ℕ) → x < 2 ^ (j + k) → (2 ^ (j + k) - suc x) / 2 ^ k ≡ 2 ^ j - suc (x / 2 ^ k)
complement_shr j k x h =
    ap (λ (y : ℕ). y / 2 ^ k) (complement j k x h) ∙ shr_high (2 ^ j - suc (x / 2 ^ k)) k (2 ^ k - suc (x % 2 ^ k)) (omega (arith, pow_pos k))

pub complement_mod : (j k x : ℕ) → x < 2 ^ (j + k) → (2 ^ (j + k) - suc x) % 2 ^ k ≡ 2 ^ k - suc (x % 2 ^ k)
complement_mod j k x h =
    ap (λ (y : ℕ). y % 2 ^ k) (complement j k x h) ∙ mod_low (2 ^ j - suc (x / 2 ^ k)) k (2 ^ k - suc (x % 2 ^ k)) (omega (arith, pow_pos k))

-- N set bits, out of M
pub ones_shr : (M N : ℕ) → N ≤ M → (2 ^ M - 1) / 2 ^ (M - N) ≡ 2 ^ N - 1
ones_shr M N h =
    let e : M ≡ N + (M - N) = omega arith in
    ap (λ (k : ℕ). (2 ^ k - 1) / 2 ^ (M - N)) e ∙ complement_shr N (M - N) 0 (pow_pos (N + (M - N))) ∙ omega (arith, zero-div (2 ^ (M - N)))

-- ---------------------------------------------------------------- sums, differences and products of unreduced operands

module _ (N a b : ℕ) (w : IsWidth N) where
  pub sum_mod : (a + b) % 2 ^ 64 % 2 ^ N ≡ (a % 2 ^ N + b % 2 ^ N) % 2 ^ N
  sum_mod = of_64 N (a + b) w ∙ add-mod a b (2 ^ N)

  pub product_mod : (a * b) % 2 ^ 64 % 2 ^ N ≡ (a % 2 ^ N * (b % 2 ^ N)) % 2 ^ N
  product_mod = of_64 N (a * b) w ∙ mul-mod a b (2 ^ N)

-- x and y below P make z modulo P, so x is z less y
take_off : (P x y z : ℕ) → x < P → y < P → z ≡ (x + y) % P → x ≡ (z + P - y) % P
take_off P x y z hx hy e =
    ⊎_elim
    (λ (h : x + y < P). let f : z ≡ x + y = e ∙ mod-eq_of_lt h in
    sym (ap (λ (u : ℕ). u % P) (let g : z + P - y ≡ x + P = omega arith in g) ∙ add-mod_right x P ∙ mod-eq_of_lt hx))
    (λ (h : P ≤ x + y). let f : z ≡ x + y - P = e ∙ mod-eq-sub-mod h ∙ mod-eq_of_lt (omega arith) in
    sym (ap (λ (u : ℕ). u % P) (let g : z + P - y ≡ x = omega arith in g) ∙ mod-eq_of_lt hx))
    (cases_lt (x + y) P)

-- the difference, by what it makes with b
pub difference_mod : (N a b : ℕ) → IsWidth N → b < 2 ^ 64 → (a + (2 ^ 64 - b)) % 2 ^ 64 % 2 ^ N ≡ (a % 2 ^ N + 2 ^ N - b % 2 ^ N) % 2 ^ N
difference_mod N a b w h =
    let s = (a + (2 ^ 64 - b)) % 2 ^ 64 in
    let e : (s + b) % 2 ^ 64 ≡ a % 2 ^ 64 = omega arith in
    take_off (2 ^ N) (s % 2 ^ N) (b % 2 ^ N) (a % 2 ^ N) (mod-lt s (pow_pos N)) (mod-lt b (pow_pos N))
    (sym (of_64 N a w) ∙ ap (λ (x : ℕ). x % 2 ^ N) (sym e) ∙ of_64 N (s + b) w ∙ add-mod s b (2 ^ N))

-- from 0 it is a negation
pub zero_less : (P x : ℕ) → 0 % P + P - x ≡ P - x
zero_less P x = omega (arith, zero-mod P)

-- ---------------------------------------------------------------- bits of unreduced operands

-- the reduced side first, so that it applies once
pub low_of_and : (N a b : ℕ) → bit_and (a % 2 ^ N) (b % 2 ^ N) ≡ bit_and a b % 2 ^ N
low_of_and N a b = sym (and_mod a b N)

-- ---------------------------------------------------------------- at a width

-- the operation's own answer ..
pub quotient_in : (f : ℕ → ℕ → ℕ → Option ℕ) (N a b : ℕ) → IsWidth N → f N (a % 2 ^ N) (b % 2 ^ N) ≡ quotient_at f N a b
unfolding quotient_at
quotient_in f N a b w = rw (le-leb 1 N w.positive, le-leb N N (le_refl N), le-leb N 64 w.fits)

-- .. and none outside
pub quotient_out : (f : ℕ → ℕ → ℕ → Option ℕ) (N a b : ℕ) → widths N N ≡ false → quotient_at f N a b ≡ None
unfolding quotient_at
quotient_out f N a b e = rw e
