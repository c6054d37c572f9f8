-- Numbers by their bits: what is packed has those bits, and a number below 2 ^ n is its n bits packed.
use Prim.Native.Nat.{ℕ, zero, suc, ◌+◌, ◌*◌, ◌/◌, ◌%◌, ◌^◌, ◌≤◌, ◌<◌}
use mathlib.Core.Path.{◌≡◌, refl, sym, ap, ap₂, ◌∙◌}
use native.Mathlib.Omega.{arith}
use native.Mathlib.Nat.{add-zero, add-suc, suc-add, zero-add, pow-zero, pow-succ', mul-suc, mul-le-mul_left, div-one, div-eq_of_lt, mod-lt, le_of_suc-le-suc, not-suc-le-zero}
use lib.Pow.{shr-shr}
use lib.ListN.{length, get_or}
use Rattle.blocks.specs.Blocks.{bit, packed, byte, listed}

-- ---------------------------------------------------------------- bits

pub bit_zero : (x : ℕ) → bit x 0 ≡ x % 2
unfolding bit
bit_zero x = rw (pow-zero, div-one)

pub bit_suc : (x i : ℕ) → bit x (suc i) ≡ bit (x / 2) i
unfolding bit
bit_suc x i = ap (λ (y : ℕ). y % 2) (sym (shr-shr x 1 i ∙ ap (λ (k : ℕ). x / 2 ^ k) (omega arith)))

pub bit_below : (x i : ℕ) → bit x i < 2
unfolding bit
bit_below x i = mod-lt (x / 2 ^ i) (omega arith)

-- ---------------------------------------------------------------- packed

pub packed_below : (base : ℕ) (f : ℕ → ℕ) → ((j : ℕ) → f j < base) → (n i : ℕ) → packed base n i f < base ^ n
unfolding packed
packed_below base f digits zero i = rw pow-zero (omega arith)
packed_below base f digits (suc n) i = omega (arith, digits i, mul-le-mul_left base (packed_below base f digits n (suc i)), pow-succ' base n, mul-suc base (packed base n (suc i) f))

module _ (f : ℕ → ℕ) (bits : (j : ℕ) → f j < 2) where
  packed_bit : (n i k : ℕ) → k < n → bit (packed 2 n i f) k ≡ f (i + k)
  unfolding packed
  packed_bit zero i k h = absurd (not-suc-le-zero h)
  packed_bit (suc n) i zero h = bit_zero (f i + 2 * packed 2 n (suc i) f) ∙ omega (arith, bits i) ∙ ap f (sym (add-zero i))
  packed_bit (suc n) i (suc k) h =
      let p = packed 2 n (suc i) f in
      let e : (f i + 2 * p) / 2 ≡ p = omega (arith, bits i) in
      bit_suc (f i + 2 * p) k ∙ ap (λ (x : ℕ). bit x k) e ∙ packed_bit n (suc i) k (le_of_suc-le-suc h) ∙ ap f (omega arith)

packed_bits : (x n i : ℕ) → x < 2 ^ (i + n) → packed 2 n i (bit x) ≡ x / 2 ^ i
unfolding packed bit
packed_bits x zero i h = sym (div-eq_of_lt (rw add-zero at h))
packed_bits x (suc n) i h =
    let e : x / 2 ^ i / 2 ≡ x / 2 ^ suc i = shr-shr x i 1 ∙ ap (λ (k : ℕ). x / 2 ^ k) (omega arith) in
    let h' : x < 2 ^ (suc i + n) = rw (suc-add i n) (rw add-suc at h) in
    omega (arith, packed_bits x n (suc i) h')

packed_same : (f g : ℕ → ℕ) (m : ℕ) → ((j : ℕ) → j < m → f j ≡ g j) → (n i : ℕ) → i + n ≤ m → packed 2 n i f ≡ packed 2 n i g
unfolding packed
packed_same f g m same zero i h = refl
packed_same f g m same (suc n) i h =
    ap₂ (λ (a b : ℕ). a + 2 * b) (same i (omega arith)) (packed_same f g m same n (suc i) (omega arith))

-- ---------------------------------------------------------------- bytes

-- a byte is determined by its eight bits
pub byte_is : (x : ℕ) (f : ℕ → ℕ) → x < 256 → ((i : ℕ) → i < 8 → f i ≡ bit x i) → byte f ≡ x
byte_is x f h same = packed_same f (bit x) 8 same 8 0 (omega arith) ∙ packed_bits x 8 0 h ∙ rw (pow-zero, div-one)

pub bit_of_byte : (f : ℕ → ℕ) → ((j : ℕ) → f j < 2) → (k : ℕ) → k < 8 → bit (byte f) k ≡ f k
bit_of_byte f bits k h = packed_bit f bits 8 0 k h ∙ ap f (zero-add k)

-- ---------------------------------------------------------------- lists by their index

pub length_listed : (n i : ℕ) (f : ℕ → ℕ) → length (listed n i f) ≡ n
unfolding listed
length_listed zero i f = refl
length_listed (suc n) i f = ap suc (length_listed n (suc i) f)

pub get_d_listed : (n i : ℕ) (f : ℕ → ℕ) (k : ℕ) → k < n → get_or (listed n i f) k 0 ≡ f (i + k)
unfolding listed
get_d_listed zero i f k h = absurd (not-suc-le-zero h)
get_d_listed (suc n) i f zero h = ap f (sym (add-zero i))
get_d_listed (suc n) i f (suc k) h = get_d_listed n (suc i) f k (le_of_suc-le-suc h) ∙ ap f (omega arith)
