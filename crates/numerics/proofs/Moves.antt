-- Shifts and rotates, at every width.
use Rattle.std.proofs.Common.{◌≡◌, ℕ, ◌+◌, ◌-◌, ◌*◌, ◌/◌, ◌%◌, ◌^◌, ◌<◌, ◌≤◌, sym, ap, ◌∙◌, ap₂, mod-lt, div-one, arith, pow_pos, pow-add, shr-shr}
use Rattle.std.proofs.Math.Nat.{mul-mod_left}
use Rattle.std.proofs.lemmas.Nat.{mod-pow-add, shl-shr, shr_below, mul-add-lt, mul-mod_first}
use Rattle.numerics.specs.Numerics.{rotated_left, rotated_right}
use Rattle.numerics.specs.Functions.{IsWidth}
use Rattle.numerics.proofs.Modulo.{of_64, pow_fits}

-- 64 bits of a number moved left hold its lowest N
pub moved_left : (N a k : ℕ) → IsWidth N → (a * 2 ^ k) % 2 ^ 64 % 2 ^ N ≡ (a % 2 ^ N * 2 ^ k) % 2 ^ N
moved_left N a k w = of_64 N (a * 2 ^ k) w ∙ sym (mul-mod_first a (2 ^ k) (2 ^ N))

-- the two parts of a number change places
parts_lt : (j k i : ℕ) → i < 2 ^ (j + k) → (i * 2 ^ k) % 2 ^ (j + k) + i / 2 ^ j < 2 ^ (j + k)
parts_lt j k i h =
    rw (mod-pow-add (i * 2 ^ k) j k, shl-shr i k, mul-mod_left i (2 ^ k), pow-add 2 j k)
    (let d = mul-add-lt (i % 2 ^ j) (2 ^ k) (i / 2 ^ j) (2 ^ j) (mod-lt i (pow_pos j))
    (shr_below i k j (rw (let e : k + j ≡ j + k = omega arith in e) h)) in omega arith)

-- a rotated number has N bits
rotated_lt : (N i k : ℕ) → i < 2 ^ N → k ≤ N → rotated_left N i k < 2 ^ N
unfolding rotated_left
rotated_lt N i k h l = let e : N ≡ (N - k) + k = omega arith in rw (← e) at (parts_lt (N - k) k i (rw (← e) h))

module _ (N a k : ℕ) (w : IsWidth N) (l : k < N) where
  -- it is made of the two parts, by shifts within 64 bits ..
  pub rotated_is : (a * 2 ^ k) % 2 ^ 64 % 2 ^ N + a % 2 ^ N / 2 ^ 1 / 2 ^ (N - 1 - k) ≡ rotated_left N (a % 2 ^ N) k
  unfolding rotated_left
  rotated_is =
      ap₂ (λ (x y : ℕ). x + y) (moved_left N a k w)
      (shr-shr (a % 2 ^ N) 1 (N - 1 - k) ∙ ap (λ (x : ℕ). a % 2 ^ N / 2 ^ x) (let e : 1 + (N - 1 - k) ≡ N - k = omega arith in e))

  -- .. so their sum is a u64
  pub rotated_fits : (a * 2 ^ k) % 2 ^ 64 % 2 ^ N + a % 2 ^ N / 2 ^ 1 / 2 ^ (N - 1 - k) < 2 ^ 64
  rotated_fits = omega (arith, rotated_is, rotated_lt N (a % 2 ^ N) k (mod-lt a (pow_pos N)) (omega arith), pow_fits N w)

-- to the right by k is to the left by N - k
pub rotated_other : (N i k : ℕ) → k ≤ N → rotated_left N i (N - k) ≡ rotated_right N i k
unfolding rotated_left rotated_right
rotated_other N i k l = rw (let e : N - (N - k) ≡ k = omega arith in e) (omega arith)

-- a rotate by 0 places
pub rotated_none : (N i : ℕ) → i ≡ rotated_right N i 0
unfolding rotated_right
rotated_none N i = sym (ap₂ (λ (x y : ℕ). x + y) (div-one i) (ap (λ (x : ℕ). i * 2 ^ x % 2 ^ N) (let e : N - 0 ≡ N = omega arith in e) ∙ mul-mod_left i (2 ^ N)) ∙ (let e : i + 0 ≡ i = omega arith in e))
