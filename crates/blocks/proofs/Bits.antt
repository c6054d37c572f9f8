-- Bits of words: of `^`, `&`, shifts and remainders.
use Prim.Native.Nat.{ℕ, zero, suc, ◌+◌, ◌-◌, ◌*◌, ◌/◌, ◌%◌, ◌^◌, ◌<◌, min}
use mathlib.Core.Path.{◌≡◌, refl, sym, ap, ◌∙◌}
use native.Mathlib.Omega.{arith}
use native.Mathlib.Nat.{mul_assoc}
use lib.Bits.{bit_and, bit_xor, differ, and_step, xor_step, shifted_even}
use lib.Pow.{shr-shr, shl-shr, pow-add, field, mod-mod-pow}
use Rattle.blocks.specs.Blocks.{bit}
use Rattle.blocks.proofs.Packed.{bit_zero, bit_suc}

-- a bit of what is put together bit by bit
stepped : (f : ℕ → ℕ → ℕ) (g : ℕ → ℕ → ℕ) → ((a b : ℕ) → a < 2 → b < 2 → f a b < 2) → ((a b : ℕ) → g a b ≡ g (a / 2) (b / 2) * 2 + f (a % 2) (b % 2))
    → (a b i : ℕ) → bit (g a b) i ≡ f (bit a i) (bit b i)
stepped f g two step a b zero =
    let e : g a b % 2 ≡ f (a % 2) (b % 2) = omega (arith, step a b, two (a % 2) (b % 2) (omega arith) (omega arith)) in
    bit_zero (g a b) ∙ e ∙ rw (bit_zero a, bit_zero b)
stepped f g two step a b (suc i) =
    let e : g a b / 2 ≡ g (a / 2) (b / 2) = omega (arith, step a b, two (a % 2) (b % 2) (omega arith) (omega arith)) in
    bit_suc (g a b) i ∙ ap (λ (x : ℕ). bit x i) e ∙ stepped f g two step (a / 2) (b / 2) i ∙ rw (bit_suc a i, bit_suc b i)

pub differ_two : (a b : ℕ) → a < 2 → b < 2 → differ a b < 2
differ_two zero b h g = g
differ_two (suc a) zero h g = h
differ_two (suc a) (suc b) h g = differ_two a b (omega arith) (omega arith)

pub bit_of_xor : (a b i : ℕ) → bit (bit_xor a b) i ≡ differ (bit a i) (bit b i)
bit_of_xor a b i = stepped differ bit_xor differ_two xor_step a b i

pub bit_of_and : (a b i : ℕ) → bit (bit_and a b) i ≡ min (bit a i) (bit b i)
bit_of_and a b i = stepped min bit_and (λ x y h g. omega arith) and_step a b i

pub bit_shr : (a k i : ℕ) → bit (a / 2 ^ k) i ≡ bit a (k + i)
unfolding bit
bit_shr a k i = ap (λ (x : ℕ). x % 2) (shr-shr a k i)

pub bit_shl_high : (a k i : ℕ) → bit (a * 2 ^ k) (k + i) ≡ bit a i
bit_shl_high a k i = sym (bit_shr (a * 2 ^ k) k i) ∙ ap (λ (x : ℕ). bit x i) (shl-shr a k)

pub bit_shl_low : (a k i : ℕ) → i < k → bit (a * 2 ^ k) i ≡ 0
unfolding bit
bit_shl_low a k i h =
    let j = k - suc i in
    let e : k ≡ suc j + i = omega arith in
    rw (e, pow-add 2 (suc j) i, ← mul_assoc, shl-shr (a * 2 ^ suc j) i) (shifted_even a j)

pub bit_mod : (x n i : ℕ) → i < n → bit (x % 2 ^ n) i ≡ bit x i
unfolding bit
bit_mod x n i h =
    let j = n - suc i in
    let e : n ≡ j + 1 + i = omega arith in
    rw (e, field x (j + 1) i) (mod-mod-pow (x / 2 ^ i) j 1)

-- a bit that changes places, with what they differ in
pub taken_other : (a b : ℕ) → a < 2 → b < 2 → differ (differ a (differ a b)) 0 ≡ b
taken_other zero zero h g = refl
taken_other zero (suc b) h g = refl
taken_other (suc zero) zero h g = refl
taken_other (suc zero) (suc zero) h g = refl
taken_other (suc zero) (suc (suc b)) h g = absurd (omega arith)
taken_other (suc (suc a)) b h g = absurd (omega arith)

pub taken_back : (a b : ℕ) → a < 2 → b < 2 → differ (differ a 0) (differ b a) ≡ b
taken_back zero zero h g = refl
taken_back zero (suc b) h g = refl
taken_back (suc zero) zero h g = refl
taken_back (suc zero) (suc zero) h g = refl
taken_back (suc zero) (suc (suc b)) h g = absurd (omega arith)
taken_back (suc (suc a)) b h g = absurd (omega arith)

pub taken_none : (a : ℕ) → differ (differ a 0) 0 ≡ a
taken_none zero = refl
taken_none (suc a) = refl
