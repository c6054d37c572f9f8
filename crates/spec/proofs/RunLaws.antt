-- Whole words: rippled and masked bytes are the bytes of the WebAssembly number, at every width.
use Prim.Native.Nat.{ℕ, zero, suc, ◌+◌, ◌-◌, ◌*◌, ◌/◌, ◌%◌, ◌^◌, ◌≤◌, ◌<◌}
use mathlib.Core.Path.{◌≡◌, refl, sym, ap, ap₂, ◌∙◌}
use native.Mathlib.Omega.{arith}
use native.Mathlib.Nat.{mod-eq_of_lt, mod-lt, add-mul-mod_self_left}
use lib.Arith.{mod-mul}
use lib.Pow.{suc_ones, mod-mod-pow, pow_pos, pow-add, pow_mono}
use lib.IntN.{ℤ, pos, negsuc}
use Rattle.spec.specs.Lir.{ByteBinaryOp}
use Rattle.numerics.specs.Numerics.{signed, unsigned, iadd, isub, ineg, inot, extend_s}
use Rattle.spec.specs.Machine.{bytes_of, byte_op}
use Rattle.spec.proofs.RunWords.{pow_256, size, ripple, ripple_bytes, masked, mask_last, adding, subtracting, Subtracting, bitwise, inverting, add_low, add_out, sub_low, sub_out, bitwise_low, not_low, same, Ripples, byte_op_mod}

-- the bytes of a type hold its numbers: 256 ^ size w is 2 ^ w times a power
pub room : (w : ℕ) → 256 ^ size w ≡ 2 ^ w * suc (2 ^ (8 * size w - w) - 1)
room w =
    pow_256 (size w) ∙ ap (λ (x : ℕ). 2 ^ x) (let e : 8 * size w ≡ w + (8 * size w - w) = omega arith in e) ∙ pow-add 2 w (8 * size w - w)
    ∙ ap (λ (x : ℕ). 2 ^ w * x) (sym (suc_ones (8 * size w - w)))

pub room_le : (w : ℕ) → 2 ^ w ≤ 256 ^ size w
room_le w = rw (pow_256 (size w)) (pow_mono (omega arith))

pub masked_fits : (w n : ℕ) → n < 2 ^ w → mask_last (w % 8) (bytes_of (size w) n) ≡ bytes_of (size w) n
masked_fits w n h = masked w n ∙ ap (bytes_of (size w)) (mod-eq_of_lt h)

pub add_word : (w a b : ℕ) → mask_last (w % 8) (ripple add_low add_out 0 (bytes_of (size w) a) (bytes_of (size w) b)) ≡ bytes_of (size w) (iadd w a b)
unfolding iadd
add_word w a b = ap (mask_last (w % 8)) (ripple_bytes adding (size w) 0 a b (a + b) (omega arith)) ∙ masked w (a + b)

-- a number that a multiple of 2 ^ w, in front, leaves the same modulo 2 ^ w
around : (w x y q : ℕ) → x ≡ y + 2 ^ w * q → x % 2 ^ w ≡ y % 2 ^ w
around w x y q e = ap (λ (z : ℕ). z % 2 ^ w) e ∙ add-mul-mod_self_left y (2 ^ w) q

pub sub_word : (w a b : ℕ) → b < 2 ^ w → mask_last (w % 8) (ripple sub_low sub_out 0 (bytes_of (size w) a) (bytes_of (size w) b)) ≡ bytes_of (size w) (isub w a b)
unfolding isub
sub_word w a b h =
    ap (mask_last (w % 8)) (ripple_bytes subtracting (size w) 0 a b (a + 256 ^ size w - b) (record { small = omega arith; times = 1; sum = omega (arith, room_le w) }))
    ∙ masked w (a + 256 ^ size w - b)
    ∙ ap (bytes_of (size w)) (around w (a + 256 ^ size w - b) (a + 2 ^ w - b) (2 ^ (8 * size w - w) - 1) (wide (2 ^ (8 * size w - w) - 1) (room w)))
  where
    wide : (q : ℕ) → 256 ^ size w ≡ 2 ^ w * suc q → a + 256 ^ size w - b ≡ a + 2 ^ w - b + 2 ^ w * q
    wide q e = omega arith

-- the same with the left side 0
pub negating : Ripples (λ c x y. sub_low c 0 x) (λ c x y. sub_out c 0 x) (λ k c a b t. Subtracting k c 0 a t)
negating = record { low = λ k c a b t r. subtracting.low k c 0 a t r; high = λ k c a b t r. subtracting.high k c 0 a t r }

pub neg_word : (w a : ℕ) → a < 2 ^ w
    → mask_last (w % 8) (ripple (λ c x y. sub_low c 0 x) (λ c x y. sub_out c 0 x) 0 (bytes_of (size w) a) (bytes_of (size w) a)) ≡ bytes_of (size w) (ineg w a)
unfolding ineg isub
neg_word w a h =
    ap (mask_last (w % 8)) (ripple_bytes negating (size w) 0 a a (256 ^ size w - a) (record { small = omega arith; times = 1; sum = omega (arith, room_le w) })
    ∙ sym (ripple_bytes subtracting (size w) 0 0 a (256 ^ size w - a) (record { small = omega arith; times = 1; sum = omega (arith, room_le w) })))
    ∙ sub_word w 0 a h ∙ ap (bytes_of (size w)) (ap (λ (x : ℕ). x % 2 ^ w) (omega arith))

pub bitwise_word : (op : ByteBinaryOp) (w a b : ℕ) → a < 2 ^ w → b < 2 ^ w
    → mask_last (w % 8) (ripple (bitwise_low op) same 0 (bytes_of (size w) a) (bytes_of (size w) b)) ≡ bytes_of (size w) (byte_op op a b)
bitwise_word op w a b ha hb =
    ap (mask_last (w % 8)) (ripple_bytes (bitwise op) (size w) 0 a b (byte_op op a b) refl) ∙ masked w (byte_op op a b)
    ∙ ap (bytes_of (size w)) (byte_op_mod op a b w ∙ ap₂ (byte_op op) (mod-eq_of_lt ha) (mod-eq_of_lt hb))

pub not_word : (w a b : ℕ) → a < 2 ^ w → mask_last (w % 8) (ripple not_low same 0 (bytes_of (size w) a) (bytes_of (size w) b)) ≡ bytes_of (size w) (inot w a)
unfolding inot
not_word w a b h =
    ap (mask_last (w % 8)) (ripple_bytes inverting (size w) 0 a b (256 ^ size w - 1 - a) (record { times = 1; sum = omega (arith, room_le w) }))
    ∙ masked w (256 ^ size w - 1 - a)
    ∙ ap (bytes_of (size w)) (around w (256 ^ size w - 1 - a) (2 ^ w - 1 - a) (2 ^ (8 * size w - w) - 1) (wide (2 ^ (8 * size w - w) - 1) (room w))
    ∙ mod-eq_of_lt (omega (arith, pow_pos w)))
  where
    wide : (q : ℕ) → 256 ^ size w ≡ 2 ^ w * suc q → 256 ^ size w - 1 - a ≡ 2 ^ w - 1 - a + 2 ^ w * q
    wide q e = omega arith

-- ---------------------------------------------------------------- extension by the sign

-- fewer digits of the same whole number
pub unsigned_wrap : (w j : ℕ) (z : ℤ) → unsigned (j + w) z % 2 ^ w ≡ unsigned w z
unfolding unsigned
unsigned_wrap w j (pos n) = mod-mod-pow n j w
unsigned_wrap w j (negsuc n) = rw (pow-add 2 j w) (go (2 ^ j) (2 ^ w) (pow_pos j) (pow_pos w) n)
  where
    -- n modulo q * p, below it
    go : (q p : ℕ) → 0 < q → 0 < p → (n : ℕ) → (q * p - 1 - n % (q * p)) % p ≡ p - 1 - n % p
    go zero p hq hp n = absurd (omega arith)
    go (suc q) p hq hp n =
        let r = mod-mul n {m = suc q} {c = p} hq hp in
        let d : n / p % suc q < suc q = mod-lt (n / p) hq in
        let l : n % p < p = mod-lt n hp in
        rw r (top (n / p % suc q) (n % p) (omega arith) l)
      where
        top : (x y : ℕ) → x ≤ q → y < p → (suc q * p - 1 - (x * p + y)) % p ≡ p - 1 - y
        top x y hx hy =
            ap (λ (z : ℕ). z % p) (let e : suc q * p - 1 - (x * p + y) ≡ p - 1 - y + p * (q - x) = spare (q - x) (omega arith) in e) ∙ add-mul-mod_self_left (p - 1 - y) p (q - x)
            ∙ mod-eq_of_lt (omega arith)
          where
            spare : (k : ℕ) → q ≡ x + k → suc q * p - 1 - (x * p + y) ≡ p - 1 - y + p * k
            spare k e = rw e (omega arith)

pub extend_wrap : (v w j a : ℕ) → extend_s v (j + w) a % 2 ^ w ≡ extend_s v w a
unfolding extend_s
extend_wrap v w j a = unsigned_wrap w j (signed v a)
