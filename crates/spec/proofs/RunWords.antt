-- Lists of bytes and the numbers that they stand for: each operation byte by byte gives the bytes of the operation's number.
use Prim.Native.Nat.{ℕ, zero, suc, ◌+◌, ◌-◌, ◌*◌, ◌/◌, ◌%◌, ◌^◌, ◌≤◌, ◌<◌, zero-le}
use mathlib.Core.Bool.{Bool, true, false}
use mathlib.Core.List.{List, [], ◌∷◌}
use mathlib.Core.Path.{◌≡◌, refl, sym, ap, ap₂, ◌∙◌}
use native.Mathlib.Omega.{arith}
use native.Mathlib.Nat.{pow-suc, pow-le-pow_right, mod-eq_of_lt, mod-lt}
use lib.Arith.{mod-mul}
use lib.Pow.{pow_pos, pow-add, mod-mod-pow, field, pow_mono}
use lib.Bits.{bit_and, and_mod, or_mod, xor_mod, and_shr, or_shr, xor_shr, and_mask}
use lib.Dec.{ltb}
use borrow.Author.Tests.{ltb-true, ltb-false}
use lib.ListN.{length}
use Rattle.spec.specs.Lir.{ByteBinaryOp}
use Rattle.spec.specs.Lir as lir
use Rattle.numerics.specs.Numerics.{truth}
use Rattle.spec.specs.Machine.{le, bytes_of, byte_op}

pub pow_256 : (k : ℕ) → 256 ^ k ≡ 2 ^ (8 * k)
pow_256 zero = refl
pow_256 (suc k) = pow-suc 256 k ∙ ap (λ (x : ℕ). x * 256) (pow_256 k) ∙ sym (pow-add 2 (8 * k) 8) ∙ ap (λ (x : ℕ). 2 ^ x) (omega arith)

pow_256_pos : (k : ℕ) → 0 < 256 ^ k
pow_256_pos k = pow-le-pow_right {n = 256} (omega arith) zero-le

pub length_bytes_of : (k n : ℕ) → length (bytes_of k n) ≡ k
unfolding bytes_of
length_bytes_of zero n = refl
length_bytes_of (suc k) n = ap suc (length_bytes_of k (n / 256))

pub le_bytes_of : (k n : ℕ) → le (bytes_of k n) ≡ n % 256 ^ k
unfolding le bytes_of
le_bytes_of zero n = omega arith
le_bytes_of (suc k) n = rw (le_bytes_of k (n / 256), pow-suc 256 k, mod-mul n {c = 256} (pow_256_pos k) (omega arith)) (omega arith)

pub le_exact : (k n : ℕ) → n < 256 ^ k → le (bytes_of k n) ≡ n
le_exact k n h = le_bytes_of k n ∙ mod-eq_of_lt h

-- ---------------------------------------------------------------- a carry rippling through bytes

unfoldable pub ripple : (ℕ → ℕ → ℕ → ℕ) → (ℕ → ℕ → ℕ → ℕ) → ℕ → List ℕ → List ℕ → List ℕ
ripple f g c [] ys = []
ripple f g c (x ∷ xs) [] = []
ripple f g c (x ∷ xs) (y ∷ ys) = f c x y ∷ ripple f g (g c x y) xs ys

-- R k c a b t: the k bytes of t come of those of a and b, with c coming in
pub record Ripples (f g : ℕ → ℕ → ℕ → ℕ) (R : ℕ → ℕ → ℕ → ℕ → ℕ → Type 0) : Type 0 where
  pub low : (k c a b t : ℕ) → R (suc k) c a b t → t % 256 ≡ f c (a % 256) (b % 256)
  pub high : (k c a b t : ℕ) → R (suc k) c a b t → R k (g c (a % 256) (b % 256)) (a / 256) (b / 256) (t / 256)

pub ripple_bytes : {f g : ℕ → ℕ → ℕ → ℕ} {R : ℕ → ℕ → ℕ → ℕ → ℕ → Type 0} → Ripples f g R
    → (k c a b t : ℕ) → R k c a b t → ripple f g c (bytes_of k a) (bytes_of k b) ≡ bytes_of k t
unfolding ripple bytes_of
ripple_bytes P zero c a b t r = refl
ripple_bytes P (suc k) c a b t r =
    ap₂ (λ (x : ℕ) (l : List ℕ). x ∷ l) (sym (P.low k c a b t r)) (ripple_bytes P k _ (a / 256) (b / 256) (t / 256) (P.high k c a b t r))

abbrev pub same : ℕ → ℕ → ℕ → ℕ
same c x y = c

-- add
abbrev pub add_low : ℕ → ℕ → ℕ → ℕ
add_low c x y = (x + y + c) % 256

abbrev pub add_out : ℕ → ℕ → ℕ → ℕ
add_out c x y = (x + y + c) / 256

abbrev pub Adding : ℕ → ℕ → ℕ → ℕ → ℕ → Type 0
Adding k c a b t = t ≡ a + b + c

pub adding : Ripples add_low add_out Adding
adding = record { low = λ k c a b t e. rw e (omega arith); high = λ k c a b t e. rw e (omega arith) }

-- subtract
abbrev pub sub_low : ℕ → ℕ → ℕ → ℕ
sub_low c x y = (x + 256 - (y + c)) % 256

-- the borrow of x - y
abbrev pub borrowed : ℕ → ℕ → ℕ
borrowed x y = truth (ltb x y)

abbrev pub sub_out : ℕ → ℕ → ℕ → ℕ
sub_out c x y = borrowed x (y + c)

pub borrow_cases : (P : ℕ → Type 0) (x y : ℕ) → (x < y → P 1) → (y ≤ x → P 0) → P (borrowed x y)
borrow_cases P x y f g = go (ltb x y) refl
  where
    go : (t : Bool) → ltb x y ≡ t → P (truth t)
    go true e = f (ltb-true x y e)
    go false e = g (ltb-false x y e)

pub record Subtracting (k c a b t : ℕ) : Type 0 where
  pub small : c ≤ 1
  pub times : ℕ
  pub sum : t + b + c ≡ a + 256 ^ k * times

more : (k q : ℕ) → 256 ^ suc k * q ≡ 256 * (256 ^ k * q)
more k q = rw (pow-suc 256 k) (omega arith)

pub subtracting : Ripples sub_low sub_out Subtracting
subtracting = record {
  low = λ k c a b t r. (
      let e : t + b + c ≡ a + 256 * (256 ^ k * r.times) = r.sum ∙ ap (λ (x : ℕ). a + x) (more k r.times) in
      let s : c ≤ 1 = r.small in
      omega arith);
  high = λ k c a b t r. (
      let e : t + b + c ≡ a + 256 * (256 ^ k * r.times) = r.sum ∙ ap (λ (x : ℕ). a + x) (more k r.times) in
      let s : c ≤ 1 = r.small in
      borrow_cases (λ (z : ℕ). Subtracting k z (a / 256) (b / 256) (t / 256)) (a % 256) (b % 256 + c)
      (λ h. record { small = omega arith; times = r.times; sum = omega arith })
      (λ h. record { small = omega arith; times = r.times; sum = omega arith }));
}

-- and, or, xor
abbrev pub bitwise_low : ByteBinaryOp → ℕ → ℕ → ℕ → ℕ
bitwise_low op c x y = byte_op op x y

abbrev pub Bitwise : ByteBinaryOp → ℕ → ℕ → ℕ → ℕ → ℕ → Type 0
Bitwise op k c a b t = t ≡ byte_op op a b

pub byte_op_mod : (op : ByteBinaryOp) (a b k : ℕ) → byte_op op a b % 2 ^ k ≡ byte_op op (a % 2 ^ k) (b % 2 ^ k)
byte_op_mod lir.and a b k = and_mod a b k
byte_op_mod lir.or a b k = or_mod a b k
byte_op_mod lir.xor a b k = xor_mod a b k

byte_op_shr : (op : ByteBinaryOp) (a b k : ℕ) → byte_op op a b / 2 ^ k ≡ byte_op op (a / 2 ^ k) (b / 2 ^ k)
byte_op_shr lir.and a b k = and_shr a b k
byte_op_shr lir.or a b k = or_shr a b k
byte_op_shr lir.xor a b k = xor_shr a b k

pub bitwise : (op : ByteBinaryOp) → Ripples (bitwise_low op) same (Bitwise op)
bitwise op = record { low = λ k c a b t e. ap (λ (x : ℕ). x % 256) e ∙ byte_op_mod op a b 8; high = λ k c a b t e. ap (λ (x : ℕ). x / 256) e ∙ byte_op_shr op a b 8 }

-- not
abbrev pub not_low : ℕ → ℕ → ℕ → ℕ
not_low c x y = 255 - x

pub record Inverting (k c a b t : ℕ) : Type 0 where
  pub times : ℕ
  pub sum : t + a + 1 ≡ 256 ^ k * times

pub inverting : Ripples not_low same Inverting
inverting = record {
  low = λ k c a b t r. (let e : t + a + 1 ≡ 256 * (256 ^ k * r.times) = r.sum ∙ more k r.times in omega arith);
  high = λ k c a b t r. (let e : t + a + 1 ≡ 256 * (256 ^ k * r.times) = r.sum ∙ more k r.times in record { times = r.times; sum = omega arith });
}

-- copy
abbrev pub copy_low : ℕ → ℕ → ℕ → ℕ
copy_low c x y = x

abbrev pub Copying : ℕ → ℕ → ℕ → ℕ → ℕ → Type 0
Copying k c a b t = t ≡ a

pub copying : Ripples copy_low same Copying
copying = record { low = λ k c a b t e. ap (λ (x : ℕ). x % 256) e; high = λ k c a b t e. ap (λ (x : ℕ). x / 256) e }

-- ---------------------------------------------------------------- the mask

-- the last byte of a list keeps its r lowest bits (r from 1 to 7); r = 0 keeps all
unfoldable pub mask_last : ℕ → List ℕ → List ℕ
mask_last zero xs = xs
mask_last (suc r) [] = []
mask_last (suc r) (x ∷ []) = bit_and x (2 ^ suc r - 1) ∷ []
mask_last (suc r) (x ∷ y ∷ ys) = x ∷ mask_last (suc r) (y ∷ ys)

low_of : (n j : ℕ) → n % 2 ^ (8 + j) % 256 ≡ n % 256
low_of n j = ap (λ (x : ℕ). n % 2 ^ x % 256) (omega arith) ∙ mod-mod-pow n j 8

high_of : (n j : ℕ) → n % 2 ^ (8 + j) / 256 ≡ n / 256 % 2 ^ j
high_of n j = ap (λ (x : ℕ). n % 2 ^ x / 256) (omega arith) ∙ field n j 8

-- the k + 1 bytes of n, masked: those of n modulo 2 ^ (8 k + r)
pub mask_bytes : (r k n : ℕ) → suc r < 8 → mask_last (suc r) (bytes_of (suc k) n) ≡ bytes_of (suc k) (n % 2 ^ (8 * k + suc r))
unfolding mask_last bytes_of
mask_bytes r zero n h = ap (λ (x : ℕ). x ∷ []) (and_mask (n % 256) (suc r) ∙ last)
  where
    small : n % 2 ^ suc r < 256
    small = omega (arith, mod-lt n (pow_pos (suc r)), pow_mono {i = suc r} {j = 8} (omega arith))

    last : n % 256 % 2 ^ suc r ≡ n % 2 ^ (0 + suc r) % 256
    last =
        ap (λ (x : ℕ). n % 2 ^ x % 2 ^ suc r) (let e : 8 ≡ (7 - r) + suc r = omega arith in e) ∙ mod-mod-pow n (7 - r) (suc r)
        ∙ sym (mod-eq_of_lt small) ∙ ap (λ (x : ℕ). n % 2 ^ x % 256) (omega arith)
mask_bytes r (suc k) n h =
    ap₂ (λ (x : ℕ) (l : List ℕ). x ∷ l) (sym (low_of n (8 * k + suc r)) ∙ ap (λ (x : ℕ). n % 2 ^ x % 256) (omega arith))
    (mask_bytes r k (n / 256) h ∙ ap (bytes_of (suc k)) (sym (high_of n (8 * k + suc r)) ∙ ap (λ (x : ℕ). n % 2 ^ x / 256) (omega arith)))

abbrev pub size : ℕ → ℕ
size w = (w + 7) / 8

pub bytes_of_mod : (k n : ℕ) → bytes_of k (n % 256 ^ k) ≡ bytes_of k n
unfolding bytes_of
bytes_of_mod zero n = refl
bytes_of_mod (suc k) n = ap₂ (λ (x : ℕ) (l : List ℕ). x ∷ l) low (ap (bytes_of k) high ∙ bytes_of_mod k (n / 256))
  where
    e : n % 256 ^ suc k ≡ (n / 256 % 256 ^ k) * 256 + n % 256
    e = ap (λ (x : ℕ). n % x) (pow-suc 256 k) ∙ mod-mul n {c = 256} (pow_256_pos k) (omega arith)

    low : n % 256 ^ suc k % 256 ≡ n % 256
    low = rw e (omega arith)

    high : n % 256 ^ suc k / 256 ≡ n / 256 % 256 ^ k
    high = rw e (omega arith)

-- the mask of a width: what stands in the bytes of a type is brought below 2 ^ w
pub masked : (w n : ℕ) → mask_last (w % 8) (bytes_of (size w) n) ≡ bytes_of (size w) (n % 2 ^ w)
unfolding mask_last
masked w n = go (w % 8) refl
  where
    go : (r : ℕ) → w % 8 ≡ r → mask_last r (bytes_of (size w) n) ≡ bytes_of (size w) (n % 2 ^ w)
    go zero e = sym (bytes_of_mod (size w) n) ∙ ap (λ (x : ℕ). bytes_of (size w) (n % x)) (pow_256 (size w) ∙ ap (λ (x : ℕ). 2 ^ x) (omega arith))
    go (suc r) e =
        let k : size w ≡ suc (w / 8) = omega arith in
        let v : 8 * (w / 8) + suc r ≡ w = omega arith in
        ap (λ (x : ℕ). mask_last (suc r) (bytes_of x n)) k ∙ mask_bytes r (w / 8) n (omega arith) ∙ ap₂ (λ (x y : ℕ). bytes_of x (n % 2 ^ y)) (sym k) v

abbrev pub iterate : ℕ → (ℕ → ℕ) → ℕ → ℕ
iterate zero f x = x
iterate (suc n) f x = iterate n f (f x)

unfoldable pub resize_list : ℕ → List ℕ → List ℕ
resize_list zero xs = []
resize_list (suc k) [] = 0 ∷ resize_list k []
resize_list (suc k) (x ∷ xs) = x ∷ resize_list k xs

-- operands by number: the bytes of a, more or fewer of them
pub resized : (k j a : ℕ) (xs : List ℕ) → xs ≡ bytes_of j a → a < 256 ^ j → resize_list k xs ≡ bytes_of k a
unfolding bytes_of resize_list
resized zero j a xs e h = refl
resized (suc k) zero a [] e h = ap₂ (λ (x : ℕ) (l : List ℕ). x ∷ l) (omega arith) (resized k zero (a / 256) [] refl (omega arith))
resized (suc k) zero a (x ∷ xs) e h = cc
resized (suc k) (suc j) a [] e h = cc
resized (suc k) (suc j) a (x ∷ xs) e h =
    let e₁ : x ≡ a % 256 = cc in
    let e₂ : xs ≡ bytes_of j (a / 256) = cc in
    ap₂ (λ (x : ℕ) (l : List ℕ). x ∷ l) e₁ (resized k j (a / 256) xs e₂ (omega (arith, pow-suc 256 j)))
