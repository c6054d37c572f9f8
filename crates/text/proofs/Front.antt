-- A text put in front of a slice that has room for it, and how long a number is.
use Prim.Native.Nat.{ℕ, zero, suc, ◌+◌, ◌/◌, ◌%◌, ◌^◌, ◌≤◌, ◌<◌}
use mathlib.Core.Path.{◌≡◌, ap, ◌∙◌}
use mathlib.Core.List.{List, ◌∷◌, ◌++◌, []}
use native.Mathlib.Omega.{arith}
use native.Mathlib.Nat.{pow-suc}
use lib.ListN.{length, drop, length-append}
use lib.Seq.{sets-eq}
use Rattle.spec.specs.Text.{digits}
use Rattle.spec.proofs.Digits.{by_digits, digits_one, digits_more}
use Rattle.text.specs.Put.{Put, sat_below}

-- a number below 10 ^ k has k digits at most
pub digits_length : (n k : ℕ) → n < 10 ^ suc k → length (digits n) ≤ suc k
digits_length = by_digits (λ (n : ℕ). (k : ℕ) → n < 10 ^ suc k → length (digits n) ≤ suc k)
    (λ n h k g. rw (digits_one n h) (omega arith))
    more
  where
    more : (n : ℕ) → 10 ≤ n → ((k : ℕ) → n / 10 < 10 ^ suc k → length (digits (n / 10)) ≤ suc k) → (k : ℕ) → n < 10 ^ suc k → length (digits n) ≤ suc k
    more n h ih zero g = absurd (omega arith)
    more n h ih (suc k) g =
        let l = length-append (digits (n / 10)) ((48 + n % 10) ∷ []) in
        let d = ih k (omega (arith, pow-suc 10 (suc k))) in
        rw (digits_more n h) (omega arith)

-- the position behind it is its length, and the rest of the slice is as before
pub in_front : {l vs l' : List ℕ} {r : ℕ} → Put l 0 vs l' r → length vs ≤ length l → (r ≡ length vs) × (l' ≡ vs ++ drop (length vs) l)
in_front {l} {vs} p h =
    let z : 0 + length vs ≡ length vs = omega arith in
    (p.next ∙ sat_below (0 + length vs) (omega (arith, p.fits)) ∙ z, p.text ∙ sets-eq vs l 0 (omega arith) ∙ ap (λ (k : ℕ). vs ++ drop k l) z)
