-- Euclid's algorithm gives the greatest common divisor, and `lowest` the one fraction of its value in lowest terms.
use Prim.Native.Nat.{ℕ, zero, suc, ◌*◌, ◌/◌, ◌%◌, ◌<◌, ◌∣◌}
use mathlib.Core.Path.{◌≡◌, refl, sym, subst, ◌∙◌}
use mathlib.Core.Bool.{Bool, true, false}
use native.Mathlib.Omega.{arith}
use native.Mathlib.Nat.{mul-one, mod-lt, mul-div_cancel', dvd_refl, dvd-zero, dvd-mod_iff, mul-dvd-mul_left, dvd_of_mul-dvd-mul_left, pos_of_dvd_of_pos, eq-one_of_dvd-one}
use lib.Dec.{eqb}
use borrow.Author.Tests.{eqb-true, eqb-false, eq-eqb, ne_eqb}
use Rattle.figures.specs.Fraction.{Fraction, gcd_in, gcd, lowest}

-- ---------------------------------------------------------------- one step

gcd_stop : (k a b : ℕ) → eqb b 0 ≡ true → gcd_in (suc k) a b ≡ a
unfolding gcd_in
gcd_stop k a b e = rw (gcd_in, e)

gcd_go : (k a b : ℕ) → eqb b 0 ≡ false → gcd_in (suc k) a b ≡ gcd_in k b (a % b)
unfolding gcd_in
gcd_go k a b e = rw (gcd_in, e)

-- the second number falls
falls : (a b k : ℕ) → eqb b 0 ≡ false → b < suc k → a % b < k
falls a b k e h = let n = eqb-false b 0 e in let p : 0 < b = omega arith in omega (arith, mod-lt a p)

-- fuel past the second number changes nothing
fuel : (j k a b : ℕ) → b < j → b < k → gcd_in j a b ≡ gcd_in k a b
fuel zero k a b h g = absurd (omega arith)
fuel (suc j) zero a b h g = absurd (omega arith)
fuel (suc j) (suc k) a b h g = by (eqb b 0) refl (fuel j k b (a % b))
  where
    by : (t : Bool) → eqb b 0 ≡ t → (a % b < j → a % b < k → gcd_in j b (a % b) ≡ gcd_in k b (a % b)) → gcd_in (suc j) a b ≡ gcd_in (suc k) a b
    by true e ih = gcd_stop j a b e ∙ sym (gcd_stop k a b e)
    by false e ih = gcd_go j a b e ∙ ih (falls a b j e h) (falls a b k e g) ∙ sym (gcd_go k a b e)

pub gcd_end : (a b : ℕ) → b ≡ 0 → gcd a b ≡ a
unfolding gcd
gcd_end a b e = gcd_stop b a b (eq-eqb b 0 e)

pub gcd_next : (a b : ℕ) → (b ≡ 0 → ⊥) → gcd a b ≡ gcd b (a % b)
unfolding gcd
gcd_next a b n =
    let e = ne_eqb b 0 n in
    gcd_go b a b e ∙ fuel b (suc (a % b)) b (a % b) (falls a b b e (omega arith)) (omega arith)

-- ---------------------------------------------------------------- the greatest common divisor

divides_in : (k a b : ℕ) → b < k → (gcd_in k a b ∣ a) × (gcd_in k a b ∣ b)
divides_in zero a b h = absurd (omega arith)
divides_in (suc k) a b h = by (eqb b 0) refl (divides_in k b (a % b))
  where
    by : (t : Bool) → eqb b 0 ≡ t → (a % b < k → (gcd_in k b (a % b) ∣ b) × (gcd_in k b (a % b) ∣ a % b)) → (gcd_in (suc k) a b ∣ a) × (gcd_in (suc k) a b ∣ b)
    by true e ih = rw (gcd_stop k a b e) (dvd_refl a, rw (eqb-true b 0 e) (dvd-zero a))
    by false e ih = let d = ih (falls a b k e h) in rw (gcd_go k a b e) ((dvd-mod_iff _ d.0).0 d.1, d.0)

greatest_in : (k a b d : ℕ) → b < k → d ∣ a → d ∣ b → d ∣ gcd_in k a b
greatest_in zero a b d h p q = absurd (omega arith)
greatest_in (suc k) a b d h p q = by (eqb b 0) refl (greatest_in k b (a % b) d)
  where
    by : (t : Bool) → eqb b 0 ≡ t → (a % b < k → d ∣ b → d ∣ a % b → d ∣ gcd_in k b (a % b)) → d ∣ gcd_in (suc k) a b
    by true e ih = rw (gcd_stop k a b e) p
    by false e ih = rw (gcd_go k a b e) (ih (falls a b k e h) q ((dvd-mod_iff d q).1 p))

module _ (a b : ℕ) where
  pub gcd_divides : (gcd a b ∣ a) × (gcd a b ∣ b)
  unfolding gcd
  gcd_divides = divides_in (suc b) a b (omega arith)

  pub gcd_greatest : (d : ℕ) → d ∣ a → d ∣ b → d ∣ gcd a b
  unfolding gcd
  gcd_greatest d p q = greatest_in (suc b) a b d (omega arith) p q

  pub gcd_positive : 0 < b → 0 < gcd a b
  gcd_positive h = pos_of_dvd_of_pos gcd_divides.1 h

-- ---------------------------------------------------------------- lowest terms

-- the fraction is a / b, and its parts have no common divisor but 1
pub record LowestTerms (a b : ℕ) (f : Fraction) : Type 0 where
  pub value : f.numerator * b ≡ a * f.denominator
  pub positive : 0 < f.denominator
  pub coprime : (d : ℕ) → d ∣ f.numerator → d ∣ f.denominator → d ≡ 1

cross : (g x y a b : ℕ) → g * x ≡ a → g * y ≡ b → x * b ≡ a * y
cross g x y a b p q = rw (← p, ← q) (omega arith)

no_zero : (g y b : ℕ) → g * y ≡ b → 0 < b → 0 < y
no_zero g zero b e h = absurd (omega arith)
no_zero g (suc y) b e h = omega arith

pub lowest_terms : (a b : ℕ) → 0 < b → LowestTerms a b (lowest a b)
unfolding lowest
lowest_terms a b h =
    let g = gcd a b in
    let p : g * (a / g) ≡ a = mul-div_cancel' g (gcd_divides a b).0 in
    let q : g * (b / g) ≡ b = mul-div_cancel' g (gcd_divides a b).1 in
    record {
      value = cross g (a / g) (b / g) a b p q;
      positive = no_zero g (b / g) b q h;
      coprime =
          λ d m n.
          let x : g * d ∣ a = subst (λ (z : ℕ). g * d ∣ z) p (mul-dvd-mul_left d g m) in
          let y : g * d ∣ b = subst (λ (z : ℕ). g * d ∣ z) q (mul-dvd-mul_left d g n) in
          let z : g * d ∣ g * 1 = subst (λ (w : ℕ). g * d ∣ w) (sym (mul-one g)) (gcd_greatest a b (g * d) x y) in
          eq-one_of_dvd-one (dvd_of_mul-dvd-mul_left d (gcd_positive a b h) z);
    }
