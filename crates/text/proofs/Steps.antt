-- What each byte does to a number that is read from the left.
use Prim.Native.Nat.{ℕ, ◌+◌, ◌-◌, ◌*◌, ◌^◌, ◌≤◌, ◌<◌}
use mathlib.Core.Bool.{Bool, true, false, ◌&&◌, not}
use mathlib.Core.List.{List, ◌∷◌, []}
use Rattle.std.specs.Prelude.{Option, None, Some, SomeIff}
use mathlib.Core.Path.{◌≡◌, refl, sym, ap, ◌∙◌}
use native.Mathlib.Omega.{arith}
use lib.Dec.{eqb, leb}
use borrow.Author.Tests.{eq-eqb, ne_eqb, le-leb, leb-true, eqb-true, eqb-false}
use Rattle.spec.specs.Text.{horner, is_digit, all_digits, good_start, numeral, number, below-2^64}
use Rattle.text.specs.Field.{ends_field}
use Rattle.text.specs.Step.{taken, may_follow, behind, digit_of, Step}
use Rattle.std.proofs.lemmas.Option.{cond_some}
use Rattle.spec.proofs.Bools.{and_false, and_left, and_right}
use Rattle.spec.proofs.Digits.{keeps, drops}

-- ---------------------------------------------------------------- a field that begins with a digit

number_taken : (f : List ℕ) → number f ≡ taken (good_start f && all_digits f) (horner 0 f)
unfolding number numeral
number_taken f = go (good_start f && all_digits f) (horner 0 f)
  where
    go : (t : Bool) (n : ℕ) → below-2^64 (elim t as (λ x. Option ℕ) [ true ↦ Some n | false ↦ None ]) ≡ taken t n
    go true n = refl
    go false n = refl

-- 0 begins only 0 itself
good_follow : (b : ℕ) (f : List ℕ) → 48 ≤ b → good_start (b ∷ f) ≡ may_follow (b - 48) f
unfolding good_start
good_follow b [] h = refl
good_follow b (d ∷ f) h = go (eqb b 48) refl
  where
    go : (t : Bool) → eqb b 48 ≡ t → not (eqb b 48) ≡ not (eqb (b - 48) 0)
    go true e = let g = eqb-true b 48 e in rw (e, eq-eqb (b - 48) 0 (omega arith))
    go false e = let g = eqb-false b 48 e in rw (e, ne_eqb (b - 48) 0 (λ z. g (omega arith)))

pub number_behind : (b : ℕ) (f : List ℕ) → 48 ≤ b → b ≤ 57 → number (b ∷ f) ≡ behind (b - 48) f
unfolding behind all_digits horner
number_behind b f l h =
    let e : 0 * 10 + (b - 48) ≡ b - 48 = omega arith in
    number_taken (b ∷ f) ∙ rw (good_follow b f l, le-leb 48 b l, le-leb b 57 h, e)

-- what `digit_of` says of a byte
pub no_digit : (b : ℕ) → digit_of b ≡ None → is_digit b ≡ false
no_digit b e = go (is_digit b) refl
  where
    go : (t : Bool) → is_digit b ≡ t → is_digit b ≡ false
    go true k = cc
    go false k = k

pub digit_is : (b d : ℕ) → digit_of b ≡ Some d → (48 ≤ b) × (b ≤ 57) × (d ≡ b - 48)
digit_is b d e = let h = cond_some (is_digit b) (b - 48) d e in (leb-true 48 b (and_left (leb 48 b) (leb b 57) h.0), leb-true b 57 (and_right (leb 48 b) (leb b 57) h.0), sym h.1)

-- what begins with another byte is no number
pub number_none : (b : ℕ) (f : List ℕ) → is_digit b ≡ false → number (b ∷ f) ≡ None
unfolding all_digits
number_none b f n = number_taken (b ∷ f) ∙ rw (n, and_false (good_start (b ∷ f)))

-- ---------------------------------------------------------------- behind digits

pub behind_end : (v : ℕ) → v < 2 ^ 64 → behind v [] ≡ Some v
unfolding behind all_digits horner
behind_end v h = keeps v h

follows : (v : ℕ) (f : List ℕ) → (v ≡ 0 → ⊥) → may_follow v f ≡ true
follows v [] n = refl
follows v (d ∷ f) n = ap not (ne_eqb v 0 n)

behind_more : (v b : ℕ) → (v ≡ 0 → ⊥) → 48 ≤ b → b ≤ 57 → (f : List ℕ) → behind v (b ∷ f) ≡ behind (v * 10 + (b - 48)) f
unfolding behind all_digits horner
behind_more v b n l h f = rw (ne_eqb v 0 n, le-leb 48 b l, le-leb b 57 h, follows (v * 10 + (b - 48)) f (λ e. n (omega arith)))

behind_other : (v b : ℕ) → is_digit b ≡ false → (f : List ℕ) → behind v (b ∷ f) ≡ None
unfolding behind all_digits
behind_other v b n f = rw (n, and_false (not (eqb v 0)))

behind_zero : (v b : ℕ) → v ≡ 0 → (f : List ℕ) → behind v (b ∷ f) ≡ None
unfolding behind
behind_zero v b e f = rw (eq-eqb v 0 e)

horner_grows : (n : ℕ) (f : List ℕ) → n ≤ horner n f
unfolding horner
horner_grows n [] = omega arith
horner_grows n (d ∷ f) = let h = horner_grows (n * 10 + (d - 48)) f in omega arith

taken_large : (t : Bool) (n : ℕ) → 2 ^ 64 ≤ n → taken t n ≡ None
taken_large true n h = drops n h
taken_large false n h = refl

behind_large : (v b : ℕ) → 2 ^ 64 ≤ v * 10 + (b - 48) → (f : List ℕ) → behind v (b ∷ f) ≡ None
unfolding behind horner
behind_large v b h f =
    let g = horner_grows (v * 10 + (b - 48)) f in
    taken_large (may_follow v (b ∷ f) && all_digits (b ∷ f)) (horner (v * 10 + (b - 48)) f) (omega arith)

-- ---------------------------------------------------------------- the steps

pub not_end : (b : ℕ) → (b ≡ 44 → ⊥) → (b ≡ 10 → ⊥) → ends_field b ≡ false
not_end b n m = rw (ne_eqb b 44 n, ne_eqb b 10 m)

module _ (v b : ℕ) where
  no_step : ((f : List ℕ) → behind v (b ∷ f) ≡ None) → Step v b None
  no_step h = record { on = h }

  pub bad_digit : digit_of b ≡ None → Step v b None
  bad_digit e = no_step (behind_other v b (no_digit b e))

  pub bad_zero : v ≡ 0 → Step v b None
  bad_zero e = no_step (behind_zero v b e)

  pub bad_large : (d : ℕ) → digit_of b ≡ Some d → 2 ^ 64 ≤ v * 10 + d → Step v b None
  bad_large d e h = let a = digit_is b d e in no_step (behind_large v b (rw a.2 at h))

  pub more_digit : (d : ℕ) → digit_of b ≡ Some d → (v ≡ 0 → ⊥) → Step v b (Some (v * 10 + d))
  more_digit d e n = let a = digit_is b d e in record { on = rw a.2 (behind_more v b n a.0 a.1) }

  -- the sum of a checked product and a digit
  pub summed : (m d : ℕ) (r : Option ℕ) → Some d ≡ digit_of b → (v ≡ 0 → ⊥) → m ≡ v * 10 → SomeIff r (m + d < 2 ^ 64) (m + d) → Step v b r
  summed m d None e n k h = bad_large d (sym e) (omega arith)
  summed m d (Some w) e n k h = rw (h.1, k) (more_digit d (sym e) n)

pub ruleset steps = (bad_digit, bad_zero)
