-- How a decimal number goes on from digit to digit.
use mathlib.Core.Path.{◌≡◌, refl, sym, ◌∙◌}
use mathlib.Core.Bool.{Bool, true, false}
use mathlib.Core.List.{List, ◌∷◌, []}
use Rattle.std.specs.Prelude.{Option, None, Some}
use Prim.Native.Nat.{ℕ, ◌+◌, ◌-◌, ◌*◌, ◌≤◌, ◌<◌, ◌^◌}
use native.Mathlib.Omega.{arith}
use native.Mathlib.Numerals.{add-one}
use lib.Dec.{ltb}
use lib.ListN.{length, get_or, drop, drop_of_length-le}
use lib.Seq.{drop-cons}
use borrow.Author.Tests.{le-ltb, lt-ltb, le-leb, lt-leb, eq-eqb, ne_eqb}
use Rattle.spec.specs.Text.{number, numeral, good_start, all_digits, horner}
use Rattle.tables.specs.Tables.{pick}
use Rattle.fields.specs.Fields.{digits_from, small}

grows : (a : ℕ) (ds : List ℕ) → a ≤ horner a ds
unfolding horner
grows a [] = omega arith
grows a (d ∷ ds) = omega (arith, grows (a * 10 + (d - 48)) ds)

-- a number once too large stays so
pub digits_big : (v : ℕ) (ds : List ℕ) → 2 ^ 64 ≤ v → digits_from v ds ≡ None
unfolding digits_from
digits_big v ds h = by (all_digits ds)
  where
    big : ltb (horner v ds) (2 ^ 64) ≡ false
    big = le-ltb (horner v ds) (2 ^ 64) (omega (arith, grows v ds))

    by : (t : Bool) → pick t (small (horner v ds)) None ≡ None
    by true = rw big
    by false = refl

module _ (o : Option ℕ) (s : List ℕ) (i v : ℕ) (p : o ≡ digits_from v (drop i s)) where
  pub digits_end : length s ≤ i → v < 2 ^ 64 → Some v ≡ o
  unfolding digits_from all_digits horner
  digits_end h l = sym (p ∙ rw (drop_of_length-le s h, lt-ltb v (2 ^ 64) l))

  pub digits_low : i < length s → get_or s i 0 < 48 → None ≡ o
  unfolding digits_from all_digits
  digits_low h l = sym (p ∙ rw (drop-cons s i 0 h, lt-leb 48 (get_or s i 0) l))

  pub digits_high : i < length s → 57 < get_or s i 0 → None ≡ o
  unfolding digits_from all_digits
  digits_high h l = let k : 48 ≤ get_or s i 0 = omega arith in sym (p ∙ rw (drop-cons s i 0 h, le-leb 48 (get_or s i 0) k, lt-leb (get_or s i 0) 57 l))

  pub digits_more : i < length s → 48 ≤ get_or s i 0 → get_or s i 0 ≤ 57 → o ≡ digits_from (v * 10 + (get_or s i 0 - 48)) (drop (i + 1) s)
  unfolding digits_from all_digits horner
  digits_more h l g = p ∙ rw (drop-cons s i 0 h, le-leb 48 (get_or s i 0) l, le-leb (get_or s i 0) 57 g, add-one)

  pub digits_over : i < length s → 48 ≤ get_or s i 0 → get_or s i 0 ≤ 57 → 2 ^ 64 ≤ v * 10 + (get_or s i 0 - 48) → None ≡ o
  digits_over h l g big = sym (digits_more h l g ∙ digits_big (v * 10 + (get_or s i 0 - 48)) (drop (i + 1) s) big)

pub ruleset digit_laws = (digits_end, digits_low, digits_high, digits_more, digits_over)

chosen : {A : Type 0} (t : Bool) (a b : A) → elim t as (λ x. A) [ true ↦ a | false ↦ b ] ≡ pick t a b
chosen true a b = refl
chosen false a b = refl

started_by : (f : List ℕ) → good_start f ≡ true → (a : Bool) → all_digits f ≡ a → number f ≡ digits_from 0 f
unfolding number numeral digits_from
started_by f g true p = rw (number, numeral, g, p) (chosen (ltb (horner 0 f) (2 ^ 64)) (Some (horner 0 f)) None)
started_by f g false p = rw (number, numeral, g, p)

started : (f : List ℕ) → good_start f ≡ true → number f ≡ digits_from 0 f
started f g = started_by f g (all_digits f) refl

pub number_empty : (f : List ℕ) → length f ≡ 0 → None ≡ number f
unfolding number numeral good_start
number_empty [] h = refl
number_empty (d ∷ ds) h = absurd (omega arith)

pub number_one : (o : Option ℕ) (f : List ℕ) → o ≡ digits_from 0 f → length f ≡ 1 → o ≡ number f
unfolding good_start
number_one o [] p h = absurd (omega arith)
number_one o (d ∷ []) p h = p ∙ sym (started (d ∷ []) refl)
number_one o (d ∷ e ∷ ds) p h = absurd (omega arith)

pub number_zero : (f : List ℕ) → (length f ≡ 0 → ⊥) → (length f ≡ 1 → ⊥) → get_or f 0 0 ≡ 48 → None ≡ number f
unfolding number numeral good_start
number_zero [] h k e = absurd (h refl)
number_zero (d ∷ []) h k e = absurd (k refl)
number_zero (d ∷ e' ∷ ds) h k e = rw (number, numeral, eq-eqb d 48 e)

pub number_many : (o : Option ℕ) (f : List ℕ) → o ≡ digits_from 0 f → (length f ≡ 0 → ⊥) → (length f ≡ 1 → ⊥) → (get_or f 0 0 ≡ 48 → ⊥) → o ≡ number f
unfolding good_start
number_many o [] p h k e = absurd (h refl)
number_many o (d ∷ []) p h k e = absurd (k refl)
number_many o (d ∷ e' ∷ ds) p h k e = p ∙ sym (started (d ∷ e' ∷ ds) (rw (ne_eqb d 48 e)))

pub ruleset number_laws = (number_empty, number_one, number_zero, number_many)
