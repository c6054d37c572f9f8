-- A number read in one pass, from digit to digit.
use mathlib.Core.Path.{◌≡◌, refl, sym, ◌∙◌}
use mathlib.Core.Bool.{Bool, true, false, ◌&&◌}
use mathlib.Core.List.{List, ◌∷◌, ◌++◌, []}
use Rattle.std.specs.Prelude.{None, Some}
use Prim.Native.Nat.{ℕ, suc, ◌+◌, ◌-◌, ◌*◌, ◌≤◌, ◌<◌, ◌^◌}
use native.Mathlib.Omega.{arith}
use native.Mathlib.Nat.{add-zero}
use lib.ListN.{length, get_or, take, drop, length-drop}
use lib.Seq.{take-suc, length-take-le, get_or-take, get_or-drop}
use borrow.Author.Tests.{lt-ltb, le-leb}
use Rattle.spec.specs.Text.{comma, number, all_digits, is_digit, horner}
use Rattle.fields.specs.Fields.{index, Found, digits_from, Digits, QuickAt, LoneAt}
use Rattle.fields.proofs.Decimals.{number_one, number_many}
use Rattle.fields.proofs.Marks.{index_end, index_here, index_more}
use Rattle.fields.proofs.Lines.{number_value}

-- ---------------------------------------------------------------- one digit more

all_last : (xs : List ℕ) (d : ℕ) → all_digits xs ≡ true → is_digit d ≡ true → all_digits (xs ++ (d ∷ [])) ≡ true
unfolding all_digits
all_last [] d h g = rw g
all_last (x ∷ xs) d h g = by (is_digit x) (all_digits xs) h (all_last xs d)
  where
    by : (a b : Bool) → (a && b) ≡ true → (b ≡ true → is_digit d ≡ true → all_digits (xs ++ (d ∷ [])) ≡ true) → (a && all_digits (xs ++ (d ∷ []))) ≡ true
    by true b e f = f e g
    by false b e f = e

horner_last : (a : ℕ) (xs : List ℕ) (d : ℕ) → horner a (xs ++ (d ∷ [])) ≡ horner a xs * 10 + (d - 48)
unfolding horner
horner_last a [] d = refl
horner_last a (x ∷ xs) d = horner_last (a * 10 + (x - 48)) xs d

pub digits_none : (s : List ℕ) (p : ℕ) → p ≤ length s → Digits s p p 0
unfolding all_digits horner
digits_none s p h =
    let e : p - p ≡ 0 = omega arith in
    record { low = omega arith; high = h; bound = omega arith; mark = refl; digits = rw e; value = rw e }

module _ (s : List ℕ) (p i v : ℕ) (r : Digits s p i v) where
  module _ (h : i < length s) (l : 48 ≤ get_or s i 0) (g : get_or s i 0 ≤ 57) where
    part_next : take (i + 1 - p) (drop p s) ≡ take (i - p) (drop p s) ++ (get_or s i 0 ∷ [])
    part_next =
        let e : i + 1 - p ≡ suc (i - p) = omega (arith, r.low) in
        let m : p + (i - p) ≡ i = omega (arith, r.low) in
        let k : i - p < length (drop p s) = rw (length-drop p s) (omega (arith, r.low)) in
        rw (e, take-suc (drop p s) (i - p) 0 k, get_or-drop p s (i - p) 0, m)

    digit : is_digit (get_or s i 0) ≡ true
    digit = rw (le-leb 48 (get_or s i 0) l, le-leb (get_or s i 0) 57 g)

    not_comma : get_or s i 0 ≡ comma → ⊥
    not_comma e = omega arith

    pub digits_next : v * 10 + (get_or s i 0 - 48) < 2 ^ 64 → Digits s p (i + 1) (v * 10 + (get_or s i 0 - 48))
    digits_next b =
        record {
          low = omega (arith, r.low);
          high = omega arith;
          bound = b;
          mark = index_more s comma i (p + index comma (drop p s)) r.mark h not_comma;
          digits = rw part_next (all_last (take (i - p) (drop p s)) (get_or s i 0) r.digits digit);
          value = rw part_next (horner_last 0 (take (i - p) (drop p s)) (get_or s i 0) ∙ rw r.value);
        }

  -- ---------------------------------------------------------------- the end

  pub found_end : length s ≤ i → Found s p comma i
  found_end h = record { low = r.low; high = r.high; here = index_end s comma i (p + index comma (drop p s)) r.mark h }

  pub found_mark : i < length s → get_or s i 0 ≡ comma → Found s p comma i
  found_mark h e = record { low = r.low; high = r.high; here = index_here s comma i (p + index comma (drop p s)) r.mark h e }

  part : List ℕ
  part = take (i - p) (drop p s)

  part_long : length (take (i - p) (drop p s)) ≡ i - p
  part_long = length-take-le (i - p) (drop p s) (rw (length-drop p s) (omega (arith, r.low, r.high)))

  some_digits : Some v ≡ digits_from 0 (take (i - p) (drop p s))
  unfolding digits_from
  some_digits = rw (r.digits, r.value, lt-ltb v (2 ^ 64) r.bound)

  module _ (f : Found s p comma i) where
    there : Some v ≡ number (take (i - p) (drop p s)) → QuickAt s p (Some (v, i + 1))
    there q = record { right = number_value s p i (omega (arith, r.low, r.high)) f v q }

    pub quick_one : i - p ≡ 1 → QuickAt s p (Some (v, i + 1))
    quick_one e = there (number_one (Some v) (take (i - p) (drop p s)) some_digits (part_long ∙ e))

    pub quick_many : (i ≡ p → ⊥) → (i - p ≡ 1 → ⊥) → (get_or s p 0 ≡ 48 → ⊥) → QuickAt s p (Some (v, i + 1))
    quick_many z o n =
        there (number_many (Some v) (take (i - p) (drop p s)) some_digits
        (λ e. z (omega (arith, e, part_long, r.low))) (λ e. o (sym part_long ∙ e)) (λ e. n (sym first ∙ e)))
      where
        first : get_or (take (i - p) (drop p s)) 0 0 ≡ get_or s p 0
        first =
            let k : 0 < i - p = omega (arith, z, r.low) in
            get_or-take (i - p) (drop p s) 0 0 k ∙ get_or-drop p s 0 0 ∙ rw (add-zero p)

pub quick_none : (s : List ℕ) (p : ℕ) → QuickAt s p None
quick_none s p = record { right = tt }

pub ruleset quick_laws = (digits_none, digits_next, found_end, found_mark, quick_one, quick_many, quick_none)

-- ---------------------------------------------------------------- a number of one digit

pub lone_none : (s : List ℕ) (p : ℕ) → LoneAt s p None
lone_none s p = record { right = tt }

module _ (s : List ℕ) (p d : ℕ) (is : d ≡ get_or s p 0) (h : p < length s) (l : 48 ≤ d) (g : d ≤ 57) where
  one : Digits s p (p + 1) (d - 48)
  one =
      let e : 0 * 10 + (get_or s p 0 - 48) ≡ d - 48 = omega arith in
      rw e at (digits_next s p p 0 (digits_none s p (omega arith)) h (omega arith) (omega arith) (omega arith))

  alone : Found s p comma (p + 1) → LoneAt s p (Some (d - 48))
  alone f =
      let e : p + 1 + 1 ≡ p + 2 = omega arith in
      record { right = rw e at (quick_one s p (p + 1) (d - 48) one f (omega arith)).right }

  -- at the line's end
  pub lone_end : length s - p ≡ 1 → LoneAt s p (Some (d - 48))
  lone_end e = alone (found_end s p (p + 1) (d - 48) one (omega arith))

  -- before a comma
  pub lone_mark : (length s - p ≡ 1 → ⊥) → get_or s (p + 1) 0 ≡ comma → LoneAt s p (Some (d - 48))
  lone_mark n e = alone (found_mark s p (p + 1) (d - 48) one (omega (arith, n)) e)

pub ruleset lone_laws = (lone_none, lone_end, lone_mark)
