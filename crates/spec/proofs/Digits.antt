-- Decimal numbers: the laws of `digits`, and the number read back from it.
use Prim.Native.Nat.{ℕ, zero, suc, ◌+◌, ◌-◌, ◌*◌, ◌/◌, ◌%◌, ◌^◌, ◌≤◌, ◌<◌}
use mathlib.Core.Bool.{Bool, true, false, not, false≢true}
use mathlib.Core.List.{List, [], ◌∷◌, ◌++◌}
use Rattle.std.specs.Prelude.{None, Some}
use mathlib.Core.Path.{◌≡◌, refl, sym, ap, ◌∙◌}
use native.Mathlib.Omega.{arith}
use lib.Dec.{eqb, ltb}
use borrow.Author.Tests.{ltb-true, ltb-false, lt-ltb, le-ltb, le-leb, ne_eqb}
use Rattle.spec.specs.Text.{digits_in, digits, horner, is_digit, all_digits, good_start, numeral, below-2^64, number}
use Rattle.spec.proofs.Bools.{and_true, and_left, and_right}
use Rattle.spec.proofs.Split.{free, Clean}

-- ---------------------------------------------------------------- the two laws of `digits`

one_digit : (k n : ℕ) → n < 10 → digits_in (suc k) n ≡ (48 + n) ∷ []
unfolding digits_in
one_digit k n h = rw (lt-ltb n 10 h, digits_in)

more_digits : (k n : ℕ) → 10 ≤ n → digits_in (suc k) n ≡ digits_in k (n / 10) ++ ((48 + n % 10) ∷ [])
unfolding digits_in
more_digits k n h = rw (le-ltb n 10 h, digits_in)

-- more fuel than the number gives the same digits
enough : (k j n : ℕ) → n < k → n < j → digits_in k n ≡ digits_in j n
enough zero j n h g = absurd (omega arith)
enough (suc k) zero n h g = absurd (omega arith)
enough (suc k) (suc j) n h g = go (ltb n 10) refl (enough k j (n / 10))
  where
    go : (t : Bool) → ltb n 10 ≡ t → (n / 10 < k → n / 10 < j → digits_in k (n / 10) ≡ digits_in j (n / 10)) → digits_in (suc k) n ≡ digits_in (suc j) n
    go true e ih = let lt = ltb-true n 10 e in one_digit k n lt ∙ sym (one_digit j n lt)
    go false e ih =
        let le = ltb-false n 10 e in
        more_digits k n le ∙ ap (λ (l : List ℕ). l ++ ((48 + n % 10) ∷ [])) (ih (omega arith) (omega arith)) ∙ sym (more_digits j n le)

pub digits_one : (n : ℕ) → n < 10 → digits n ≡ (48 + n) ∷ []
unfolding digits
digits_one n h = one_digit n n h

pub digits_more : (n : ℕ) → 10 ≤ n → digits n ≡ digits (n / 10) ++ ((48 + n % 10) ∷ [])
unfolding digits
digits_more n h = more_digits n n h ∙ ap (λ (l : List ℕ). l ++ ((48 + n % 10) ∷ [])) (enough n (suc (n / 10)) (n / 10) (omega arith) (omega arith))

-- what holds of one digit and passes from n / 10 to n holds of every number
by_digits_in : (P : ℕ → Type 0) → ((n : ℕ) → n < 10 → P n) → ((n : ℕ) → 10 ≤ n → P (n / 10) → P n) → (k n : ℕ) → n < k → P n
by_digits_in P one more zero n h = absurd (omega arith)
by_digits_in P one more (suc k) n h = go (ltb n 10) refl (by_digits_in P one more k (n / 10))
  where
    go : (t : Bool) → ltb n 10 ≡ t → (n / 10 < k → P (n / 10)) → P n
    go true e ih = one n (ltb-true n 10 e)
    go false e ih = let le = ltb-false n 10 e in more n le (ih (omega arith))

pub by_digits : (P : ℕ → Type 0) → ((n : ℕ) → n < 10 → P n) → ((n : ℕ) → 10 ≤ n → P (n / 10) → P n) → (n : ℕ) → P n
by_digits P one more n = by_digits_in P one more (suc n) n (omega arith)

-- ---------------------------------------------------------------- every byte is a digit

digit : (d : ℕ) → d < 10 → is_digit (48 + d) ≡ true
digit d h = and_true (le-leb 48 (48 + d) (omega arith)) (le-leb (48 + d) 57 (omega arith))

all_digits_append : (s t : List ℕ) → all_digits s ≡ true → all_digits t ≡ true → all_digits (s ++ t) ≡ true
unfolding all_digits
all_digits_append [] t h g = g
all_digits_append (d ∷ s) t h g =
    and_true (and_left (is_digit d) (all_digits s) h) (all_digits_append s t (and_right (is_digit d) (all_digits s) h) g)

one_is_digit : (d : ℕ) → d < 10 → all_digits ((48 + d) ∷ []) ≡ true
unfolding all_digits
one_is_digit d h = and_true (digit d h) refl

pub digits_digits : (n : ℕ) → all_digits (digits n) ≡ true
digits_digits = by_digits (λ (n : ℕ). all_digits (digits n) ≡ true)
    (λ n h. rw (digits_one n h) (one_is_digit n h))
    (λ n h ih. rw (digits_more n h) (all_digits_append (digits (n / 10)) ((48 + n % 10) ∷ []) ih (one_is_digit (n % 10) (omega arith))))

-- what is no digit stands in no run of digits
digits_only : (b : ℕ) → is_digit b ≡ false → (s : List ℕ) → all_digits s ≡ true → free b s ≡ true
unfolding all_digits
digits_only b no_digit [] h = refl
digits_only b no_digit (d ∷ s) h =
    and_true (ap not (ne_eqb d b (other (and_left (is_digit d) (all_digits s) h)))) (digits_only b no_digit s (and_right (is_digit d) (all_digits s) h))
  where
    other : is_digit d ≡ true → d ≡ b → ⊥
    other y e = let z : ◌≡◌ {A = ℕ} 0 1 = cc in omega arith

pub digits_free : (b : ℕ) → is_digit b ≡ false → (n : ℕ) → free b (digits n) ≡ true
digits_free b no_digit n = digits_only b no_digit (digits n) (digits_digits n)

pub digits_clean : (n : ℕ) → Clean (digits n)
digits_clean n = record { no_comma = digits_free 44 refl n; no_feed = digits_free 10 refl n }

-- ---------------------------------------------------------------- the number read back

horner_append : (a : ℕ) (s t : List ℕ) → horner a (s ++ t) ≡ horner (horner a s) t
unfolding horner
horner_append a [] t = refl
horner_append a (d ∷ s) t = horner_append (a * 10 + (d - 48)) s t

horner_one : (a d : ℕ) → horner a ((48 + d) ∷ []) ≡ a * 10 + d
unfolding horner
horner_one a d = omega arith

pub horner_digits : (n : ℕ) → horner 0 (digits n) ≡ n
horner_digits = by_digits (λ (n : ℕ). horner 0 (digits n) ≡ n)
    (λ n h. rw (digits_one n h) (horner_one 0 n ∙ omega arith))
    (λ n h ih. rw (digits_more n h)
    (horner_append 0 (digits (n / 10)) ((48 + n % 10) ∷ []) ∙ horner_one (horner 0 (digits (n / 10))) (n % 10) ∙ rw ih (omega arith)))

-- the first digit is there, and is not 0
abbrev leads : List ℕ → Bool
leads [] = false
leads (d ∷ ds) = not (eqb d 48)

leads_append : (s t : List ℕ) → leads s ≡ true → leads (s ++ t) ≡ true
leads_append [] t h = absurd (false≢true h)
leads_append (d ∷ s) t h = h

leads_good : (s : List ℕ) → leads s ≡ true → good_start s ≡ true
unfolding good_start
leads_good [] h = h
leads_good (d ∷ []) h = refl
leads_good (d ∷ e ∷ s) h = h

digits_lead : (n : ℕ) → 0 < n → leads (digits n) ≡ true
digits_lead = by_digits (λ (n : ℕ). 0 < n → leads (digits n) ≡ true)
    (λ n h p. rw (digits_one n h) (ap not (ne_eqb (48 + n) 48 (λ e. omega arith))))
    (λ n h ih p. rw (digits_more n h) (leads_append (digits (n / 10)) ((48 + n % 10) ∷ []) (ih (omega arith))))

digits_start : (n : ℕ) → good_start (digits n) ≡ true
unfolding good_start digits digits_in
digits_start zero = refl
digits_start (suc n) = leads_good (digits (suc n)) (digits_lead (suc n) (omega arith))

pub numeral_digits : (n : ℕ) → numeral (digits n) ≡ Some n
unfolding numeral
numeral_digits n = rw (digits_start n, digits_digits n, numeral) (ap Some (horner_digits n))

pub keeps : (n : ℕ) → n < 2 ^ 64 → below-2^64 (Some n) ≡ Some n
keeps n h = rw (lt-ltb n (2 ^ 64) h, below-2^64)

pub drops : (n : ℕ) → 2 ^ 64 ≤ n → below-2^64 (Some n) ≡ None
drops n h = rw (le-ltb n (2 ^ 64) h, below-2^64)

pub number_digits : (n : ℕ) → n < 2 ^ 64 → number (digits n) ≡ Some n
unfolding number
number_digits n h = rw numeral_digits (keeps n h)
