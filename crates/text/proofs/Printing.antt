-- A number put digit by digit.
use Prim.Native.Nat.{ℕ, ◌+◌, ◌/◌, ◌%◌, ◌≤◌, ◌<◌}
use mathlib.Core.List.{List, ◌∷◌, []}
use native.Mathlib.Omega.{arith}
use Rattle.spec.specs.Text.{digits}
use Rattle.text.specs.Put.{Put, then}
use Rattle.spec.proofs.Digits.{digits_one, digits_more}

module _ {l : List ℕ} {at : ℕ} {l1 : List ℕ} {p : ℕ} where
  -- one digit
  pub number_one : (n : ℕ) → n < 10 → Put l at ((48 + n) ∷ []) l1 p → Put l at (digits n) l1 p
  number_one n h a = rw (digits_one n h) a

  -- the last digit behind the others
  pub number_more : {l2 : List ℕ} {q : ℕ} (n : ℕ) → 10 ≤ n → Put l at (digits (n / 10)) l1 p → Put l1 p ((48 + n % 10) ∷ []) l2 q → Put l at (digits n) l2 q
  number_more n h a b = rw (digits_more n h) (then a b)

  -- two digits
  pub number_two : {l2 : List ℕ} {q : ℕ} (n : ℕ) → 10 ≤ n → n < 100 → Put l at ((48 + n / 10) ∷ []) l1 p → Put l1 p ((48 + n % 10) ∷ []) l2 q → Put l at (digits n) l2 q
  number_two n h k a b = number_more n h (number_one (n / 10) (omega arith) a) b
