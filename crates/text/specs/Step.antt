-- Reading a number from the left: what the digits so far and the rest of the field make, and what one byte does to it.
use Rattle.std.specs.Prelude.{ℕ, ◌-◌, Bool, true, false, ◌&&◌, not, cond, List, ◌∷◌, [], ◌≡◌, eqb, option_and_then}
use Rattle.std.specs.Prelude.{Option, None, Some}
use Rattle.spec.specs.Text.{horner, is_digit, all_digits, below-2^64}

-- a number that passed a test
abbrev pub taken : Bool → ℕ → Option ℕ
taken true n = below-2^64 (Some n)
taken false n = None

-- no digit stands behind a 0 that begins
abbrev pub may_follow : ℕ → List ℕ → Bool
may_follow v [] = true
may_follow v (d ∷ f) = not (eqb v 0)

-- the number that digits worth v, and f behind them, make
unfoldable pub behind : ℕ → List ℕ → Option ℕ
behind v f = taken (may_follow v f && all_digits f) (horner v f)

-- a digit's value
abbrev pub digit_of : ℕ → Option ℕ
digit_of b = cond (is_digit b) (Some (b - 48)) None

-- the byte b behind digits worth v makes this number, or spoils it
pub record Step (v b : ℕ) (r : Option ℕ) : Type 0 where
  pub on : (f : List ℕ) → behind v (b ∷ f) ≡ option_and_then (λ w. behind w f) r
