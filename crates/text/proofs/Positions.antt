-- Fields at positions: how a field, and the number in it, go on from one position to the next.
use Prim.Native.Nat.{ℕ, ◌+◌, ◌^◌, ◌≤◌, ◌<◌}
use mathlib.Core.Bool.{Bool, true, false}
use mathlib.Core.List.{List, ◌∷◌, []}
use Rattle.std.specs.Prelude.{Option, None, Some}
use mathlib.Core.Path.{◌≡◌, refl}
use native.Mathlib.Omega.{arith}
use native.Mathlib.Numerals.{add-one}
use lib.ListN.{length, get_or, drop_of_length-le}
use lib.Seq.{drop-cons}
use Rattle.spec.specs.Text.{number, numeral, good_start}
use Rattle.text.specs.Field.{ends_field, front, field_at, field_end, with_next, number_at}
use Rattle.text.specs.Step.{behind, digit_of, Step}
use Rattle.text.proofs.Steps.{not_end, no_digit, digit_is, number_behind, number_none, behind_end}

-- ---------------------------------------------------------------- fields

module _ (s : List ℕ) (i : ℕ) where
  pub field_over : length s ≤ i → field_at s i ≡ []
  unfolding field_at front
  field_over h = rw (drop_of_length-le s h)

  pub field_stop : i < length s → ends_field (get_or s i 0) ≡ true → field_at s i ≡ []
  unfolding field_at front
  field_stop h e = rw (drop-cons s i 0 h) (rw (e, front))

  pub field_more : i < length s → ends_field (get_or s i 0) ≡ false → field_at s i ≡ get_or s i 0 ∷ field_at s (i + 1)
  unfolding field_at front
  field_more h e = rw (drop-cons s i 0 h, add-one) (rw (e, front))

  pub end_here : field_at s i ≡ [] → field_end s i ≡ i
  unfolding field_end
  end_here e = rw e (omega arith)

  pub end_more : {b : ℕ} → field_at s i ≡ b ∷ field_at s (i + 1) → field_end s i ≡ field_end s (i + 1)
  unfolding field_end
  end_more e = rw e (omega arith)

-- ---------------------------------------------------------------- numbers

-- what the digits before a position, worth v, and the field from there make
unfoldable pub from : List ℕ → ℕ → ℕ → Option (ℕ × ℕ)
from s i v = with_next (behind v (field_at s i)) (field_end s i)

module _ (s : List ℕ) (i v : ℕ) where
  ends : field_at s i ≡ [] → v < 2 ^ 64 → Some (v, i) ≡ from s i v
  unfolding from
  ends e h = rw (end_here s i e, e, behind_end v h)

  pub over : length s ≤ i → v < 2 ^ 64 → Some (v, i) ≡ from s i v
  over h l = ends (field_over s i h) l

  pub stopped : i < length s → ends_field (get_or s i 0) ≡ true → v < 2 ^ 64 → Some (v, i) ≡ from s i v
  stopped h e l = ends (field_stop s i h e) l

  pub spoilt : i < length s → ends_field (get_or s i 0) ≡ false → Step v (get_or s i 0) None → None ≡ from s i v
  unfolding from
  spoilt h n q = let e = field_more s i h n in rw (e, q.on (field_at s (i + 1)))

  pub further : (w : ℕ) → i < length s → ends_field (get_or s i 0) ≡ false → Step v (get_or s i 0) (Some w) → from s i v ≡ from s (i + 1) w
  unfolding from
  further w h n q = let e = field_more s i h n in rw (end_more s i e, e, q.on (field_at s (i + 1)))

-- ---------------------------------------------------------------- where a number starts

module _ (s : List ℕ) (at : ℕ) where
  empty : field_at s at ≡ [] → None ≡ number_at s at
  unfolding number_at number numeral good_start
  empty e = rw e

  pub start_over : length s ≤ at → None ≡ number_at s at
  start_over h = empty (field_over s at h)

  -- no digit: the field is empty, or begins with that byte
  pub start_other : at < length s → digit_of (get_or s at 0) ≡ None → None ≡ number_at s at
  unfolding number_at
  start_other h n = go (ends_field (get_or s at 0)) refl
    where
      go : (t : Bool) → ends_field (get_or s at 0) ≡ t → None ≡ number_at s at
      go true e = empty (field_stop s at h e)
      go false e = rw (field_more s at h e, number_none (get_or s at 0) (field_at s (at + 1)) (no_digit (get_or s at 0) n))

  pub start_digit : (v : ℕ) → at < length s → digit_of (get_or s at 0) ≡ Some v → number_at s at ≡ from s (at + 1) v
  unfolding number_at from
  start_digit v h d =
      let a = digit_is (get_or s at 0) v d in
      let e = field_more s at h (not_end (get_or s at 0) (λ z. omega arith) (λ z. omega arith)) in
      rw (end_more s at e, e, number_behind (get_or s at 0) (field_at s (at + 1)) a.0 a.1, a.2)

pub ruleset positions = (start_over, start_other, start_digit, over, stopped, spoilt, further)
