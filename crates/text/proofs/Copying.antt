-- Bytes copied into a part of a slice.
use Prim.Native.Nat.{ℕ, ◌+◌, ◌-◌, ◌≤◌}
use mathlib.Core.Path.{◌≡◌, sym, ap, ◌∙◌}
use mathlib.Core.List.{List, ◌++◌, append_assoc}
use native.Mathlib.Omega.{arith}
use lib.ListN.{length, take, drop}
use lib.Seq.{sets, sets-eq, drop-drop}
use Rattle.text.specs.Put.{Put, last, sat_below}

-- ---------------------------------------------------------------- in the middle of a slice

-- bytes between the two ends of a slice are a run of stores
pub middle_is : (l x : List ℕ) (from end : ℕ) → from ≤ end → end ≤ length l → end - from ≡ length x
    → take from l ++ (x ++ drop (end - from) (drop from l)) ≡ sets l from x
middle_is l x from end h k e =
    let z : from + (end - from) ≡ from + length x = omega arith in
    ap (λ (w : List ℕ). take from l ++ (x ++ w)) (drop-drop (end - from) from l ∙ ap (λ (i : ℕ). drop i l) z)
    ∙ sym (append_assoc (take from l) x (drop (from + length x) l)) ∙ sym (sets-eq x l from (omega arith))

module _ (l w : List ℕ) (at : ℕ) where
  -- where there is room for all of w, w between the two ends is w put there
  pub middle_put : {y : List ℕ} → at + length w ≤ length l → length l ≤ last → y ≡ w → Put l at w (take at l ++ (y ++ drop (at + length w - at) (drop at l))) (at + length w)
  middle_put h g e =
      record {
        text = rw e (middle_is l w at (at + length w) (omega arith) h (omega arith));
        next = sym (sat_below (at + length w) (omega arith));
        fits = g;
      }
