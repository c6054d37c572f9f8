-- An output filled byte by byte from its start on.
use Prim.Native.Nat.{ℕ, ◌+◌, ◌≤◌, ◌<◌}
use mathlib.Core.Path.{◌≡◌, refl, ◌∙◌}
use mathlib.Core.List.{List, ◌++◌}
use native.Mathlib.Omega.{arith}
use native.Mathlib.Nat.{zero-add}
use native.Mathlib.Numerals.{add-one}
use lib.ListN.{length, take, drop, set, get_or, length-set}
use lib.Seq.{paste-suc, take_all}
use Rattle.spec.specs.Answer.{accepted, left_in}

-- the first k bytes are those of ys, the others as before
pub record Filled (ys before : List ℕ) (k : ℕ) (output : List ℕ) : Type 0 where
  pub within : k ≤ length ys
  pub room : length ys ≤ length before
  pub long : length output ≡ length before
  pub so_far : output ≡ take k ys ++ drop k before

pub filled_none : (ys before : List ℕ) → length ys ≤ length before → Filled ys before 0 before
filled_none ys before h = record { within = omega arith; room = h; long = refl; so_far = refl }

module _ {ys before : List ℕ} {k : ℕ} {output : List ℕ} (c : Filled ys before k output) where
  pub filled_more : {y : ℕ} → k < length ys → y ≡ get_or ys k 0 → Filled ys before (k + 1) (set output k y)
  filled_more {y} h e =
      record {
        within = omega arith;
        room = c.room;
        long = length-set output k y ∙ c.long;
        so_far = rw (c.so_far, e, add-one) (simp zero-add at (paste-suc before 0 ys k 0 (omega arith) h));
      }

  pub filled_all : length ys ≤ k → output ≡ left_in (accepted ys) before
  unfolding left_in
  filled_all h =
      let e : k ≡ length ys = omega arith in
      c.so_far ∙ rw (e, take_all (length ys) ys (omega arith))
