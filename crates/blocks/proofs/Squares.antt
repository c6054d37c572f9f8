-- An output filled square by square.
use Prim.Native.Nat.{ℕ, ◌+◌, ◌-◌, ◌*◌, ◌/◌, ◌%◌, ◌^◌, ◌≤◌, ◌<◌}
use mathlib.Core.Path.{◌≡◌, refl, sym, ap, ◌∙◌}
use mathlib.Core.Bool.{Bool, true, false}
use mathlib.Core.List.{List, ◌++◌}
use mathlib.Core.Logic.{⊎_elim}
use native.Mathlib.Omega.{arith}
use native.Mathlib.Nat.{eq-or-lt_of_le}
use borrow.Author.Tests.{ltb-true, ltb-false}
use lib.Dec.{ltb}
use lib.ListN.{length, drop, get_or, length-append, length-drop, get_or-append}
use lib.Seq.{ext_get_or, get_or-append-add, get_or-drop}
use Rattle.spec.specs.Answer.{accepted, left_in}
use Rattle.blocks.specs.Words.{Spread}

-- the bytes of the first t squares are those of ys, the others as before; `square j` is the square that has byte j
pub record Squares (square : ℕ → ℕ) (ys before : List ℕ) (t : ℕ) (output : List ℕ) : Type 0 where
  pub room : length ys ≤ length before
  pub long : length output ≡ length before
  pub done : (j : ℕ) → j < length ys → square j < t → get_or output j 0 ≡ get_or ys j 0
  pub kept : (j : ℕ) → (j < length ys → t ≤ square j) → get_or output j 0 ≡ get_or before j 0

module _ {square : ℕ → ℕ} {ys before : List ℕ} where
  pub squares_none : length ys ≤ length before → Squares square ys before 0 before
  squares_none h = record { room = h; long = refl; done = λ j g l. absurd (omega arith); kept = λ j g. refl }

  -- square t is the eight bytes at to, to + step ..; `row j` says which of them byte j is
  pub squares_more : {t word to step : ℕ} {output output' : List ℕ} (row : ℕ → ℕ) → Squares square ys before t output → Spread word to step 8 output output'
      → ((i : ℕ) → i < 8 → word / 2 ^ (8 * i) % 256 ≡ get_or ys (to + step * i) 0)
      → ((i : ℕ) → i < 8 → square (to + step * i) ≡ t) → ((i : ℕ) → i < 8 → to + step * i < length ys)
      → ((j : ℕ) → square j ≡ t → (row j < 8) × (j ≡ to + step * row j)) → Squares square ys before (t + 1) output'
  squares_more {t} {word} {to} {step} {output} {output'} row c w same here within rows =
      record {
        room = c.room;
        long = w.long ∙ c.long;
        done = λ (j : ℕ) g l. ⊎_elim
            (λ (d : square j ≡ t). let r = rows j d in
            ap (λ (k : ℕ). get_or output' k 0) r.1 ∙ w.there (row j) r.0 ∙ same (row j) r.0 ∙ ap (λ (k : ℕ). get_or ys k 0) (sym r.1))
            (λ (d : square j < t). w.kept j (λ (i : ℕ) h e. omega (arith, here i h, ap square e)) ∙ c.done j g d)
            (eq-or-lt_of_le (omega arith));
        kept = λ (j : ℕ) g. w.kept j (λ (i : ℕ) h e. let k : j < length ys = omega (arith, within i h) in omega (arith, g k, here i h, ap square e)) ∙ c.kept j (λ k. omega (arith, g k));
      }

  pub squares_all : {t : ℕ} {output : List ℕ} → Squares square ys before t output → ((j : ℕ) → j < length ys → square j < t) → output ≡ left_in (accepted ys) before
  unfolding left_in
  squares_all {t} {output} c all =
      ext_get_or 0 output (ys ++ drop (length ys) before) (omega (arith, c.long, c.room, length-append ys (drop (length ys) before), length-drop (length ys) before))
      (λ (j : ℕ) h. go j (ltb j (length ys)) refl)
    where
      go : (j : ℕ) (b : Bool) → ltb j (length ys) ≡ b → get_or output j 0 ≡ get_or (ys ++ drop (length ys) before) j 0
      go j true e = let g = ltb-true j (length ys) e in c.done j g (all j g) ∙ sym (get_or-append ys (drop (length ys) before) 0 j g)
      go j false e =
          let g = ltb-false j (length ys) e in
          let k : j ≡ length ys + (j - length ys) = omega arith in
          c.kept j (λ l. absurd (omega arith)) ∙ ap (λ (m : ℕ). get_or before m 0) k
          ∙ sym (ap (λ (m : ℕ). get_or (ys ++ drop (length ys) before) m 0) k ∙ get_or-append-add ys (drop (length ys) before) (j - length ys) 0 ∙ get_or-drop (length ys) before (j - length ys) 0)
