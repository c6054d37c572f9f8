-- A text whose length was measured, in the buffer or refused: 28 writes nothing.
use Prim.Native.Nat.{ℕ, ◌+◌, ◌/◌, ◌≤◌, ◌<◌}
use mathlib.Core.Path.{◌≡◌}
use mathlib.Core.List.{List, ◌∷◌, ◌++◌}
use Rattle.std.specs.Prelude.{Ok, Err}
use native.Mathlib.Omega.{arith}
use lib.ListN.{length}
use borrow.Author.Tests.{le-leb, lt-leb}
use Rattle.spec.specs.Text.{digits, comma}
use Rattle.spec.specs.Answer.{fitted, left_in}
use Rattle.text.specs.Put.{Put, sat, last}
use Rattle.text.proofs.Front.{in_front}
use Rattle.figures.specs.Fraction.{gcd, lowest}
use Rattle.figures.specs.Annex.{slash, fraction}
use Rattle.answers.proofs.Laws.{refused_by, accepted_by}
use Rattle.figures.specs.Shown.{Answers}
use Rattle.figures.specs.declared.Refusal.{Refusal}

-- ---------------------------------------------------------------- fractions, and the numbers they are made of

pub fraction_is : (a b g : ℕ) → g ≡ gcd a b → comma ∷ fraction (lowest a b) ≡ (comma ∷ digits (a / g)) ++ (slash ∷ digits (b / g))
unfolding fraction lowest
fraction_is a b g e = rw e

-- ---------------------------------------------------------------- the answer

module _ (P : List ℕ) (l : List ℕ) (end : ℕ) (m : end ≡ sat (0 + length P)) where
  pub too_long : length l < end → Answers (fitted (length l) P) l l (Err (record { refusal = Refusal.LongAnnex; line = 0 }))
  unfolding fitted sat
  too_long h = refused_by _ _ l (record { refusal = Refusal.LongAnnex; line = 0 }) (rw (fitted, lt-leb (length P) (length l) (omega arith)))

  pub fits : {l' : List ℕ} {r : ℕ} → end ≤ length l → length l < last → Put l 0 P l' r → Answers (fitted (length l) P) l l' (Ok end)
  unfolding fitted sat left_in
  fits {l'} h k p =
      let n : end ≡ length P = omega arith in
      accepted_by _ _ l P l' end (rw (fitted, le-leb (length P) (length l) (omega arith))) n (in_front p (omega arith)).1
