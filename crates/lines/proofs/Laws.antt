-- The k-th line that begins with w, from line to line of a text.
use mathlib.Core.Path.{◌≡◌, refl, sym, ap, ◌∙◌}
use mathlib.Core.Bool.{Bool, true, false}
use mathlib.Core.List.{List, ◌∷◌, []}
use Rattle.std.specs.Prelude.{Option, None, Some}
use Rattle.std.specs.List.{starts_with, slice_get}
use lib.Dec.{eqb}
use Prim.Native.Nat.{ℕ, suc, ◌+◌, ◌-◌, ◌≤◌, ◌<◌}
use native.Mathlib.Omega.{arith}
use lib.ListN.{length, take, drop, length-drop, drop_of_length-le}
use lib.Seq.{length-take-le}
use borrow.Author.Tests.{le-leb, lt-leb, eq-eqb, ne_eqb, eqb-true, eqb-false}
use Rattle.spec.specs.Text.{split, same, line_feed}
use Rattle.fields.specs.Fields.{Found, index}
use Rattle.fields.proofs.Tabs.{same_bytes}
use Rattle.fields.proofs.Marks.{split_from, split_some}
use Rattle.lines.specs.Lines.{Line, placed, lines, begins, beginning, nth_line}
use Rattle.lines.specs.Handed.{span_of}

-- ---------------------------------------------------------------- `begins`

eqb_turned : (x y : ℕ) → eqb x y ≡ eqb y x
eqb_turned x y = go (eqb x y) refl
  where
    go : (t : Bool) → eqb x y ≡ t → eqb x y ≡ eqb y x
    go true e = e ∙ sym (eq-eqb y x (sym (eqb-true x y e)))
    go false e = e ∙ sym (ne_eqb y x (λ q. eqb-false x y e (sym q)))

same_turned : (xs ys : List ℕ) → same xs ys ≡ same ys xs
unfolding same
same_turned [] [] = refl
same_turned [] (y ∷ ys) = refl
same_turned (x ∷ xs) [] = refl
same_turned (x ∷ xs) (y ∷ ys) = rw (eqb_turned x y, same_turned xs ys)

-- the library's word for it
pub begins_is : (w s : List ℕ) → starts_with eqb s w ≡ begins w s
unfolding begins
begins_is w s = same_bytes w (take (length w) s) ∙ same_turned w (take (length w) s)

-- ---------------------------------------------------------------- from line to line

-- the lines that start at p or behind it
unfoldable pub lines_from : List ℕ → ℕ → List Line
lines_from s p = placed p (split line_feed (drop p s))

pub nth_from : List ℕ → List ℕ → ℕ → ℕ → Option Line
nth_from s w p k = slice_get (beginning w (lines_from s p)) k

pub nth_start : (s w : List ℕ) (k : ℕ) → nth_line s w k ≡ nth_from s w 0 k
unfolding nth_line lines lines_from nth_from
nth_start s w k = refl

-- a piece that another follows is a line
placed_cons : (p : ℕ) (w : List ℕ) (ws : List (List ℕ)) (v : List ℕ) (vs : List (List ℕ)) → ws ≡ v ∷ vs
    → placed p (w ∷ ws) ≡ record { from = p; bytes = w } ∷ placed (p + length w + 1) ws
unfolding placed
placed_cons p w ws v vs e = rw e

-- the line from p to a line feed at e
unfoldable pub piece : List ℕ → ℕ → ℕ → Line
piece s p e = record { from = p; bytes = take (e - p) (drop p s) }

module _ (s : List ℕ) (p e : ℕ) (f : Found s p line_feed e) where
  pub piece_end : p + length (take (e - p) (drop p s)) ≡ e
  piece_end = omega (arith, length-take-le (e - p) (drop p s) (rw (length-drop p s) (omega (arith, f.high))), f.low)

  pub from_next : e < length s → lines_from s p ≡ piece s p e ∷ lines_from s (e + 1)
  unfolding lines_from piece
  from_next h =
      let r = drop (e + 1) s in
      rw (split_from line_feed s p e f, le-leb (e + 1) (length s) (omega arith))
      (placed_cons p (take (e - p) (drop p s)) (split line_feed r) (take (index line_feed r) r) _ (split_some line_feed r) ∙ rw piece_end)

  pub from_last : length s ≤ e → lines_from s p ≡ []
  unfolding lines_from placed
  from_last h = rw (split_from line_feed s p e f, lt-leb (e + 1) (length s) (omega arith))

from_past : (s : List ℕ) (p : ℕ) → length s ≤ p → lines_from s p ≡ []
unfolding lines_from placed split
from_past s p h = rw (drop_of_length-le s h)

beginning_so : (w : List ℕ) (l : Line) (ls : List Line) → begins w l.bytes ≡ true → beginning w (l ∷ ls) ≡ l ∷ beginning w ls
unfolding beginning
beginning_so w l ls e = rw (beginning, e)

beginning_other : (w : List ℕ) (l : Line) (ls : List Line) → begins w l.bytes ≡ false → beginning w (l ∷ ls) ≡ beginning w ls
unfolding beginning
beginning_other w l ls e = rw (beginning, e)

module _ (o : Option Line) (s w : List ℕ) (p k : ℕ) (q : o ≡ nth_from s w p k) where
  pub nth_past : length s ≤ p → None ≡ span_of o
  unfolding nth_from beginning
  nth_past h = rw (q, from_past s p h)

  module _ (e : ℕ) (f : Found s p line_feed e) where
    pub nth_unended : length s ≤ e → None ≡ span_of o
    unfolding nth_from beginning
    nth_unended h = rw (q, from_last s p e f h)

    module _ (h : e < length s) (b : Bool) (g : b ≡ begins w (take (e - p) (drop p s))) where
      so : b ≡ true → beginning w (lines_from s p) ≡ piece s p e ∷ beginning w (lines_from s (e + 1))
      unfolding piece
      so t = rw (from_next s p e f h) (beginning_so w (piece s p e) (lines_from s (e + 1)) (sym g ∙ t))

      pub nth_here : b ≡ true → k ≡ 0 → Some (p, e) ≡ span_of o
      unfolding nth_from piece
      nth_here t z = rw (q, z, so t, piece_end s p e f)

      pub nth_more : b ≡ true → (k ≡ 0 → ⊥) → o ≡ nth_from s w (e + 1) (k - 1)
      unfolding nth_from
      nth_more t n =
          let m : k ≡ suc (k - 1) = omega arith in
          q ∙ rw (so t) (ap (λ (j : ℕ). slice_get (piece s p e ∷ beginning w (lines_from s (e + 1))) j) m)

      pub nth_other : b ≡ false → o ≡ nth_from s w (e + 1) k
      unfolding nth_from piece
      nth_other t = q ∙ rw (from_next s p e f h, beginning_other w (piece s p e) (lines_from s (e + 1)) (sym g ∙ t))

pub ruleset nth_laws = (nth_start, nth_past, nth_here, nth_more, nth_other)
