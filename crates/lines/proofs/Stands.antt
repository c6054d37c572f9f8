-- Each line stands in its text, its line feed behind it; so the part from its start to its end can be handed back.
use mathlib.Core.Path.{◌≡◌, refl, sym, ◌∙◌}
use mathlib.Core.Bool.{Bool, true, false}
use mathlib.Core.List.{List, ◌∷◌, []}
use Rattle.std.specs.Prelude.{Some, slice_get}
use Prim.Native.Nat.{ℕ, zero, suc, ◌+◌, ◌-◌, ◌≤◌, ◌<◌}
use native.Mathlib.Omega.{arith}
use lib.Dec.{eqb, ltb}
use lib.ListN.{length, take, drop, get_or, length-drop}
use lib.Seq.{get_or-drop}
use borrow.Author.Tests.{ltb-true, ltb-false, eqb-true}
use Rattle.spec.specs.Text.{line_feed}
use Rattle.fields.specs.Fields.{Found, index}
use Rattle.fields.proofs.Marks.{index_most}
use Rattle.lines.specs.Lines.{Line, lines, begins, beginning, nth_line}
use Rattle.lines.proofs.Laws.{lines_from, from_next, from_last, piece, piece_end}

-- the line l of the text s: its bytes, and the line feed behind them
pub record Stands (s : List ℕ) (l : Line) : Type 0 where
  pub within : l.from + length l.bytes < length s
  pub bytes : take (length l.bytes) (drop l.from s) ≡ l.bytes
  pub feed : get_or s (l.from + length l.bytes) 0 ≡ line_feed

abbrev AllStand : List ℕ → List Line → Type 0
AllStand s [] = Unit {0}
AllStand s (l ∷ ls) = Stands s l × AllStand s ls

index_at : (b : ℕ) (s : List ℕ) → index b s < length s → get_or s (index b s) 0 ≡ b
unfolding index
index_at b [] h = absurd (omega arith)
index_at b (x ∷ xs) h = by (eqb x b) refl (index_at b xs)
  where
    by : (t : Bool) → eqb x b ≡ t → (index b xs < length xs → get_or xs (index b xs) 0 ≡ b) → get_or (x ∷ xs) (index b (x ∷ xs)) 0 ≡ b
    by true e ih = rw (index, e) (eqb-true x b e)
    by false e ih = let g : suc (index b xs) < suc (length xs) = rw (index, e) at h in rw (index, e) (ih (omega arith))

module _ (s : List ℕ) (p : ℕ) (h : p ≤ length s) where
  feed_at : ℕ
  feed_at = p + index line_feed (drop p s)

  found : Found s p line_feed feed_at
  unfolding feed_at
  found = record { low = omega arith; high = omega (arith, index_most line_feed (drop p s), length-drop p s); here = refl }

  piece_stands : feed_at < length s → Stands s (piece s p feed_at)
  unfolding feed_at piece
  piece_stands g =
      let e = feed_at in
      let n = piece_end s p e found in
      let m : length (take (e - p) (drop p s)) ≡ e - p = omega arith in
      record {
        within = omega arith;
        bytes = rw m;
        feed = rw n (sym (get_or-drop p s (index line_feed (drop p s)) 0) ∙ index_at line_feed (drop p s) (omega (arith, length-drop p s)));
      }

stand_from : (n : ℕ) (s : List ℕ) (p : ℕ) → p ≤ length s → length s < p + n → AllStand s (lines_from s p)
stand_from zero s p h g = absurd (omega arith)
stand_from (suc n) s p h g = by (ltb e (length s)) refl (stand_from n s (e + 1))
  where
    e : ℕ
    e = feed_at s p h

    by : (t : Bool) → ltb e (length s) ≡ t → (e + 1 ≤ length s → length s < e + 1 + n → AllStand s (lines_from s (e + 1))) → AllStand s (lines_from s p)
    by true q ih =
        let l = ltb-true e (length s) q in
        rw (from_next s p e (found s p h) l) (piece_stands s p h l, ih (omega arith) (omega (arith, (found s p h).low)))
    by false q ih = rw (from_last s p e (found s p h) (ltb-false e (length s) q)) tt

stand_beginning : (s w : List ℕ) (ls : List Line) → AllStand s ls → AllStand s (beginning w ls)
unfolding beginning
stand_beginning s w [] a = tt
stand_beginning s w (l ∷ ls) a = by (begins w l.bytes) refl (stand_beginning s w ls a.1)
  where
    by : (t : Bool) → begins w l.bytes ≡ t → AllStand s (beginning w ls) → AllStand s (beginning w (l ∷ ls))
    by true e r = rw (beginning, e) (a.0, r)
    by false e r = rw (beginning, e) r

stand_at : (s : List ℕ) (ls : List Line) (k : ℕ) (l : Line) → AllStand s ls → slice_get ls k ≡ Some l → Stands s l
stand_at s [] k l a e = cc
stand_at s (m ∷ ls) zero l a e = let q : m ≡ l = cc in rw q at a.0
stand_at s (m ∷ ls) (suc k) l a e = stand_at s ls k l a.1 e

-- the k-th line that begins with w stands in its text
pub nth_stands : (s w : List ℕ) (k : ℕ) (l : Line) → nth_line s w k ≡ Some l → Stands s l
unfolding nth_line lines lines_from
nth_stands s w k l e = stand_at s (beginning w (lines s)) k l (stand_beginning s w (lines s) (stand_from (length s + 1) s 0 (omega arith) (omega arith))) e
