-- Text put into a lent slice: what has no room is dropped, and the position behind it stops at 2 ^ 64 - 1.
-- So a printer needs no bound, and one piece behind another is the one piece that both make.
use Rattle.std.specs.Prelude.{◌≡◌, refl, Bool, true, false, List, ◌∷◌, ◌++◌, [], ℕ, suc, ◌+◌, ◌≤◌, ◌<◌, min, ltb, length, set, take, get_or}
use Rattle.std.proofs.Common.{sym, ap, ◌∙◌, arith, add-zero, add-suc, suc-add, add-one, ltb-true, ltb-false, length-append, take-suc, take_all}
use Rattle.std.proofs.lemmas.List.Edits.{sets}
use Rattle.std.proofs.Math.Seq.{length-sets, set_out}

-- the largest position
abbrev pub last : ℕ
last = 18446744073709551615

unfoldable pub sat : ℕ → ℕ
sat n = min n last

-- vs stored from `at` on, as far as there is room, and the position behind them
pub record Put (l : List ℕ) (at : ℕ) (vs : List ℕ) (l' : List ℕ) (r : ℕ) : Type 0 where
  pub text : l' ≡ sets l at vs
  pub next : r ≡ sat (at + length vs)
  pub fits : length l ≤ last

-- ---------------------------------------------------------------- runs of stores

sets_out : (l vs : List ℕ) (i : ℕ) → length l ≤ i → sets l i vs ≡ l
sets_out l [] i h = refl
sets_out l (v ∷ vs) i h = rw (set_out l i v h) (sets_out l vs (suc i) (omega arith))

-- a run of stores is one run after the other
pub sets_append : (l : List ℕ) (i : ℕ) (vs ws : List ℕ) → sets l i (vs ++ ws) ≡ sets (sets l i vs) (i + length vs) ws
sets_append l i [] ws = rw add-zero
sets_append l i (a ∷ vs) ws =
    sets_append (set l i a) (suc i) vs ws ∙ ap (λ (k : ℕ). sets (sets (set l i a) (suc i) vs) k ws) (suc-add i (length vs) ∙ sym (add-suc i (length vs)))

-- ---------------------------------------------------------------- positions

pub sat_below : (n : ℕ) → n ≤ last → sat n ≡ n
unfolding sat
sat_below n h = omega arith

pub sat_above : (n : ℕ) → last ≤ n → sat n ≡ last
unfolding sat
sat_above n h = omega arith

farther : (n m k : ℕ) → k ≡ n + m → sat (sat n + m) ≡ sat k
unfolding sat
farther n m k e = omega arith

-- stores from a position that stopped do what those from the position itself would
stopped : (l ws : List ℕ) (n : ℕ) → length l ≤ last → sets l (sat n) ws ≡ sets l n ws
stopped l ws n h = go (ltb n last) refl
  where
    go : (t : Bool) → ltb n last ≡ t → sets l (sat n) ws ≡ sets l n ws
    go true e = let g = ltb-true n last e in rw (sat_below n (omega arith))
    go false e = let g = ltb-false n last e in rw (sat_above n g) (sets_out l ws last h ∙ sym (sets_out l ws n (omega arith)))

-- ---------------------------------------------------------------- the laws of `Put`

-- one piece, and then another
pub then : {l : List ℕ} {at : ℕ} {vs l1 : List ℕ} {r1 : ℕ} {ws l2 : List ℕ} {r2 : ℕ} → Put l at vs l1 r1 → Put l1 r1 ws l2 r2 → Put l at (vs ++ ws) l2 r2
then {l} {at} {vs} {ws} a b =
    let n = length-sets l at vs in
    record {
      text = b.text ∙ rw (a.text, a.next, sets_append l at vs ws) (stopped (sets l at vs) ws (at + length vs) (rw n a.fits));
      next = b.next ∙ rw a.next (farther (at + length vs) (length ws) (at + length (vs ++ ws)) (omega (arith, length-append vs ws)));
      fits = a.fits;
    }

-- nothing
pub none : (l : List ℕ) (at : ℕ) → length l ≤ last → at ≤ last → Put l at [] l at
none l at h k = record { text = refl; next = rw add-zero (sym (sat_below at k)); fits = h }

-- one byte, where there is room
pub one_in : (l : List ℕ) (at v r : ℕ) → length l ≤ last → r ≡ sat (at + 1) → Put l at (v ∷ []) (set l at v) r
one_in l at v r h e = record { text = refl; next = e; fits = h }

-- one byte, behind the slice's end
pub one_behind : (l : List ℕ) (at v r : ℕ) → length l ≤ last → r ≡ sat (at + 1) → length l ≤ at → Put l at (v ∷ []) l r
one_behind l at v r h e g = record { text = sym (set_out l at v g); next = e; fits = h }

-- ---------------------------------------------------------------- a slice put byte by byte

pub bytes_more : {l : List ℕ} {at : ℕ} {l1 : List ℕ} {p : ℕ} {l2 : List ℕ} {q : ℕ} (w : List ℕ) (i : ℕ) → i < length w
    → Put l at (take i w) l1 p → Put l1 p (get_or w i 0 ∷ []) l2 q → Put l at (take (i + 1) w) l2 q
bytes_more w i h a b = rw (add-one, take-suc w i 0 h) (then a b)

pub bytes_all : {l : List ℕ} {at : ℕ} {l1 : List ℕ} {p : ℕ} (w : List ℕ) (i : ℕ) → length w ≤ i → Put l at (take i w) l1 p → Put l at w l1 p
bytes_all w i h a = rw (take_all i w h) at a
