-- Raised limits: only a ticket that was refused 8 or 10 has another answer.
use Prim.Native.Nat.{ℕ, suc, ◌+◌, ◌≤◌}
use mathlib.Core.Bool.{Bool, true, false}
use mathlib.Core.List.{List, [], ◌∷◌}
use Rattle.std.specs.Prelude.{Option, None, Some}
use mathlib.Core.Path.{◌≡◌, refl}
use native.Mathlib.Omega.{arith}
use borrow.Author.Tests.{ltb-true, leb-true, lt-ltb, le-leb}
use lib.Dec.{leb}
use lib.ListN.{length}
use Rattle.spec.specs.Text.{split, line_feed}
use Rattle.spec.specs.Limits.{text_limit, place_lines, node_lines, size_sum_limit, weight_sum_limit}
use Rattle.spec.specs.Ticket.{Tables}
use Rattle.spec.specs.Forms.{Head, f_line, s_line, v_line, g_line, t_line, p_line, n_line, Line, line_of, values}
use Rattle.spec.specs.Read as reading
use Rattle.spec.specs.Read.{Reading, Read, stop, go, Test, test, first_failed, StepBy, start}
use Rattle.spec.specs.Answer as answers
use Rattle.spec.specs.Answer.{Answer, of_reading}
use Rattle.spec.specs.Before as before
use Rattle.spec.specs.Before.{Limits, document_01}
use Rattle.spec.proofs.Bools.{and_left, and_right, and_true}

-- ---------------------------------------------------------------- the tests of a line

-- a refusal before and after: the same, or 8 or 10 before
data Raised : Option ℕ → Option ℕ → Type 0 where
  as_before : {x : Option ℕ} → Raised x x
  was_8 : {x : Option ℕ} → Raised (Some 8) x
  was_10 : {x : Option ℕ} → Raised (Some 10) x

-- the same tests, but that 8 and 10 pass more
data Looser : List Test → List Test → Type 0 where
  no_test : Looser [] []
  same_test : {t : Test} {ts us : List Test} → Looser ts us → Looser (t ∷ ts) (t ∷ us)
  looser_8 : {b c : Bool} {ts us : List Test} → (b ≡ true → c ≡ true) → Looser ts us → Looser (test 8 b ∷ ts) (test 8 c ∷ us)
  looser_10 : {b c : Bool} {ts us : List Test} → (b ≡ true → c ≡ true) → Looser ts us → Looser (test 10 b ∷ ts) (test 10 c ∷ us)

looser : {ts us : List Test} → Looser ts us → Raised (first_failed ts) (first_failed us)
unfolding first_failed
looser no_test = as_before
looser (same_test {t = t} {ts} {us} k) = by t.passes (looser k)
  where
    by : (b : Bool) → Raised (first_failed ts) (first_failed us)
        → Raised (elim b [ true ↦ first_failed ts | false ↦ Some t.refusal ]) (elim b [ true ↦ first_failed us | false ↦ Some t.refusal ])
    by true r = r
    by false r = as_before
looser (looser_8 {b = true} {ts = ts} {us} p k) = rw (p refl, first_failed) (looser k)
looser (looser_8 {b = false} p k) = was_8
looser (looser_10 {b = true} {ts = ts} {us} p k) = rw (p refl, first_failed) (looser k)
looser (looser_10 {b = false} p k) = was_10

-- ---------------------------------------------------------------- a line, a text

-- an answer of reading before and after
pub data RaisedRead : Read → Read → Type 0 where
  read_as_before : {r : Read} → RaisedRead r r
  read_was_8 : {l : ℕ} {r : Read} → RaisedRead (reading.refused 8 l) r
  read_was_10 : {l : ℕ} {r : Read} → RaisedRead (reading.refused 10 l) r

pub record NoMore (L : Limits) : Type 0 where
  pub places : L.places ≤ place_lines
  pub nodes : L.nodes ≤ node_lines
  pub sizes : L.sizes ≤ size_sum_limit
  pub weights : L.weights ≤ weight_sum_limit

module _ (L : Limits) (H : NoMore L) where
  more_lines : (T : Tables) (h : Head) → before.few_enough L T h ≡ true → reading.few_enough T h ≡ true
  more_lines T f_line e = e
  more_lines T (t_line w) e = e
  more_lines T s_line e = e
  more_lines T v_line e = e
  more_lines T g_line e = e
  more_lines T (p_line w) e = let p = ltb-true (length T.places) L.places e in lt-ltb (length T.places) place_lines (omega (arith, H.places))
  more_lines T (n_line w) e = let p = ltb-true (length T.nodes) L.nodes e in lt-ltb (length T.nodes) node_lines (omega (arith, H.nodes))

  more_sums : (R : Reading) (h : Head) (xs : List ℕ) → before.sums_fit L R h xs ≡ true → reading.sums_fit R h xs ≡ true
  more_sums R h xs e =
      let s : ℕ = R.sizes + reading.own_size R.tables h xs in
      let w : ℕ = R.weights + reading.own_weight R.tables h xs in
      let p = leb-true s L.sizes (and_left (leb s L.sizes) (leb w L.weights) e) in
      let q = leb-true w L.weights (and_right (leb s L.sizes) (leb w L.weights) e) in
      and_true (le-leb s size_sum_limit (omega (arith, H.sizes))) (le-leb w weight_sum_limit (omega (arith, H.weights)))

  refusal_raised : (R : Reading) (l : Line) → Raised (before.refusal_of L R l) (reading.refusal_of R l)
  unfolding before.refusal_of reading.refusal_of
  refusal_raised R l = looser (
      same_test (
      looser_8 (more_lines R.tables l.head) (
      same_test (same_test (same_test (same_test (same_test (same_test (
      looser_10 (more_sums R l.head (values l.args)) no_test)))))))))

  -- the same of these lines from any state on
  abbrev Later : List (List ℕ) → Type 0
  Later ls = (R : Reading) → RaisedRead (before.read_lines L ls R) (reading.read_lines ls R)

  lines_raised : (ls : List (List ℕ)) (R : Reading) → RaisedRead (before.read_lines L ls R) (reading.read_lines ls R)
  unfolding before.read_lines reading.read_lines before.step reading.step
  lines_raised [] R = read_as_before
  lines_raised (l ∷ []) R = read_as_before
  lines_raised (l ∷ m ∷ ls) R = by (line_of l) (λ R'. lines_raised (m ∷ ls) R')
    where
      after : (k : Line) (x y : Option ℕ) → Raised x y → Later (m ∷ ls)
          → RaisedRead (elim (StepBy R k x) [ stop n ↦ reading.refused n (suc R.lines) | go R' ↦ before.read_lines L (m ∷ ls) R' ])
          (elim (StepBy R k y) [ stop n ↦ reading.refused n (suc R.lines) | go R' ↦ reading.read_lines (m ∷ ls) R' ])
      after k None y as_before later = later (reading.add R k)
      after k (Some n) y as_before later = read_as_before
      after k x y was_8 later = read_was_8
      after k x y was_10 later = read_was_10

      by : (o : Option Line) → Later (m ∷ ls)
          → RaisedRead (elim (before.step L R o) [ stop n ↦ reading.refused n (suc R.lines) | go R' ↦ before.read_lines L (m ∷ ls) R' ])
          (elim (reading.step R o) [ stop n ↦ reading.refused n (suc R.lines) | go R' ↦ reading.read_lines (m ∷ ls) R' ])
      by None later = read_as_before
      by (Some k) later = after k (before.refusal_of L R k) (reading.refusal_of R k) (refusal_raised R k) later

  pub reading_raised : (s : List ℕ) → RaisedRead (before.read_ticket L s) (reading.read_ticket s)
  unfolding before.read_ticket reading.read_ticket
  reading_raised s = by (leb (length s) text_limit)
    where
      by : (b : Bool) → RaisedRead (elim b [ true ↦ before.read_lines L (split line_feed s) start | false ↦ reading.refused 1 0 ])
          (elim b [ true ↦ reading.read_lines (split line_feed s) start | false ↦ reading.refused 1 0 ])
      by true = lines_raised (split line_feed s) start
      by false = read_as_before

-- ---------------------------------------------------------------- the answer

-- an answer before and after
pub data RaisedAnswer : Answer → Answer → Type 0 where
  answered_as_before : {a : Answer} → RaisedAnswer a a
  answered_8 : {l : ℕ} {a : Answer} → RaisedAnswer (answers.refused 8 l) a
  answered_10 : {l : ℕ} {a : Answer} → RaisedAnswer (answers.refused 10 l) a

-- only tickets once refused 8 or 10 may change their answer
pub only_8_and_10 : (L : Limits) → NoMore L → (ticket : List ℕ) (room : ℕ) → RaisedAnswer (before.answer L ticket room) (answers.answer ticket room)
unfolding before.answer answers.answer of_reading
only_8_and_10 L H ticket room = by (reading_raised L H ticket)
  where
    by : {r r' : Read} → RaisedRead r r' → RaisedAnswer (of_reading room r) (of_reading room r')
    by read_as_before = answered_as_before
    by read_was_8 = answered_8
    by read_was_10 = answered_10

pub since_document_01 : (ticket : List ℕ) (room : ℕ) → RaisedAnswer (before.answer document_01 ticket room) (answers.answer ticket room)
since_document_01 = only_8_and_10 document_01 (record { places = omega arith; nodes = omega arith; sizes = omega arith; weights = omega arith })

-- document 02's numbers
pub the_limits : (place_lines ≡ 1024) × (node_lines ≡ 1024) × (size_sum_limit ≡ 8192) × (weight_sum_limit ≡ 8192)
the_limits = (refl, refl, refl, refl)
