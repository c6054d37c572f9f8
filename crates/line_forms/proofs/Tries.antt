-- Where each word of a kind of line stands among the words.
use mathlib.Core.Path.{◌≡◌, ap, ◌∙◌}
use mathlib.Core.Bool.{Bool, true, false, ◌&&◌}
use mathlib.Core.List.{List, ◌∷◌, []}
use Rattle.std.specs.Prelude.{Option, None, Some}
use Prim.Native.Nat.{ℕ, zero, suc, ◌+◌, ◌-◌, ◌<◌}
use native.Mathlib.Omega.{arith}
use lib.Dec.{eqb}
use lib.ListN.{length, get_or, take, drop}
use borrow.Author.Tests.{eqb-true}
use Rattle.spec.specs.Text.{split, comma}
use Rattle.fields.specs.Fields.{position}
use Rattle.fields.proofs.Lines.{both_true}
use Rattle.line_forms.specs.Rules.{AllTried}
use Rattle.line_forms.specs.declared.Words.{Words}

unfoldable pub is_place : Option ℕ → ℕ → Bool
is_place None k = false
is_place (Some j) k = eqb j k

-- the words of the spans are those from the k-th on
unfoldable pub spans_right : List ℕ → ℕ → List (ℕ × ℕ) → Bool
spans_right vs k [] = true
spans_right vs k (p ∷ ps) = is_place (position (take (p.1 - p.0) (drop p.0 vs)) (split comma vs)) k && spans_right vs (suc k) ps

place_is : (o : Option ℕ) (k : ℕ) → is_place o k ≡ true → o ≡ Some k
unfolding is_place
place_is None k e = cc
place_is (Some j) k e = ap (λ (x : ℕ). Some x) (eqb-true j k e)

right_at : (vs : List ℕ) (j : ℕ) (ps : List (ℕ × ℕ)) → spans_right vs j ps ≡ true → (i : ℕ) → i < length ps
    → position (take ((get_or ps i (0, 0)).1 - (get_or ps i (0, 0)).0) (drop (get_or ps i (0, 0)).0 vs)) (split comma vs) ≡ Some (j + i)
unfolding spans_right
right_at vs j [] e i h = absurd (omega arith)
right_at vs j (p ∷ ps) e zero h =
    let t = both_true (is_place (position (take (p.1 - p.0) (drop p.0 vs)) (split comma vs)) j) (spans_right vs (suc j) ps) e in
    let z : j ≡ j + 0 = omega arith in
    place_is (position (take (p.1 - p.0) (drop p.0 vs)) (split comma vs)) j t.0 ∙ ap (λ (x : ℕ). Some x) z
right_at vs j (p ∷ ps) e (suc i) h =
    let t = both_true (is_place (position (take (p.1 - p.0) (drop p.0 vs)) (split comma vs)) j) (spans_right vs (suc j) ps) e in
    let z : suc j + i ≡ j + suc i = omega arith in
    right_at vs (suc j) ps t.1 i (omega arith) ∙ ap (λ (x : ℕ). Some x) z

pub all_tried : (ws : Words) → spans_right ws.all.now 0 ws.spans.now ≡ true → AllTried ws
all_tried ws e = record { at = λ k h. record { place = λ a b. let z : 0 + k ≡ k = omega arith in right_at ws.all.now 0 ws.spans.now e k h ∙ ap (λ (x : ℕ). Some x) z } }
