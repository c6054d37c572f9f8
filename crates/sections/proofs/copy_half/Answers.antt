-- The first i bytes are the same.
use Prim.Native.Nat.{ℕ, ◌+◌, ◌<◌}
use mathlib.Core.Path.{◌≡◌, refl, sym, ◌∙◌}
use mathlib.Core.List.{List}
use native.Mathlib.Omega.{arith}
use native.Mathlib.Numerals.{add-one}
use lib.ListN.{length, take, set, get_or, length-set}
use lib.Seq.{take_all, take-suc, take-suc-set}
use Rattle.sections.proofs.copy_half.Goals as goal

one_more : (from to : List ℕ) (i : ℕ) → length to ≡ length from → i < length from → take i to ≡ take i from → take (i + 1) (set to i (get_or from i 0)) ≡ take (i + 1) from
one_more from to i e h same =
    let k : i < length to = omega arith in
    rw (add-one, take-suc-set to i (get_or from i 0) k, take-suc from i 0 h, same)

pub loop-i-init : goal.loop-i-init
loop-i-init c = (c.requires, refl)

pub loop-i-preserved : goal.loop-i-preserved
loop-i-preserved c =
    let l = c.loop-i in
    let from = c.args.from.now in
    (length-set l.to l.i (get_or from l.i 0) ∙ l.invariant.0, one_more from l.to l.i l.invariant.0 (omega arith) l.invariant.1)

pub returns : goal.returns
returns c =
    let l = c.loop-i in
    sym (take_all l.i l.to (omega arith)) ∙ l.invariant.1 ∙ take_all l.i c.args.from.now (omega arith)
