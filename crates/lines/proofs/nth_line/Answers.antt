-- The loop's invariant: the line asked for is the one of those from here on that `left` more precede.
use native.Mathlib.Omega.{arith}
use mathlib.Core.Path.{◌∙◌}
use Rattle.lines.proofs.Laws.{begins_is, nth_unended, nth_here, nth_more, nth_other}
use Rattle.lines.proofs.nth_line.Goals as goal
use Rattle.lines.proofs.nth_line.Goals.{then-starts_with+else-left-eq0, else-starts_with}

pub returns-then-text-end : goal.returns-then-text-end
returns-then-text-end c = nth_unended _ _ _ _ _ c.loop-at.invariant.1 _ c.find-end.ensures (omega arith)

pub returns-then-left-eq0 : goal.returns-then-left-eq0
returns-then-left-eq0 c = nth_here _ _ _ _ _ c.loop-at.invariant.1 _ c.find-end.ensures (omega arith) _ (c.starts_with.ensures.value ∙ begins_is _ _) c.if-starts_with.true c.if-left-eq0.true

pub loop-at-preserved : goal.loop-at-preserved
loop-at-preserved c = elim c.if-starts_with.branch [
  | then-starts_with+else-left-eq0 w ↦ (omega (arith, c.find-end.ensures.high), rw w.left-is (nth_more _ _ _ _ _ c.loop-at.invariant.1 _ c.find-end.ensures (omega arith) _ (c.starts_with.ensures.value ∙ begins_is _ _) w.if-starts_with.true w.if-left-eq0.false))
  | else-starts_with w ↦ (omega (arith, c.find-end.ensures.high), rw w.left-is (nth_other _ _ _ _ _ c.loop-at.invariant.1 _ c.find-end.ensures (omega arith) _ (c.starts_with.ensures.value ∙ begins_is _ _) w.if-starts_with.false))
]
