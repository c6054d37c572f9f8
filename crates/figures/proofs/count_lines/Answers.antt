-- The invariant: the lines before the position are in the columns, and those behind it decide the rest.
use native.Mathlib.Omega.{arith}
use Rattle.figures.proofs.Gathered.{going_over, going_bad, going_more, going_end}
use Rattle.figures.proofs.count_lines.Goals as goal

pub returns-then-line-gt1000 : goal.returns-then-line-gt1000
returns-then-line-gt1000 c = going_over _ _ _ _ c.loop-at.invariant c.loop-at-test.true (omega (arith, c.if-line-gt1000.true))

pub returns-in_default : goal.returns-in_default
returns-in_default c = going_bad _ _ _ _ c.loop-at.invariant (omega (arith, c.if-line-gt1000.false)) c.in_default.ensures

pub loop-at-preserved : goal.loop-at-preserved
loop-at-preserved c = going_more _ _ _ _ c.loop-at.invariant _ _ _ c.in-Some.ensures _ (omega (arith, c.if-line-gt1000.false)) c.add.ensures

pub returns : goal.returns
returns c = going_end _ _ _ _ c.loop-at.invariant c.loop-at-test.false
