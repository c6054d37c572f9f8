use Rattle.line_checks.proofs.MeasureLaws.{alike_here, alike_next, alike_end}
use Rattle.line_checks.proofs.measures.alike.Goals as goal

pub returns-then-alike_row : goal.returns-then-alike_row
returns-then-alike_row c = alike_here _ _ _ _ _ _ _ c.loop-k.invariant _ c.loop-k-test.true c.alike_row.ensures c.if-alike_row.true

pub loop-k-preserved : goal.loop-k-preserved
loop-k-preserved c = alike_next _ _ _ _ _ _ _ c.loop-k.invariant _ c.loop-k-test.true c.alike_row.ensures c.if-alike_row.false

pub returns : goal.returns
returns c = alike_end _ _ _ _ _ _ _ c.loop-k.invariant c.loop-k-test.false
