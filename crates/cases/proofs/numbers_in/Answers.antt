-- A number more is one more of the line's.
use Rattle.std.proofs.Common.{arith}
use Rattle.cases.proofs.Laws.{heading_none, heading_more}
use Rattle.cases.proofs.numbers_in.Goals as goal

pub loop-number-init : goal.loop-number-init
loop-number-init g c = heading_none _ _

pub loop-number-preserved : goal.loop-number-preserved
loop-number-preserved g c = heading_more c.loop-number.invariant c.in_ok-value.value c.in_ok-value.next (omega arith) c.in_ok-value.ensures
