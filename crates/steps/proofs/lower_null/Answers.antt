-- `steps::lower_null` meets its contract: a constant of two bytes.
use Rattle.reads.specs.Reading.{at_of}
use Rattle.steps.proofs.Laws.{null_meets}
use Rattle.steps.proofs.lower_null.Goals as goal

pub returns : goal.returns
returns c = λ T from l. rw c.constant.ensures (null_meets l T (at_of c.args.h) from)
