-- The invariant: the bytes passed are put.
use native.Mathlib.Omega.{arith}
use mathlib.Core.Path.{◌∙◌}
use Rattle.text.specs.Put.{bytes_more}
use Rattle.text.specs.Writes.{writes_none}
use Rattle.text.proofs.writer.Writer.each.Goals as goal

pub loop-b-init : goal.loop-b-init
loop-b-init c = writes_none _ (omega arith) (omega arith)

pub loop-b-preserved : goal.loop-b-preserved
loop-b-preserved c = record { put = bytes_more c.args.w.now c.loop-b.b-index (omega arith) c.loop-b.invariant.put c.put.ensures.put; same = c.put.ensures.same ∙ c.loop-b.invariant.same }
