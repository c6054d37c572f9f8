use lib.ListN.{take}
use Rattle.text.specs.Writes.{Writes}
use Rattle.text.proofs.writer.Writer.each.Given as goal

abbrev pub invariant-loop-b : goal.invariant-loop-b
invariant-loop-b l = Writes l.initial.self (take l.b-index l.w) l.self
