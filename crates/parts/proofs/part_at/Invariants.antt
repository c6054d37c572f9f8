use Rattle.parts.proofs.Skips.{Skipping}
use Rattle.parts.proofs.part_at.Given as goal

abbrev pub invariant-loop : goal.invariant-loop
invariant-loop l = Skipping l.stack l.top l.end l.i l.at l.counter
