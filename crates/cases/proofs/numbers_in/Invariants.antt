-- As many numbers are read as stand in front.
use Rattle.cases.proofs.Laws.{Heading}
use Rattle.cases.proofs.numbers_in.Given as goal

abbrev pub invariant-loop-number : goal.invariant-loop-number
invariant-loop-number g l = Heading l.line l.number-items g.row.N l.number-index l.at
