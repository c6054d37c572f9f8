-- The bytes given so far stand in front of the line, and no line feed is among them.
use Rattle.cases.proofs.Laws.{Taking}
use Rattle.cases.proofs.read_line.Given as goal

abbrev pub invariant-loop-n : goal.invariant-loop-n
invariant-loop-n g l = Taking (g.R.Read.remaining l.initial.reader) (g.R.Read.remaining l.reader) l.line l.n
