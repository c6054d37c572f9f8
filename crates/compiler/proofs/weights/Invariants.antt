use Rattle.compiler.proofs.Laws.{Summed}
use Rattle.compiler.proofs.weights.Given as goal

abbrev pub invariant-loop-k : goal.invariant-loop-k
invariant-loop-k l = Summed l.tables.lines.rows.now l.tables.lines.lists.now l.tables.lines.counts l.sum l.k
