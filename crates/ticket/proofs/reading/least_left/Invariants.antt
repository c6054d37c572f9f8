use Rattle.std.proofs.Common.{◌≡◌, ◌-◌}
use Rattle.ticket.specs.Answers.{least_rows}
use Rattle.ticket.proofs.reading.least_left.Given as goal

abbrev pub invariant-loop-k : goal.invariant-loop-k
invariant-loop-k l = l.least ≡ least_rows l.rows l.base l.k (l.n - l.k) l.initial.least
