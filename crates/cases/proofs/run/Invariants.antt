-- A turn runs one case.
use Rattle.std.proofs.Common.{◌≤◌}
use denote.Param.Always.{always_mut}
use Rattle.cases.proofs.run.Given as goal

abbrev pub invariant-loop : goal.invariant-loop
invariant-loop g l = (always_mut g.F.FnMut l.initial.next → always_mut g.F.FnMut l.next) × (l.tally.ran ≤ l.counter) × (l.tally.failed ≤ l.tally.ran)
