-- What is passed is as it was filled.
use Rattle.std.proofs.Common.{◌≡◌}
use Rattle.cases.specs.Cases.{kept}
use Rattle.cases.proofs.untouched.Given as goal

abbrev pub invariant-loop-i : goal.invariant-loop-i
invariant-loop-i l = kept l.buffer l.from ≡ kept l.buffer l.i
