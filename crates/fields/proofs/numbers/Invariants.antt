use Prim.Native.Nat.{◌+◌, ◌-◌}
use lib.ListN.{length}
use Rattle.fields.proofs.Lines.{Gone}
use Rattle.fields.proofs.numbers.Given as goal

abbrev pub invariant-loop-from : goal.invariant-loop-from
invariant-loop-from l = Gone l.line l.initial.lists l.used l.at l.lists l.n l.from

abbrev pub decreases-loop-from : goal.decreases-loop-from
decreases-loop-from l = length l.line + 1 - l.n
