use Prim.Native.Nat.{◌-◌}
use lib.ListN.{length}
use Rattle.figures.proofs.Gathered.{Going}
use Rattle.figures.proofs.count_lines.Given as goal

abbrev pub invariant-loop-at : goal.invariant-loop-at
invariant-loop-at l = Going l.text l.columns l.line l.at

abbrev pub decreases-loop-at : goal.decreases-loop-at
decreases-loop-at l = length l.text - l.at
