use mathlib.Core.Path.{◌≡◌}
use Prim.Native.Nat.{◌+◌}
use lib.ListN.{drop}
use Rattle.fields.specs.Fields.{index}
use Rattle.fields.proofs.find.Given as goal

abbrev pub invariant-loop-i : goal.invariant-loop-i
invariant-loop-i l = l.from + index l.b (drop l.from l.s) ≡ l.i + index l.b (drop l.i l.s)
