use mathlib.Core.Path.{◌≡◌}
use Prim.Native.Nat.{◌<◌, ◌^◌}
use Rattle.text.proofs.Positions.{from}
use Rattle.text.specs.Field.{number_at}
use Rattle.text.proofs.number.Given as goal

abbrev pub invariant-loop-end : goal.invariant-loop-end
invariant-loop-end l = (l.value < 2 ^ 64) × (number_at l.text l.at ≡ from l.text l.end l.value)
