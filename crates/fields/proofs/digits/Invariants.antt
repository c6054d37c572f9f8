use mathlib.Core.Path.{◌≡◌}
use Prim.Native.Nat.{◌<◌, ◌^◌}
use lib.ListN.{drop}
use Rattle.fields.specs.Fields.{digits_from}
use Rattle.fields.proofs.digits.Given as goal

abbrev pub invariant-loop-byte : goal.invariant-loop-byte
invariant-loop-byte l = (l.value < 2 ^ 64) × (digits_from 0 l.field ≡ digits_from l.value (drop l.byte-index l.field))
