use Rattle.std.proofs.Common.{◌≡◌, ◌<◌, drop}
use Rattle.line_checks.specs.Keys.{key_from, key_of}
use Rattle.line_checks.proofs.keys.key.Given as goal

abbrev pub invariant-loop-x : goal.invariant-loop-x
invariant-loop-x l = (l.h < 4294967296) × (key_of l.fn.word l.numbers ≡ key_from l.h (drop l.x-index l.numbers))
