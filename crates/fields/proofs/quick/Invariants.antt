use Rattle.fields.specs.Fields.{Digits}
use Rattle.fields.proofs.quick.Given as goal

abbrev pub invariant-loop-i : goal.invariant-loop-i
invariant-loop-i l = Digits l.line l.at l.i l.value
