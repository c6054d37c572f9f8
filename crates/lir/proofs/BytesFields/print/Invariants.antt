use Rattle.spec.specs.Print.{byte_operand}
use Rattle.lir.specs.Abstract.{byte_at}
use Rattle.lir.specs.Fields.{WritesFields, items}
use Rattle.lir.proofs.BytesFields.print.Given as goal

abbrev pub invariant-loop-i : goal.invariant-loop-i
invariant-loop-i l = WritesFields l.fn.w (items byte_operand (byte_at l.self) l.self.total l.i) l.w
