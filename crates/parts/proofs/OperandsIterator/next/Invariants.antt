use Rattle.std.specs.Prelude.{◌≡◌, length}
use Rattle.parts.specs.Operands.{Ready, left_operands}
use Rattle.parts.proofs.OperandsIterator.next.Given as goal

abbrev pub invariant-loop-operand : goal.invariant-loop-operand
invariant-loop-operand l =
    let o = l.self-inside in
    Ready o.value o.records.now × (left_operands o.value o.index o.records.now ≡ l.fn.self)

abbrev pub decreases-loop-operand : goal.decreases-loop-operand
decreases-loop-operand l = length l.self-inside.records.now
