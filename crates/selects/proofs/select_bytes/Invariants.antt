use Rattle.lir.specs.Abstract.{tab, bit_operand_of}
use Rattle.emission.specs.Emits.{Emits}
use Rattle.selects.specs.Selecting.{byte_selected}
use Rattle.selects.proofs.select_bytes.Given as goal

abbrev pub invariant-loop-i : goal.invariant-loop-i
invariant-loop-i l = Emits l.initial.out (tab (byte_selected l.to.0 (bit_operand_of l.c) l.t l.f) 0 l.i) l.out
