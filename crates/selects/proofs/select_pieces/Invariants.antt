use Rattle.lir.specs.Abstract.{bit_operand_of}
use Rattle.selects.specs.Selecting.{target_of, count_of}
use Rattle.selects.proofs.Laws.{Rest}
use Rattle.selects.proofs.select_pieces.Given as goal

abbrev pub invariant-loop-i : goal.invariant-loop-i
invariant-loop-i l = Rest (bit_operand_of l.c) (target_of l.to) (count_of l.to) l.initial.out l.initial.left l.initial.right l.i l.out l.left l.right
