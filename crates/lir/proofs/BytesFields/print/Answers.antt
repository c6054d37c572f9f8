-- The count and each operand so far are written.
use Rattle.std.proofs.Common.{◌≡◌, arith}
use Rattle.spec.specs.Print.{byte_operand}
use Rattle.lir.specs.Abstract.{byte_at}
use Rattle.lir.specs.Fields.{others, items_none, items_more, operands_all}
use Rattle.lir.proofs.BytesFields.print.Goals as goal

pub loop-i-init : goal.loop-i-init
loop-i-init c = rw (items_none byte_operand (byte_at c.args.self) c.args.self.total) c.print.ensures

pub loop-i-preserved : goal.loop-i-preserved
loop-i-preserved c = rw (items_more byte_operand (byte_at c.args.self) c.args.self.total c.loop-i.i) (others c.loop-i.invariant (rw c.byte_at.ensures at c.print_operand.ensures))

pub returns : goal.returns
returns c = let e : c.loop-i.i ≡ c.args.self.total = omega arith in rw (e, operands_all c.args.self) at c.loop-i.invariant
