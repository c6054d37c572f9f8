use borrow.Author.Rules.{rules}
use native.Mathlib.Omega.{arith}
use Rattle.fields.proofs.OnePass.{digits_none, digits_next}
use Rattle.fields.proofs.quick.Goals as goal

pub loop-i-init : goal.loop-i-init
loop-i-init c = digits_none _ _ c.requires

pub loop-i-preserved : goal.loop-i-preserved
loop-i-preserved c = rw c.from.ensures (digits_next _ _ _ _ c.loop-i.invariant (search rules) (search rules) (search rules) (omega arith))
