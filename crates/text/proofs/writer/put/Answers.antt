-- One byte put, by where it goes.
use native.Mathlib.Omega.{arith}
use Rattle.text.specs.Put.{sat, one_in, one_behind}
use Rattle.text.proofs.writer.put.Goals.{then-at-buf, else-at-buf}
use Rattle.text.proofs.writer.put.Goals as goal

pub returns : goal.returns
unfolding sat
returns c = elim c.if-at-buf.branch [ then-at-buf w ↦ rw w.buf-is (one_in _ _ _ _ (omega arith) c.saturating_add.ensures) | else-at-buf w ↦ rw w.buf-is (one_behind _ _ _ _ (omega arith) c.saturating_add.ensures w.if-at-buf.false) ]
