-- A line up to its line feed, and where the next begins.
use native.Mathlib.Omega.{arith}
use Rattle.figures.proofs.Lines.{step_unended, step_done, step_malformed}
use Rattle.figures.proofs.next_line.Goals as goal

pub returns-then-text-end : goal.returns-then-text-end
returns-then-text-end c = step_unended _ _ _ c.find-end.ensures c.requires (omega (arith, c.if-text-end.true))

pub returns-in_err-instructions : goal.returns-in_err-instructions
returns-in_err-instructions c = rw c.from_residual.ensures (step_malformed _ _ _ c.find-end.ensures (omega (arith, c.if-text-end.false)) c.in_err-instructions.ensures)

pub returns : goal.returns
returns c = step_done _ _ _ c.find-end.ensures (omega (arith, c.if-text-end.false)) _ _ c.in_ok-instructions.ensures
