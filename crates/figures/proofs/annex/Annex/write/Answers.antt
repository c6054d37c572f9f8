-- The length is known before a byte is written.
use native.Mathlib.Omega.{arith}
use Rattle.figures.proofs.Printing.{too_long, fits}
use Rattle.figures.proofs.annex.Annex.write.Goals as goal

pub returns-then-buffer-end : goal.returns-then-buffer-end
returns-then-buffer-end c = too_long _ _ _ c.put-end.ensures.next (omega (arith, c.if-buffer-end.true))

pub returns : goal.returns
returns c = fits _ _ _ c.put-end.ensures.next (omega (arith, c.if-buffer-end.false)) (omega arith) c.put.ensures
