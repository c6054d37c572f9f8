-- Euclid's algorithm: the invariant is that the greatest common divisor stays the same.
use mathlib.Core.Path.{sym, ◌∙◌}
use Rattle.figures.proofs.Lowest.{gcd_end, gcd_next}
use Rattle.figures.proofs.annex.gcd.Goals as goal

pub loop-y-preserved : goal.loop-y-preserved
loop-y-preserved c = sym (gcd_next c.loop-y.x c.loop-y.y c.loop-y-test.true) ∙ c.loop-y.invariant

pub returns : goal.returns
returns c = sym (gcd_end c.loop-y.x c.loop-y.y c.loop-y-test.false) ∙ c.loop-y.invariant
