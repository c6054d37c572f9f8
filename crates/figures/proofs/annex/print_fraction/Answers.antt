-- Both parts divided by the greatest common divisor, which is not 0.
use native.Mathlib.Omega.{arith}
use Rattle.text.specs.Writes.{writes_then}
use Rattle.figures.proofs.Lowest.{gcd_positive}
use Rattle.figures.proofs.Printing.{fraction_is}
use Rattle.figures.proofs.annex.print_fraction.Goals as goal

pub nonzero_div-a : goal.nonzero_div-a
nonzero_div-a c = rw c.gcd-g.ensures (gcd_positive _ _ (omega arith))

pub nonzero_div-b : goal.nonzero_div-b
nonzero_div-b c = rw c.gcd-g.ensures (gcd_positive _ _ (omega arith))

pub returns : goal.returns
returns c = rw (fraction_is c.args.a c.args.b _ c.gcd-g.ensures) (writes_then c.print_field.ensures (writes_then c.put.ensures c.number.ensures))
