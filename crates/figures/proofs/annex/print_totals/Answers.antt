-- The fields one behind the other; no product is too large, and no difference below 0.
use Rattle.text.specs.Writes.{writes_then}
use Rattle.figures.specs.Totals.{figures_of, range_of, moments_of}
use Rattle.figures.proofs.annex.print_totals.Goals as goal

pub returns : goal.returns
unfolding figures_of range_of moments_of
returns c =
    writes_then (writes_then (writes_then c.number.ensures c.print_field.ensures) c.print_field-2.ensures)
    (writes_then (writes_then c.print_fraction.ensures c.print_fraction-2.ensures) c.put.ensures)
