-- One line more in both columns.
use Rattle.figures.specs.Totals.{with_line}
use Rattle.figures.proofs.Columns.add.Goals as goal

pub returns : goal.returns
unfolding with_line
returns c = rw (c.add.ensures, c.add-2.ensures)
