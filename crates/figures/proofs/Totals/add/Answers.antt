-- One number more in a column.
use Rattle.figures.specs.Totals.{with_number}
use Rattle.figures.proofs.Totals.add.Goals as goal

pub returns : goal.returns
unfolding with_number
returns c = rw (c.min-self.ensures, c.max-self.ensures)
