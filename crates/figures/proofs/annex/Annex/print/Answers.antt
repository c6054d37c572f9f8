-- The line for instructions, and then the one for new storages.
use Rattle.text.specs.Writes.{writes_then}
use Rattle.figures.specs.Totals.{printed}
use Rattle.figures.proofs.annex.Annex.print.Goals as goal

pub returns : goal.returns
unfolding printed
returns c = writes_then c.print_totals.ensures c.print_totals-2.ensures
