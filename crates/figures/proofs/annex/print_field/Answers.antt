-- A comma, and the digits.
use Rattle.text.specs.Writes.{writes_then}
use Rattle.figures.proofs.annex.print_field.Goals as goal

pub returns : goal.returns
returns c = writes_then c.put.ensures c.number.ensures
