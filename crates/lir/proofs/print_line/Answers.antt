-- The word and its fields, and a line feed.
use Rattle.lir.specs.Fields.{whole_line}
use Rattle.lir.proofs.print_line.Goals as goal

pub returns : goal.returns
returns g c = whole_line _ _ c.print_fields.ensures c.put.ensures
