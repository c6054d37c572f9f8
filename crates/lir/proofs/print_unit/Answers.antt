-- The type, and what the value is.
use Rattle.spec.specs.Text.{fields, line}
use Rattle.lir.specs.Fields.{value_written}
use Rattle.lir.proofs.print_unit.Goals as goal

pub returns : goal.returns
unfolding fields line
returns c = value_written _ _ _ c.print_fields.ensures c.bytes.ensures
