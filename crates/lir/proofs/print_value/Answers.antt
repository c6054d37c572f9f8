-- The type, and what the value is.
use Rattle.lir.specs.Fields.{value_written}
use Rattle.lir.proofs.print_value.Goals as goal

pub returns : goal.returns
returns g c = value_written _ _ _ c.print_fields.ensures (rw c.requires.behind_comma at c.print_line.ensures)
