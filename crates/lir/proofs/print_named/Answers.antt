-- `i` and the word are two parts of what is written as one.
use Rattle.lir.specs.Fields.{kind_written}
use Rattle.lir.proofs.print_named.Goals as goal

pub returns : goal.returns
returns g c = kind_written _ _ (rw c.requires.behind_i at c.print_fields.ensures)
