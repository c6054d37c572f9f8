-- A comma, and the word behind it.
use Rattle.lir.specs.Fields.{field}
use Rattle.lir.proofs.print_word.Goals as goal

pub returns : goal.returns
returns c = field (rw c.requires at c.bytes.ensures)
