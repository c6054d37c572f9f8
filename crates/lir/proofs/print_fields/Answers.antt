-- The word, and then the fields.
use Rattle.text.specs.Writes.{writes_then}
use Rattle.lir.proofs.print_fields.Goals as goal

pub returns : goal.returns
returns g c = writes_then c.bytes.ensures c.print.ensures.written
