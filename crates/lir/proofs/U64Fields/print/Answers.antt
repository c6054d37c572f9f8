-- A comma and the digits.
use Rattle.lir.specs.Fields.{field}
use Rattle.lir.proofs.U64Fields.print.Goals as goal

pub returns : goal.returns
returns c = field c.field.ensures
