-- One behind the other.
use Rattle.lir.specs.Fields.{others}
use Rattle.lir.proofs.Tuple2Fields.print.Goals as goal

pub returns : goal.returns
returns g c = others c.print.ensures c.print-2.ensures
