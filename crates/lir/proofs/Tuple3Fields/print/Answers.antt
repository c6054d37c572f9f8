-- One behind the other.
use Rattle.lir.specs.Fields.{others}
use Rattle.lir.proofs.Tuple3Fields.print.Goals as goal

pub returns : goal.returns
returns g c = others (others c.print.ensures c.print-2.ensures) c.print-3.ensures
