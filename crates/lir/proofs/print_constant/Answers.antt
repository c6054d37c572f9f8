-- A comma, a number sign and the digits.
use Rattle.text.specs.Writes.{writes_then}
use Rattle.lir.specs.Fields.{field}
use Rattle.lir.proofs.print_constant.Goals as goal

pub returns : goal.returns
returns c = field (writes_then c.put.ensures (writes_then c.put-2.ensures c.number.ensures))
