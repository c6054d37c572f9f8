-- A comma and the digits.
use mathlib.Core.Path.{refl}
use Rattle.text.specs.Put.{then}
use Rattle.text.proofs.writer.Writer.field.Goals as goal

pub returns : goal.returns
returns c = record { put = then c.put-next.ensures c.print_number-self.ensures; same = refl }
