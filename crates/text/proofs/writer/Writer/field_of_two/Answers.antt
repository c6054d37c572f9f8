-- A comma, the one's digits, the byte between and the other's digits.
use mathlib.Core.Path.{refl}
use Rattle.text.specs.Put.{then}
use Rattle.text.proofs.writer.Writer.field_of_two.Goals as goal

pub returns : goal.returns
returns c = record { put = then c.put-p.ensures (then c.print_number-q.ensures (then c.put-r.ensures c.print_number-self.ensures)); same = refl }
