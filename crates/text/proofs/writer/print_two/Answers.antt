-- One digit, and the other behind it.
use Rattle.text.proofs.Printing.{number_two}
use Rattle.text.proofs.writer.print_two.Goals as goal

pub returns : goal.returns
returns c = let a = c in number_two _ a.requires.0 a.requires.1 c.put-p.ensures c.put.ensures
