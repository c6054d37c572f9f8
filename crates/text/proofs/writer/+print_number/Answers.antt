-- The measure is the number itself; the last digit is put behind those of n / 10.
use native.Mathlib.Omega.{arith}
use borrow.Author.Rules.{rules}
use Rattle.text.proofs.Printing.{number_one, number_more}
use Rattle.text.proofs.writer.+print_number.Goals as goal
use Rattle.text.proofs.writer.+print_number.Goals.{then-front-lt100, else-front-lt100}

pub returns-then-n-lt10 : goal.returns-then-n-lt10
returns-then-n-lt10 t c = number_one _ c.if-n-lt10.true c.put.ensures

pub returns : goal.returns
returns t c = number_more _ (omega arith) (elim c.if-front-lt100.branch [ then-front-lt100 w ↦ search rules | else-front-lt100 w ↦ search rules ]) c.put-2.ensures
