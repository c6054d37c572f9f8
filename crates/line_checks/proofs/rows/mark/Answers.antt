use borrow.Author.Rules.{rules}
use Rattle.line_checks.proofs.RowLaws.{marking}
use Rattle.line_checks.proofs.rows.mark.Goals as goal

pub returns-then-n-k : goal.returns-then-n-k
returns-then-n-k c = search (marking, rules)

pub returns-then-rows-at-ne0 : goal.returns-then-rows-at-ne0
returns-then-rows-at-ne0 c = search (marking, rules)

pub returns : goal.returns
returns c = search (marking, rules)
