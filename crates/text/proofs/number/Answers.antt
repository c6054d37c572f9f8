-- The invariant: the digits passed, worth value, and the rest of the field make the number.
use borrow.Author.Rules.{rules}
use Rattle.text.proofs.Positions.{positions}
use Rattle.text.proofs.number.Goals as goal

pub loop-end-preserved : goal.loop-end-preserved
loop-end-preserved c = search (positions, rules)
