use borrow.Author.Rules.{rules}
use Rattle.fields.proofs.Lines.{gone_more}
use Rattle.fields.proofs.numbers.Goals.{in-Some, in-None+in_ok-value-in-None}
use Rattle.fields.proofs.numbers.Goals as goal

pub loop-from-preserved : goal.loop-from-preserved
loop-from-preserved c = elim c.match-lone.branch [
  | in-Some w ↦ rw w.value-is (gone_more _ _ _ _ _ _ _ c.loop-from.invariant _ _ (search rules) (rw w.from.ensures w.in-Some.ensures.right))
  | in-None+in_ok-value-in-None w ↦ rw w.value-is (gone_more _ _ _ _ _ _ _ c.loop-from.invariant _ _ (search rules) w.in_ok-value-in-None.ensures)
]
