-- The lines of the records so far are written.
use Rattle.std.proofs.Common.{◌∙◌, arith}
use Rattle.printing.proofs.Laws.{printing_more, printing_all}
use Rattle.printing.proofs.print_value.Goals as goal

pub loop-record-preserved : goal.loop-record-preserved
loop-record-preserved c =
    let i = c.loop-record.invariant in
    let s = c.in-Some.ensures.steps in
    (s.0 ∙ i.0, printing_more _ _ i.1.records s.1.0 (s.1.1 ∙ i.0) i.1 (rw c.value_at.ensures at c.print_head-in-loop-record.ensures))

pub returns : goal.returns
returns c = let i = c.loop-record.invariant in printing_all i.1 (omega (arith, c.in-None.ensures.steps.1))
