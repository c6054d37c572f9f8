-- The lines of the marks so far are written.
use Rattle.std.proofs.Common.{◌∙◌, inl, inr, arith}
use Rattle.printing.proofs.Laws.{marking_more, marking_same, marking_all}
use Rattle.printing.proofs.print_narrowed.Goals as goal

pub loop-k-preserved-then-mark-ne0 : goal.loop-k-preserved-then-mark-ne0
loop-k-preserved-then-mark-ne0 c =
    let l = c.loop-k in
    let s = c.in-Some.ensures.steps in
    (s.0.0 ∙ l.invariant.0, rw s.0.1.2 (marking_more l.invariant.1 s.1 (omega (arith, s.0.1.0)) c.if-mark-ne0.true (rw s.0.1.1 at c.print_narrowed.ensures)))

pub loop-k-preserved : goal.loop-k-preserved
loop-k-preserved c =
    let l = c.loop-k in
    let s = c.in-Some.ensures.steps in
    (s.0.0 ∙ l.invariant.0, rw s.0.1.2 (marking_same l.invariant.1 s.1 (omega (arith, s.0.1.0)) c.if-mark-ne0.false))

pub returns : goal.returns
returns c =
    let l = c.loop-k in
    elim c.in-None.ensures.steps [ inl p ↦ marking_all l.invariant.1 (inl (omega (arith, p.1))) | inr p ↦ marking_all l.invariant.1 (inr p.1.0) ]
