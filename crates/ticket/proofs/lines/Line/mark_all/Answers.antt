use Rattle.line_checks.proofs.AlikeLaws.{held_alike}
use Rattle.line_checks.proofs.KeyLaws.{keyed_marks}
use Rattle.ticket.proofs.lines.Line.mark_all.Goals as goal

pub invariant_of-self-clause-held : goal.invariant_of-self-clause-held
invariant_of-self-clause-held c = held_alike _ _ c.mark_all.ensures.whole.alike _ c.args.self.now.held

pub invariant_of-self-clause-keyed : goal.invariant_of-self-clause-keyed
invariant_of-self-clause-keyed c = keyed_marks _ _ _ _ c.mark_all.ensures.whole.alike c.mark_all.auto.rows c.args.self.now.keyed
