use Rattle.std.proofs.Common.{◌≡◌, sym, ap, ◌∙◌}
use Rattle.ticket.proofs.AddLaws.{held_note, keyed_noted, held_row, keyed_row}
use Rattle.ticket.proofs.adding.put_line.Goals as goal
use Rattle.ticket.proofs.adding.put_line.Goals.{in-Types, in_default-kind}

pub invariant_of-line-clause-held : goal.invariant_of-line-clause-held
invariant_of-line-clause-held c = let l = c.args.line.now in rw c.note.ensures (held_note _ _ _ l.held l.roomy)

pub invariant_of-line-clause-keyed : goal.invariant_of-line-clause-keyed
invariant_of-line-clause-keyed c = let l = c.args.line.now in rw c.note.ensures (keyed_noted _ _ _ _ l.roomy l.keyed)

pub invariant_of-line-2-clause-held : goal.invariant_of-line-2-clause-held
invariant_of-line-2-clause-held c =
    let m = c.match-line.line in
    let e : m.counts ≡ c.args.line.now.counts = elim c.match-line.branch [ in-Types w ↦ ap (λ l. l.counts) w.line-is | in_default-kind w ↦ ap (λ l. l.counts) w.line-is ] in
    held_row _ _ _ _ _ c.put_row.ensures m.held c.args.line.now.form.kind (rw e (sym c.in-Some.is ∙ c.next_row.ensures))

pub invariant_of-line-2-clause-keyed : goal.invariant_of-line-2-clause-keyed
invariant_of-line-2-clause-keyed c =
    let m = c.match-line.line in
    let e : m.counts ≡ c.args.line.now.counts = elim c.match-line.branch [ in-Types w ↦ ap (λ l. l.counts) w.line-is | in_default-kind w ↦ ap (λ l. l.counts) w.line-is ] in
    keyed_row _ _ _ _ _ c.put_row.ensures m.held _ m.roomy m.keyed c.args.line.now.form.kind (rw e (sym c.in-Some.is ∙ c.next_row.ensures))
