-- The halves by what the run leaves, or its refusal.
use Rattle.tables.specs.Ticket.{ticket_of}
use Rattle.values.specs.Left.{shown_done}
use Rattle.sections.proofs.Laws.{storage_count, starts, printable, measured}
use Rattle.sections.proofs.run.Goals as goal

pub lower_root-requires : goal.lower_root-requires
lower_root-requires c = starts c.args.tables.now c.new.ensures.begins (rw c.replace-code.ensures.value c.requires.0)

pub finish-m-requires : goal.finish-m-requires
finish-m-requires c =
    let t = c.args.tables.now in
    let s = starts t c.new.ensures.begins (rw c.replace-code.ensures.value c.requires.0) in
    let d = shown_done c.lower_root.ensures c.in_ok-value.was in
    printable t.lines.counts.storages s (storage_count t.lines.rows.now t.lines.lists.now t.lines.counts) d.v c.in_ok-value.value d.left d.shows

pub returns-clause-measures : goal.returns-clause-measures
returns-clause-measures c =
    let t = c.args.tables.now in
    let s = starts t c.new.ensures.begins (rw c.replace-code.ensures.value c.requires.0) in
    let d = shown_done c.lower_root.ensures c.in_ok-value.was in
    measured (ticket_of t.lines) t.lines.counts.storages s (storage_count t.lines.rows.now t.lines.lists.now t.lines.counts) d c.finish-m.ensures
    (rw c.replace-code.ensures.value c.requires.1) (rw c.replace-code.ensures.value c.requires.2)
