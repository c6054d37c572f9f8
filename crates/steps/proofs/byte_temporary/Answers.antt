-- `steps::byte_temporary` meets its contract: a new storage, or the first refusal.
use Rattle.std.specs.Prelude.{◌≡◌, refl, Ok}
use Rattle.std.proofs.Common.{sym, ◌∙◌, rules}
use Rattle.std.proofs.lemmas.Result.{err_from_is_err_and}
use Rattle.tables.specs.Ticket.{ticket_of}
use Rattle.tables.proofs.Laws.{size_here}
use Rattle.emission.specs.Temporaries.{temporary_placed, temporary_refused, temporary_keeps}
use Rattle.steps.proofs.Asks.{told_err}
use Rattle.steps.proofs.Temporaries.{byte_bool, byte_none}
use Rattle.steps.proofs.byte_temporary.Goals as goal

pub returns-then-h-eq0-clause-meets : goal.returns-then-h-eq0-clause-meets
returns-then-h-eq0-clause-meets c = record { shown = rw c.refuse.ensures (byte_bool (ticket_of c.args.tables.now.lines) c.args.h.ty c.if-h-eq0.true, refl) }

pub returns-in_err-storage-clause-meets : goal.returns-in_err-storage-clause-meets
returns-in_err-storage-clause-meets c =
    let T = ticket_of c.args.tables.now.lines in
    let p = err_from_is_err_and c.from_residual.result c.from_residual.ensures.1 in
    let w = told_err _ c.allocate_temporary.result _ c.in_err-storage.ensures.cases in
    let made = w.1.1 in
    let e : c.in_err-storage.field-0.0 ≡ record { refusal = w.0; line = c.args.h.line } = search rules in
    let size = size_here c.args.tables.now.lines.rows.now c.args.tables.now.lines.lists.now c.args.tables.now.lines.counts c.args.h.ty ∙ sym c.type_size-count.ensures in
    rw (p.1, p.2, e) (record { shown = (byte_none T c.args.h.ty (temporary_refused (c.allocate_temporary.ensures T size) w.1.0).0, refl) })

pub returns-clause-meets : goal.returns-clause-meets
returns-clause-meets c =
    let T = ticket_of c.args.tables.now.lines in
    let e : c.allocate_temporary.result ≡ Ok c.in_ok-storage.storage = search rules in
    let size = size_here c.args.tables.now.lines.rows.now c.args.tables.now.lines.lists.now c.args.tables.now.lines.counts c.args.h.ty ∙ sym c.type_size-count.ensures in
    record { shown = record { allocates = temporary_placed (c.allocate_temporary.ensures T size) e; bytes = c.if-h-eq0.false; count = sym size } }

pub returns-in_err-storage-clause-keeps : goal.returns-in_err-storage-clause-keeps
returns-in_err-storage-clause-keeps c =
    let T = ticket_of c.args.tables.now.lines in
    temporary_keeps (c.allocate_temporary.ensures T (size_here c.args.tables.now.lines.rows.now c.args.tables.now.lines.lists.now c.args.tables.now.lines.counts c.args.h.ty ∙ sym c.type_size-count.ensures))

pub returns-clause-keeps : goal.returns-clause-keeps
returns-clause-keeps c =
    let T = ticket_of c.args.tables.now.lines in
    temporary_keeps (c.allocate_temporary.ensures T (size_here c.args.tables.now.lines.rows.now c.args.tables.now.lines.lists.now c.args.tables.now.lines.counts c.args.h.ty ∙ sym c.type_size-count.ensures))
