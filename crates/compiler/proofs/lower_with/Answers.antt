-- The answer by what is read, or that words are too few.
use Rattle.std.specs.Prelude.{◌≡◌, Ok}
use Rattle.std.proofs.Common.{rules}
use Rattle.compiler.proofs.Laws.{text_read, read_accepted}
use Rattle.compiler.proofs.lower_with.Goals as goal

pub invariant_of-tables : goal.invariant_of-tables
invariant_of-tables c =
    let e : c.read_ticket.result ≡ Ok c.in_ok-counts.counts = search rules in
    record { readable = text_read _ c.args.ticket.now (read_accepted c.read_ticket.ensures e) }
