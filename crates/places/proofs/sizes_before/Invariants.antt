use mathlib.Core.Path.{◌≡◌}
use Rattle.spec.specs.Ticket.{sum}
use Rattle.spec.specs.Allocation.{type_size}
use Rattle.tables.specs.Tables.{run}
use Rattle.tables.specs.Ticket.{ticket_of}
use Rattle.places.proofs.sizes_before.Given as goal

abbrev pub invariant-loop-i : goal.invariant-loop-i
invariant-loop-i l = l.total ≡ sum (type_size (ticket_of l.tables.lines)) (run l.tables.lines.lists.now l.start l.i)
