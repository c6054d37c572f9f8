-- The sum over the fields passed and the next is at most that over all of them.
use Prim.Native.Nat.{◌+◌}
use lib.ListN.{get_or}
use native.Mathlib.Omega.{arith}
use mathlib.Core.Path.{◌≡◌}
use Rattle.spec.specs.Allocation.{type_size}
use Rattle.tables.specs.Ticket.{ticket_of}
use Rattle.tables.proofs.Laws.{size_here}
use Rattle.places.proofs.Facts.{sum_run_more, sum_run_at_most}
use Rattle.places.proofs.sizes_before.Goals as goal

pub overflow_add-total : goal.overflow_add-total
overflow_add-total c =
    let lists = c.args.tables.now.lines.lists.now in
    let size = type_size (ticket_of c.args.tables.now.lines) in
    let added : c.type_size-total.result ≡ size (get_or lists (c.args.start + c.loop-i.i) 0) = rw (c.type_size-total.ensures, c.list_at.ensures, size_here) in
    omega (arith, sum_run_more size lists c.args.start c.loop-i.i, sum_run_at_most size lists c.args.start (c.loop-i.i + 1) c.args.n (omega arith))
