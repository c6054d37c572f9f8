-- The root's tree has its room, and its lowering is the ticket's.
use Rattle.tables.specs.Ticket.{ticket_of}
use Rattle.sections.proofs.Laws.{node_count, root_room}
use Rattle.sections.proofs.lower_root.Goals as goal

pub lower_expression-requires : goal.lower_expression-requires
lower_expression-requires c = let t = c.args.tables.now in root_room (ticket_of t.lines) t.lines.counts.nodes c.requires (node_count t.lines.rows.now t.lines.lists.now t.lines.counts) t.readable
