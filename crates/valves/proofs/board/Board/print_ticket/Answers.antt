-- The ticket by its three parts.
use Rattle.text.specs.Writes.{writes_then}
use Rattle.valves.specs.Tickets.{ticket_text}
use Rattle.valves.proofs.board.Board.print_ticket.Goals as goal

pub returns : goal.returns
unfolding ticket_text
returns c = writes_then (writes_then c.print_types.ensures c.print_storage.ensures) c.print_nodes.ensures
