-- The variable and the nodes by their pieces.
use Rattle.valves.proofs.Printed.{nodes_put}
use Rattle.valves.proofs.board.print_nodes.Goals as goal

pub returns : goal.returns
returns c = nodes_put _ c.bytes.ensures c.number.ensures c.bytes-2.ensures
