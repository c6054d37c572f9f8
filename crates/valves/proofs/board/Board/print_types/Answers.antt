-- The function and the types by their pieces.
use Rattle.valves.proofs.Printed.{types_put}
use Rattle.valves.proofs.board.Board.print_types.Goals as goal

pub returns : goal.returns
returns c = types_put _ c.bytes.ensures c.number.ensures c.put.ensures
