-- The storage line by its pieces.
use native.Mathlib.Omega.{arith}
use Rattle.valves.proofs.Printed.{storage_put}
use Rattle.valves.proofs.board.Board.print_storage.Goals as goal

pub returns : goal.returns
returns c = storage_put _ _ (omega (arith, c.div_ceil.ensures)) c.bytes.ensures c.number.ensures c.bytes-2.ensures
