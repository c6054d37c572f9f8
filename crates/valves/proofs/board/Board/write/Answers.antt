-- The ticket where the buffer has room for it, else it is too long.
use borrow.Author.Rules.{rules}
use native.Mathlib.Omega.{arith}
use Rattle.valves.proofs.Printed.{ticket_short, no_room, room}
use Rattle.valves.proofs.board.Board.write.Goals as goal

pub returns-then-buffer-end : goal.returns-then-buffer-end
returns-then-buffer-end c = no_room _ _ (ticket_short _ _ (search rules) (omega arith)) c.put-end.ensures (omega (arith, c.if-buffer-end.true))

pub returns : goal.returns
returns c = room _ _ (ticket_short _ _ (search rules) (omega arith)) c.put-end.ensures (omega (arith, c.if-buffer-end.false)) c.put.ensures
