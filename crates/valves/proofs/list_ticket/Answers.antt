-- The answer by the call that gives it.
use Rattle.valves.proofs.Answering.{because, refuses, too_long, fits, list_board, list_faulty, list_is}
use Rattle.valves.proofs.list_ticket.Goals as goal

pub returns-in_err-board : goal.returns-in_err-board
returns-in_err-board c =
    let e = c.in_err-board.ensures in
    refuses _ _ _ _ c.from_residual.ensures.1 _ (because _ _ _ e.value e.ok_part) (list_board _ _ _ (rw e.ok_part at c.new.ensures))

pub returns-in_err-m : goal.returns-in_err-m
returns-in_err-m c =
    let n = rw c.in_ok-board.ensures.ok_part at c.new.ensures in
    let e = c.in_err-m.ensures in
    refuses _ _ _ _ c.from_residual-in_err-m.ensures.1 _ (because _ _ _ e.value e.ok_part) (rw (← n) (list_faulty _ _ c.in_ok-board.board (rw e.ok_part at c.list_map.ensures)))

pub returns-in_err-write : goal.returns-in_err-write
returns-in_err-write c =
    let n = rw c.in_ok-board.ensures.ok_part at c.new.ensures in
    rw (← n) (too_long _ _ _ _ c.from_residual-in_err-write.ensures.1 _ _ c.in_err-write.ensures (list_is _ _ c.in_ok-board.board _ (rw c.in_ok-m.ensures.ok_part at c.list_map.ensures)))

pub returns : goal.returns
returns c =
    let n = rw c.in_ok-board.ensures.ok_part at c.new.ensures in
    rw (← n) (fits _ _ _ _ _ c.in_ok-write.ensures (list_is _ _ c.in_ok-board.board _ (rw c.in_ok-m.ensures.ok_part at c.list_map.ensures)))
