-- The answer by the call that gives it.
use Rattle.valves.proofs.Answering.{because, refuses, too_long, fits, not_eight, is_eight, mask_board, mask_other, mask_faulty, mask_is}
use borrow.Author.Rules.{rules}
use Rattle.valves.specs.declared.refusal.Refusal.{Refusal}
use Rattle.valves.proofs.mask_ticket.Goals as goal

pub returns-in_err-board : goal.returns-in_err-board
returns-in_err-board c =
    let e = c.in_err-board.ensures in
    refuses _ _ _ _ c.from_residual.ensures.1 _ (because _ _ _ e.value e.ok_part) (mask_board _ _ _ (rw e.ok_part at c.new.ensures))

pub returns-in_err-mask : goal.returns-in_err-mask
returns-in_err-mask c =
    let n = rw c.in_ok-board.ensures.ok_part at c.new.ensures in
    let e = not_eight _ _ _ _ c.try_from.ensures.1 c.in_err-mask.ensures.cases in
    let k = e.1 in
    refuses _ _ _ _ c.from_residual-in_err-mask.ensures.1 Refusal.BadMask (search rules) (rw (← n) (mask_other _ _ c.in_ok-board.board e.2))

pub returns-in_err-m : goal.returns-in_err-m
returns-in_err-m c =
    let n = rw c.in_ok-board.ensures.ok_part at c.new.ensures in
    let k = is_eight _ _ _ c.try_from.ensures.1 c.in_ok-mask.ensures.cases in
    let e = c.in_err-m.ensures in
    let m = rw (e.ok_part, k.same) at c.mask_map.ensures in
    refuses _ _ _ _ c.from_residual-in_err-m.ensures.1 _ (because _ _ _ e.value e.ok_part) (rw (← n) (mask_faulty _ _ c.in_ok-board.board k.long m))

pub returns-in_err-write : goal.returns-in_err-write
returns-in_err-write c =
    let n = rw c.in_ok-board.ensures.ok_part at c.new.ensures in
    let k = is_eight _ _ _ c.try_from.ensures.1 c.in_ok-mask.ensures.cases in
    let m = rw (c.in_ok-m.ensures.ok_part, k.same) at c.mask_map.ensures in
    rw (← n) (too_long _ _ _ _ c.from_residual-in_err-write.ensures.1 _ _ c.in_err-write.ensures (mask_is _ _ c.in_ok-board.board k.long _ m))

pub returns : goal.returns
returns c =
    let n = rw c.in_ok-board.ensures.ok_part at c.new.ensures in
    let k = is_eight _ _ _ c.try_from.ensures.1 c.in_ok-mask.ensures.cases in
    let m = rw (c.in_ok-m.ensures.ok_part, k.same) at c.mask_map.ensures in
    rw (← n) (fits _ _ _ _ _ c.in_ok-write.ensures (mask_is _ _ c.in_ok-board.board k.long _ m))
