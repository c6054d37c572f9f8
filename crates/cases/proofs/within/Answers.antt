-- The part lent is as long as it is to be.
use Rattle.std.proofs.Common.{refl, arith, length-take-le}
use Rattle.cases.proofs.Laws.{filled_length, within_so}
use Rattle.cases.proofs.within.Goals as goal

pub returns-then-holds : goal.returns-then-holds
returns-then-holds g c =
    within_so c.args.room _ c.holds.new.arg2 c.untouched.result
    (length-take-le c.args.room c.fill.new.buffer (omega (arith, c.if-buffer-room.false, filled_length c.fill.ensures)))
    (record { shown = _; shows = refl; left = _; met = rw c.if-holds.true at c.holds.ensures; leaves = refl })
