-- Nothing, or one instruction at the last byte.
use Rattle.std.proofs.Common.{arith}
use Rattle.emission.specs.Emits.{emits_none}
use Rattle.emission.specs.Tabs.{masks_whole, masks_none, masks_last}
use Rattle.emission.proofs.emitter.Emitter.mask_location.Goals as goal

pub returns-then-odd-eq0 : goal.returns-then-odd-eq0
returns-then-odd-eq0 c = rw (c.if-odd-eq0.true, masks_whole) (emits_none c.args.self.now)

pub returns-then-d-eq0 : goal.returns-then-d-eq0
returns-then-d-eq0 c = rw (c.if-d-eq0.true, masks_none) (emits_none c.args.self.now)

pub returns : goal.returns
returns c =
    rw (masks_last c.args.odd c.args.d.storage.0 c.args.d.count (omega (arith, c.if-odd-eq0.false)) (omega (arith, c.if-d-eq0.false)))
    (rw (c.destination-last.ensures, c.mask_of.ensures) at c.emit.ensures)
