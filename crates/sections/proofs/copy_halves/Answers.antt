-- One slice behind the other.
use lib.ListN.{take}
use lib.Seq.{length-take-le}
use Prim.Native.Nat.{◌-◌}
use Rattle.sections.proofs.Laws.{halves_is}
use Rattle.sections.proofs.copy_halves.Goals as goal

pub returns : goal.returns
returns c = halves_is c.args.buffer.now c.args.front c.args.end c.requires.0 c.requires.1 (take c.args.front c.args.store.now) (take (c.args.end - c.args.front) c.args.code.now) (length-take-le c.args.front c.args.store.now c.requires.2) (length-take-le (c.args.end - c.args.front) c.args.code.now c.requires.3) c.copy_half.ensures c.copy_half-2.ensures
