-- One byte of the word more is in its place.
use Rattle.std.proofs.Common.{length, arith}
use Rattle.blocks.proofs.Words.{inside, spread_more, byte_is}
use Rattle.blocks.proofs.write_word.Goals as goal

pub loop-i-preserved : goal.loop-i-preserved
loop-i-preserved c =
    spread_more c.loop-i.invariant c.requires.apart (inside c.args.to.first c.args.to.step c.loop-i.i (length c.args.output.now) c.requires.inside (omega arith))
    (rw c.to_le_bytes.ensures (byte_is c.args.word c.loop-i.i (omega arith)))
