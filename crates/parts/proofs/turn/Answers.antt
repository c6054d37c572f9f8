-- All turned round, and then each of the two again.
use Rattle.std.specs.Prelude.{refl}
use Rattle.parts.proofs.Moves.{three_turns}
use Rattle.parts.proofs.turn.Goals as goal

pub returns : goal.returns
returns c = three_turns c.args.s.now _ _ _ c.args.m _ _ c.requires refl c.reverse.ensures.after c.reverse-2.ensures.after refl c.reverse-3.ensures.after
