-- The first i bytes of the word are in their places, all others as before.
use Rattle.blocks.specs.Words.{Spread}
use Rattle.blocks.proofs.write_word.Given as goal

abbrev pub invariant-loop-i : goal.invariant-loop-i
invariant-loop-i l = Spread l.word l.to.first l.to.step l.i l.initial.output l.output
