-- The first k bytes are mirrored, those behind them as before.
use Rattle.blocks.specs.Blocks.{all_mirrored}
use Rattle.blocks.proofs.Filling.{Filled}
use Rattle.blocks.proofs.mirror.Given as goal

abbrev pub invariant-loop-k : goal.invariant-loop-k
invariant-loop-k l = Filled (all_mirrored l.input) l.initial.output l.k l.output
