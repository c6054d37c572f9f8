-- The definition's list is a table of what the closure makes.
use Rattle.std.proofs.Common.{rules}
use Rattle.emission.specs.Loops.{turn_table}
use Rattle.emission.proofs.emitter.Emitter.turns.Goals as goal

pub returns : goal.returns
returns c = rw (turn_table c.args.d c.args.direction c.args.x c.args.n) (c.emit_each.ensures.emits _ (λ i k p. search rules))
