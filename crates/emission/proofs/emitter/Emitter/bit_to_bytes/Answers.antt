-- The definition's list is a table of what the closure makes.
use Rattle.std.proofs.Common.{rules}
use Rattle.emission.specs.Loops.{bit_table}
use Rattle.emission.proofs.emitter.Emitter.bit_to_bytes.Goals as goal

pub returns : goal.returns
returns c = rw (bit_table c.args.d c.args.b) (c.emit_each.ensures.emits _ (λ i k p. search rules))
