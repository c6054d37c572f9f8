-- The definition's list is a table of what the closure makes.
use Rattle.std.proofs.Common.{rules}
use Rattle.emission.specs.Loops.{each_table}
use Rattle.emission.proofs.emitter.Emitter.each_byte.Goals as goal

pub returns : goal.returns
returns g c =
    record { emits = λ f h. rw (each_table c.args.d c.args.b f, ← c.min-n.ensures) (c.emit_each.ensures.emits _ (λ i k p. search rules)) }
