-- The definition's list is a table of what the closure makes.
use Rattle.std.proofs.Common.{rules}
use Rattle.emission.specs.Loops.{carried_table}
use Rattle.emission.proofs.emitter.Emitter.carried_bytes.Goals as goal

pub returns : goal.returns
returns g c =
    let o = c.args.o in
    record {
      emits = λ f h. rw (carried_table o.to o.left o.right f c.args.carry.0, ← c.min.ensures, ← c.min-n.ensures) (c.emit_each.ensures.emits _ (λ i k p. search rules));
    }
