-- A difference from zeros.
use Rattle.std.proofs.Common.{rules}
use Rattle.spec.specs.Lir.{subtract}
use Rattle.emission.specs.Loops.{negates_carried}
use Rattle.emission.proofs.emitter.Emitter.negate_bytes.Goals as goal

pub returns : goal.returns
returns c =
    rw (negates_carried c.args.d c.args.b c.args.carry.0, ← c.zero_bytes.ensures) (c.carried_bytes.ensures.emits subtract (λ d x y i u k p. search rules))
