-- `steps::value_as_bit` meets its contract: its own bit, or a new one.
use Rattle.std.specs.Prelude.{refl}
use Rattle.std.proofs.Common.{ap}
use Rattle.spec.specs.Lir.{stored_bit}
use Rattle.spec.specs.Conversions.{value_as_bit}
use Rattle.reads.specs.Reading.{at_of}
use Rattle.steps.proofs.Asks.{shows_as}
use Rattle.steps.proofs.value_as_bit.Goals as goal

pub returns-clause-meets : goal.returns-clause-meets
unfolding value_as_bit
returns-clause-meets c = λ nd. rw (rw c.in_default.is at c.value_bit.ensures) (shows_as _ (λ d. stored_bit d) (at_of c.args.h) (c.in_ok-id.ensures.meets nd) (λ v. refl) (λ v e. ap stored_bit e))
