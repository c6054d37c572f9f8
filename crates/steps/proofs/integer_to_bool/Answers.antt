-- `steps::integer_to_bool` meets its contract: a new bit, or the refusal.
use Rattle.std.specs.Prelude.{refl}
use Rattle.spec.specs.Lir.{value, bit_value, stored_bit}
use Rattle.spec.specs.Allocation.{bool_type}
use Rattle.spec.specs.Conversions.{integer_to_bool}
use Rattle.reads.specs.Reading.{at_of}
use Rattle.steps.proofs.Asks.{shows_stops, shows_as}
use Rattle.steps.proofs.integer_to_bool.Goals as goal

pub returns-in_err-id-clause-meets : goal.returns-in_err-id-clause-meets
unfolding integer_to_bool
returns-in_err-id-clause-meets c = λ nd. shows_stops _ _ (at_of c.args.h) (c.in_err-id.ensures.meets nd) c.from_residual.ensures.1

pub returns-clause-meets : goal.returns-clause-meets
unfolding integer_to_bool
returns-clause-meets c =
    λ nd. rw c.bool_value.ensures
    (shows_as _ (λ d. value bool_type (bit_value (stored_bit d))) (at_of c.args.h) (c.in_ok-id.ensures.meets nd) (λ v. refl) (λ v e. record { head = rw e; sound = tt }))
