-- `steps::not_zero` meets its contract: the width first, then the bytes, then the comparison.
use Rattle.std.specs.Prelude.{refl}
use Rattle.answers.specs.declared.Refusal.{Refusal}
use Rattle.spec.specs.Operands.{value_bytes}
use Rattle.spec.specs.Allocation.{integer_width}
use Rattle.spec.specs.Conversions.{not_zero}
use Rattle.lir.specs.Abstract.{bytes_of}
use Rattle.emission.specs.Forms.{comparing_zero}
use Rattle.reads.specs.Reading.{at_of}
use Rattle.steps.proofs.Asks.{none_stops, some_meets, does_shows}
use Rattle.steps.proofs.Laws.{wide}
use Rattle.emission.specs.Does.{does_keeps}
use Rattle.values.specs.Left.{holds_out}
use Rattle.steps.proofs.not_zero.Goals as goal

pub returns-in_err-width-clause-meets : goal.returns-in_err-width-clause-meets
unfolding not_zero integer_width
returns-in_err-width-clause-meets c = λ nd. none_stops (λ x. x) c.integer_width.result _ _ (at_of c.args.h) Refusal.UnsupportedType (wide c.args.v c.integer_width.ensures) c.in_err-width.ensures.value c.refuse.ensures c.from_residual.ensures.1

pub returns-in_err-number-clause-meets : goal.returns-in_err-number-clause-meets
unfolding not_zero integer_width value_bytes
returns-in_err-number-clause-meets c =
    λ nd. some_meets (λ x. x) c.integer_width.result _ _ _ (at_of c.args.h) (wide c.args.v c.integer_width.ensures) c.in_ok-width.ensures.value
    (none_stops bytes_of c.value_bytes.result _ _ (at_of c.args.h) Refusal.UnsupportedExpression c.value_bytes.ensures.bytes c.in_err-number.ensures.value c.refuse-2.ensures c.from_residual-in_err-number.ensures.1)

pub returns-clause-meets : goal.returns-clause-meets
unfolding not_zero integer_width value_bytes comparing_zero
returns-clause-meets c =
    λ nd. some_meets (λ x. x) c.integer_width.result _ _ _ (at_of c.args.h) (wide c.args.v c.integer_width.ensures) c.in_ok-width.ensures.value
    (some_meets bytes_of c.value_bytes.result _ _ _ (at_of c.args.h) c.value_bytes.ensures.bytes c.in_ok-number.ensures.value (does_shows (at_of c.args.h) nd c.not_zero.ensures refl refl))

pub returns-clause-holds : goal.returns-clause-holds
returns-clause-holds c = holds_out (does_keeps c.not_zero.ensures)
