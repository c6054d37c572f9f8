-- `steps::lower_compare` meets its contract: the width first, then the operands, then the operator.
use Rattle.std.specs.Prelude.{refl}
use Rattle.std.specs.Option.{option_map}
use Rattle.std.proofs.Common.{ap, ◌∙◌}
use Rattle.answers.specs.declared.Refusal.{Refusal}
use Rattle.spec.specs.Operands.{value_bytes}
use Rattle.spec.specs.Allocation.{integer_width}
use Rattle.spec.specs.Conversions.{lower_compare}
use Rattle.lir.specs.Abstract.{bytes_of, compare_op_of}
use Rattle.emission.specs.Forms.{comparing}
use Rattle.reads.specs.Reading.{at_of}
use Rattle.steps.proofs.Asks.{some_in, none_in, ask_stops, none_stops, some_meets, does_shows}
use Rattle.steps.proofs.Laws.{wide, compared_float}
use Rattle.emission.specs.Does.{does_keeps}
use Rattle.values.specs.Left.{holds_out}
use Rattle.steps.proofs.lower_compare.Goals as goal

pub returns-in_err-width-clause-meets : goal.returns-in_err-width-clause-meets
unfolding lower_compare integer_width
returns-in_err-width-clause-meets c = λ nd. none_stops (λ x. x) c.integer_width.result _ _ (at_of c.args.h) Refusal.UnsupportedType (wide c.args.left c.integer_width.ensures) c.in_err-width.ensures.value c.refuse.ensures c.from_residual.ensures.1

pub returns-in_err-a-clause-meets : goal.returns-in_err-a-clause-meets
unfolding lower_compare integer_width value_bytes
returns-in_err-a-clause-meets c =
    λ nd. some_meets (λ x. x) c.integer_width.result _ _ _ (at_of c.args.h) (wide c.args.left c.integer_width.ensures) c.in_ok-width.ensures.value
    (none_stops bytes_of c.value_bytes.result _ _ (at_of c.args.h) Refusal.UnsupportedExpression c.value_bytes.ensures.bytes c.in_err-a.ensures.value c.refuse-2.ensures c.from_residual-in_err-a.ensures.1)

pub returns-in_err-b-clause-meets : goal.returns-in_err-b-clause-meets
unfolding lower_compare integer_width value_bytes
returns-in_err-b-clause-meets c =
    λ nd. some_meets (λ x. x) c.integer_width.result _ _ _ (at_of c.args.h) (wide c.args.left c.integer_width.ensures) c.in_ok-width.ensures.value
    (some_meets bytes_of c.value_bytes.result _ _ _ (at_of c.args.h) c.value_bytes.ensures.bytes c.in_ok-a.ensures.value
    (none_stops bytes_of c.value_bytes-2.result _ _ (at_of c.args.h) Refusal.UnsupportedExpression c.value_bytes-2.ensures.bytes c.in_err-b.ensures.value c.refuse-3.ensures c.from_residual-in_err-b.ensures.1))

pub returns-in_err-op-clause-meets : goal.returns-in_err-op-clause-meets
unfolding lower_compare integer_width value_bytes comparing
returns-in_err-op-clause-meets c =
    λ nd. some_meets (λ x. x) c.integer_width.result _ _ _ (at_of c.args.h) (wide c.args.left c.integer_width.ensures) c.in_ok-width.ensures.value
    (some_meets bytes_of c.value_bytes.result _ _ _ (at_of c.args.h) c.value_bytes.ensures.bytes c.in_ok-a.ensures.value
    (some_meets bytes_of c.value_bytes-2.result _ _ _ (at_of c.args.h) c.value_bytes-2.ensures.bytes c.in_ok-b.ensures.value
    (ask_stops Refusal.UnsupportedExpression c.compare_op.result _ c.in_err-op.ensures.value c.refuse-4.ensures c.from_residual-in_err-op.ensures.1
    (compared_float _ _ _ _ (at_of c.args.h) _ (c.compare_op.ensures ∙ ap (option_map compare_op_of) (none_in c.compare_op.result _ c.in_err-op.ensures.value).0)))))

pub returns-clause-meets : goal.returns-clause-meets
unfolding lower_compare integer_width value_bytes comparing
returns-clause-meets c =
    λ nd. some_meets (λ x. x) c.integer_width.result _ _ _ (at_of c.args.h) (wide c.args.left c.integer_width.ensures) c.in_ok-width.ensures.value
    (some_meets bytes_of c.value_bytes.result _ _ _ (at_of c.args.h) c.value_bytes.ensures.bytes c.in_ok-a.ensures.value
    (some_meets bytes_of c.value_bytes-2.result _ _ _ (at_of c.args.h) c.value_bytes-2.ensures.bytes c.in_ok-b.ensures.value
    (rw c.bool_value.ensures
    (does_shows (at_of c.args.h) nd (c.compare.ensures _ (c.compare_op.ensures ∙ ap (option_map compare_op_of) (some_in c.compare_op.result _ c.in_ok-op.ensures.value))) refl
    (record { head = refl; sound = tt })))))

pub returns-clause-holds : goal.returns-clause-holds
returns-clause-holds c = holds_out (does_keeps (c.compare.ensures _ (c.compare_op.ensures ∙ ap (option_map compare_op_of) (some_in c.compare_op.result _ c.in_ok-op.ensures.value))))
