-- `conversions::lower_pointer_offset` meets its contract: the base's bytes, then the offset's, then a pointer, a carry, and two sums.
use Rattle.std.proofs.Common.{refl, arith, rules}
use Rattle.answers.specs.declared.Refusal.{Refusal}
use Rattle.spec.specs.Lir.{add}
use Rattle.spec.specs.Operands.{value_bytes}
use Rattle.spec.specs.Select.{lower_pointer_offset}
use Rattle.lir.specs.Abstract.{bytes_of}
use Rattle.values.specs.Left.{counters_in, holds_out, stops}
use Rattle.reads.specs.Reading.{at_of}
use Rattle.steps.proofs.Asks.{none_stops, some_meets}
use Rattle.conversions.proofs.Pointers.{offset_short, offset_meets}
use Rattle.emission.specs.Appends.{keeps_then}
use Rattle.emission.specs.Emits.{emits_keeps, allocates_keeps}
use Rattle.conversions.proofs.lower_pointer_offset.Goals as goal

pub returns-in_err-base-clause-meets : goal.returns-in_err-base-clause-meets
unfolding lower_pointer_offset value_bytes
returns-in_err-base-clause-meets c = λ T R nd. none_stops _ _ _ _ (at_of c.args.h) Refusal.UnsupportedExpression c.value_bytes.ensures.bytes c.in_err-base.ensures.value c.refuse.ensures c.from_residual.ensures.1

pub returns-in_err-offset-clause-meets : goal.returns-in_err-offset-clause-meets
unfolding lower_pointer_offset value_bytes
returns-in_err-offset-clause-meets c =
    λ T R nd. some_meets _ _ _ _ _ (at_of c.args.h) c.value_bytes.ensures.bytes c.in_ok-base.ensures.value
    (none_stops _ _ _ _ (at_of c.args.h) Refusal.UnsupportedExpression c.value_bytes-2.ensures.bytes c.in_err-offset.ensures.value c.refuse-2.ensures c.from_residual-in_err-offset.ensures.1)

pub returns-then-base-lt2-clause-meets : goal.returns-then-base-lt2-clause-meets
unfolding lower_pointer_offset value_bytes
returns-then-base-lt2-clause-meets c =
    λ T R nd. some_meets _ _ _ _ _ (at_of c.args.h) c.value_bytes.ensures.bytes c.in_ok-base.ensures.value
    (some_meets _ _ _ _ _ (at_of c.args.h) c.value_bytes-2.ensures.bytes c.in_ok-offset.ensures.value
    (rw (offset_short T c.in_ok-base.base (bytes_of c.in_ok-offset.offset) (at_of c.args.h) (counters_in c.args.l.now) c.if-base-lt2.true, c.refuse-then-base-lt2.ensures) (stops refl)))

pub returns-clause-meets : goal.returns-clause-meets
unfolding lower_pointer_offset value_bytes
returns-clause-meets c =
    λ T R nd. some_meets _ _ _ _ _ (at_of c.args.h) c.value_bytes.ensures.bytes c.in_ok-base.ensures.value
    (some_meets _ _ _ _ _ (at_of c.args.h) c.value_bytes-2.ensures.bytes c.in_ok-offset.ensures.value
    (rw c.pointer_value.ensures
    (offset_meets T R c.allocate_pointer-storage.result c.allocate_carry-carry.result c.in_ok-base.base c.in_ok-offset.offset (at_of c.args.h) nd (omega (arith, c.if-base-lt2.false))
    c.resize.ensures c.resize-2.ensures c.allocate_pointer-storage.ensures c.allocate_carry-carry.ensures (c.carried_bytes.ensures.emits add (λ d x y i u k p. search rules)))))

pub returns-clause-holds : goal.returns-clause-holds
returns-clause-holds c =
    holds_out
    (keeps_then (allocates_keeps c.allocate_pointer-storage.ensures)
    (keeps_then (allocates_keeps c.allocate_carry-carry.ensures) (emits_keeps (c.carried_bytes.ensures.emits add (λ d x y i u k p. search rules)))))
