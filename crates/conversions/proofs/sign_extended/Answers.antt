-- `conversions::sign_extended` meets its contract: the width, then the bytes, then the temporary.
use Rattle.answers.specs.declared.Refusal.{Refusal}
use Rattle.spec.specs.Operands.{value_bytes}
use Rattle.spec.specs.Allocation.{integer_width}
use Rattle.spec.specs.Conversions.{sign_extended}
use Rattle.lir.specs.Abstract.{bytes_of}
use Rattle.tables.specs.Ticket.{ticket_of}
use Rattle.reads.specs.Reading.{at_of}
use Rattle.steps.specs.Temporaries.{masked}
use Rattle.steps.proofs.Asks.{none_stops, some_meets}
use Rattle.steps.proofs.Laws.{wide}
use Rattle.conversions.proofs.Filled.{extends, filled_meets, filled_stops}
use Rattle.emission.specs.Appends.{keeps_then}
use Rattle.emission.specs.Emits.{emits_keeps}
use Rattle.values.specs.Left.{holds_then, holds_out}
use Rattle.conversions.proofs.sign_extended.Goals as goal

pub returns-in_err-width-clause-meets : goal.returns-in_err-width-clause-meets
unfolding sign_extended integer_width
returns-in_err-width-clause-meets c = none_stops _ _ _ _ (at_of c.args.h) Refusal.UnsupportedType (wide c.args.v c.integer_width.ensures) c.in_err-width.ensures.value c.refuse.ensures c.from_residual.ensures.1

pub returns-in_err-b-clause-meets : goal.returns-in_err-b-clause-meets
unfolding sign_extended integer_width value_bytes
returns-in_err-b-clause-meets c =
    some_meets _ _ _ _ _ (at_of c.args.h) (wide c.args.v c.integer_width.ensures) c.in_ok-width.ensures.value
    (none_stops _ _ _ _ (at_of c.args.h) Refusal.UnsupportedExpression c.value_bytes.ensures.bytes c.in_err-b.ensures.value c.refuse-2.ensures c.from_residual-in_err-b.ensures.1)

pub returns-in_err-to-clause-meets : goal.returns-in_err-to-clause-meets
unfolding sign_extended integer_width value_bytes masked
returns-in_err-to-clause-meets c =
    some_meets _ _ _ _ _ (at_of c.args.h) (wide c.args.v c.integer_width.ensures) c.in_ok-width.ensures.value
    (some_meets _ _ _ _ _ (at_of c.args.h) c.value_bytes.ensures.bytes c.in_ok-b.ensures.value (filled_stops (extends c.in_ok-width.width (bytes_of c.in_ok-b.b)) (masked (ticket_of c.args.tables.now.lines)) c.in_err-to.ensures.meets c.from_residual-in_err-to.ensures.1))

pub returns-clause-meets : goal.returns-clause-meets
unfolding sign_extended integer_width value_bytes masked
returns-clause-meets c =
    some_meets _ _ _ _ _ (at_of c.args.h) (wide c.args.v c.integer_width.ensures) c.in_ok-width.ensures.value
    (some_meets _ _ _ _ _ (at_of c.args.h) c.value_bytes.ensures.bytes c.in_ok-b.ensures.value
    (filled_meets (extends c.in_ok-width.width (bytes_of c.in_ok-b.b)) (masked (ticket_of c.args.tables.now.lines)) c.requires.1.node c.in_ok-to.ensures.meets c.sign_extend.ensures c.masked.ensures.meets))

pub returns-in_err-to-clause-holds : goal.returns-in_err-to-clause-holds
returns-in_err-to-clause-holds c = holds_out c.in_err-to.ensures.keeps

pub returns-clause-holds : goal.returns-clause-holds
returns-clause-holds c = holds_then (holds_out (keeps_then c.in_ok-to.ensures.keeps (emits_keeps c.sign_extend.ensures))) c.masked.ensures.holds
