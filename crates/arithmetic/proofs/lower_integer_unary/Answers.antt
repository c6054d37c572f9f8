-- `arithmetic::lower_integer_unary` meets its contract: the operand's bytes, and then a new temporary.
use Rattle.std.specs.Prelude.{◌≡◌, Ok}
use Rattle.std.proofs.Common.{rules}
use Rattle.answers.specs.declared.Refusal.{Refusal}
use Rattle.spec.specs.Operands.{value_bytes}
use Rattle.spec.specs.Arithmetic.{lower_integer_unary, unary_instructions}
use Rattle.lir.specs.Abstract.{bytes_of}
use Rattle.emission.specs.Appends.{keeps_then}
use Rattle.emission.specs.Does.{meets_done, meets_refused, meets_keeps}
use Rattle.emission.specs.Forms.{unary_form_of}
use Rattle.tables.specs.Ticket.{ticket_of}
use Rattle.values.specs.Left.{holds_then, holds_out}
use Rattle.reads.specs.Reading.{at_of}
use Rattle.steps.proofs.Asks.{told_err, none_stops, some_meets}
use Rattle.steps.proofs.Temporaries.{new_stops}
use Rattle.arithmetic.proofs.Laws.{filled_meets, filled_stops, room_fill, room_filled}
use Rattle.arithmetic.proofs.lower_integer_unary.Goals as goal

pub returns-in_err-input-clause-meets : goal.returns-in_err-input-clause-meets
unfolding lower_integer_unary value_bytes
returns-in_err-input-clause-meets c =
    none_stops bytes_of c.value_bytes.result _ _ (at_of c.args.h) Refusal.UnsupportedExpression c.value_bytes.ensures.bytes c.in_err-input.ensures.value c.refuse.ensures c.from_residual.ensures.1

pub returns-in_err-to-clause-meets : goal.returns-in_err-to-clause-meets
unfolding lower_integer_unary value_bytes
returns-in_err-to-clause-meets c =
    let T = ticket_of c.args.tables.now.lines in
    some_meets bytes_of c.value_bytes.result _ _ _ (at_of c.args.h) c.value_bytes.ensures.bytes c.in_ok-input.ensures.value
    (new_stops T (at_of c.args.h) _ c.in_err-to.ensures.meets c.from_residual-in_err-to.ensures.1)

pub unary_instructions-requires : goal.unary_instructions-requires
unary_instructions-requires c = let T = ticket_of c.args.tables.now.lines in (search rules, room_fill T c.args.tables.now.readable (at_of c.args.h) c.requires.1 c.in_ok-to.ensures.meets)

pub returns-in_err-map_err-clause-meets : goal.returns-in_err-map_err-clause-meets
unfolding lower_integer_unary value_bytes
returns-in_err-map_err-clause-meets c =
    let T = ticket_of c.args.tables.now.lines in
    let w = told_err _ c.unary_instructions.result _ c.in_err-map_err.ensures.cases in
    let made = w.1.1 in
    let e : c.in_err-map_err.field-0.0 ≡ record { refusal = w.0; line = c.args.h.line } = search rules in
    some_meets bytes_of c.value_bytes.result _ _ _ (at_of c.args.h) c.value_bytes.ensures.bytes c.in_ok-input.ensures.value
    (rw c.unary_form.ensures (filled_stops T (at_of c.args.h) c.requires.1.node c.in_ok-to.ensures.meets (λ ds. unary_instructions (ticket_of c.args.tables.now.lines) (unary_form_of c.unary_form.result) c.args.h.ty ds (bytes_of c.in_ok-input.input)) (meets_refused (c.unary_instructions.ensures T c.args.h.ty c.integer_width-width.ensures) w.1.0).0 e c.from_residual-in_err-map_err.ensures.1))

pub masked-requires : goal.masked-requires
masked-requires c =
    let T = ticket_of c.args.tables.now.lines in
    let e : c.unary_instructions.result ≡ Ok tt = search rules in (
      c.in_ok-to.ensures.meets.shown.count,
      room_filled T c.args.tables.now.readable (at_of c.args.h) c.requires.1 c.in_ok-to.ensures.meets (meets_done (c.unary_instructions.ensures T c.args.h.ty c.integer_width-width.ensures) e),
    )

pub returns-clause-meets : goal.returns-clause-meets
unfolding lower_integer_unary value_bytes
returns-clause-meets c =
    let T = ticket_of c.args.tables.now.lines in
    let e : c.unary_instructions.result ≡ Ok tt = search rules in
    some_meets bytes_of c.value_bytes.result _ _ _ (at_of c.args.h) c.value_bytes.ensures.bytes c.in_ok-input.ensures.value
    (rw c.unary_form.ensures (filled_meets T (at_of c.args.h) c.requires.1.node c.in_ok-to.ensures.meets (λ ds. unary_instructions (ticket_of c.args.tables.now.lines) (unary_form_of c.unary_form.result) c.args.h.ty ds (bytes_of c.in_ok-input.input)) (meets_done (c.unary_instructions.ensures T c.args.h.ty c.integer_width-width.ensures) e) c.masked.ensures.meets))

pub returns-in_err-to-clause-holds : goal.returns-in_err-to-clause-holds
returns-in_err-to-clause-holds c = holds_out c.in_err-to.ensures.keeps

pub returns-in_err-map_err-clause-holds : goal.returns-in_err-map_err-clause-holds
returns-in_err-map_err-clause-holds c = holds_out (keeps_then c.in_ok-to.ensures.keeps (meets_keeps (c.unary_instructions.ensures (ticket_of c.args.tables.now.lines) c.args.h.ty c.integer_width-width.ensures)))

pub returns-clause-holds : goal.returns-clause-holds
returns-clause-holds c =
    holds_then
    (holds_out (keeps_then c.in_ok-to.ensures.keeps (meets_keeps (c.unary_instructions.ensures (ticket_of c.args.tables.now.lines) c.args.h.ty c.integer_width-width.ensures))))
    c.masked.ensures.holds
