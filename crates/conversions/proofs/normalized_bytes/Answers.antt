-- `conversions::normalized_bytes` meets its contract: the bytes themselves, or a masked copy.
use Rattle.std.proofs.Common.{refl, ◌∙◌, rules}
use Rattle.spec.specs.Lir.{value, bytes_value, copy_byte}
use Rattle.lir.specs.Abstract.{bytes_of}
use Rattle.tables.specs.Ticket.{ticket_of}
use Rattle.reads.specs.Reading.{at_of}
use Rattle.reads.proofs.Laws.{leaf_meets}
use Rattle.steps.specs.Temporaries.{masked}
use Rattle.conversions.proofs.Filled.{copies, copies_few, filled_meets, filled_stops, room_new, room_masked, normal_all, normal_odd}
use Rattle.emission.specs.Appends.{keeps_then}
use Rattle.emission.specs.Emits.{emits_keeps}
use Rattle.values.specs.Left.{holds_then, holds_out}
use Rattle.conversions.proofs.normalized_bytes.Goals as goal

pub returns-then-odd_bits-eq0-clause-meets : goal.returns-then-odd_bits-eq0-clause-meets
returns-then-odd_bits-eq0-clause-meets c =
    let a = c.args in
    rw (normal_all (ticket_of a.tables.now.lines) a.h.ty (bytes_of a.b) (at_of a.h) _ (c.odd_bits.ensures.is ∙ c.if-odd_bits-eq0.true)) (leaf_meets a.l.now _ (value a.h.ty (bytes_value (bytes_of a.b))) refl c.requires.0 refl)

pub each_byte-requires-clause-room : goal.each_byte-requires-clause-room
each_byte-requires-clause-room c = (c.requires.0, room_new c.args.tables.now.readable c.requires.1 c.in_ok-to.ensures.meets)

pub masked-requires : goal.masked-requires
masked-requires c = (c.in_ok-to.ensures.meets.shown.count, room_masked c.args.tables.now.readable c.requires.1 c.in_ok-to.ensures.meets (c.each_byte.ensures.emits copy_byte (λ x y k p. search rules)) (copies_few c.in_ok-to.to c.args.b))

pub returns-in_err-to-clause-meets : goal.returns-in_err-to-clause-meets
returns-in_err-to-clause-meets c =
    let a = c.args in
    rw (normal_odd (ticket_of a.tables.now.lines) a.h.ty (bytes_of a.b) (at_of a.h) _ a.tables.now.readable c.odd_bits.ensures.is c.if-odd_bits-eq0.false)
    (filled_stops (copies (bytes_of a.b)) (masked (ticket_of a.tables.now.lines)) c.in_err-to.ensures.meets c.from_residual.ensures.1)

pub returns-clause-meets : goal.returns-clause-meets
returns-clause-meets c =
    let a = c.args in
    rw (normal_odd (ticket_of a.tables.now.lines) a.h.ty (bytes_of a.b) (at_of a.h) _ a.tables.now.readable c.odd_bits.ensures.is c.if-odd_bits-eq0.false)
    (filled_meets (copies (bytes_of a.b)) (masked (ticket_of a.tables.now.lines)) c.requires.1.node c.in_ok-to.ensures.meets (c.each_byte.ensures.emits copy_byte (λ x y k p. search rules)) c.masked.ensures.meets)

pub returns-in_err-to-clause-holds : goal.returns-in_err-to-clause-holds
returns-in_err-to-clause-holds c = holds_out c.in_err-to.ensures.keeps

pub returns-clause-holds : goal.returns-clause-holds
returns-clause-holds c = holds_then (holds_out (keeps_then c.in_ok-to.ensures.keeps (emits_keeps (c.each_byte.ensures.emits copy_byte (λ x y k p. search rules))))) c.masked.ensures.holds
