-- The answer by the outcome, and by the room.
use Prim.Native.Nat.{◌<◌}
use native.Mathlib.Omega.{arith}
use Rattle.text.specs.Put.{last}
use Rattle.tables.specs.Ticket.{ticket_of}
use Rattle.sections.proofs.Laws.{sectioned, stopped, front_taken, back_taken, halves_put, answer_refused, answer_accepted}
use Rattle.sections.proofs.lower_tables.Goals as goal
use Rattle.sections.proofs.lower_tables.Goals.{then-m-store+then-end-m, else-m-store}

pub returns-in_err-m : goal.returns-in_err-m
returns-in_err-m c = answer_refused (ticket_of c.args.tables.now.lines) _ _ _ _ c.from_residual.ensures.1 (stopped c.measure.ensures c.in_err-m.was)

pub returns : goal.returns
returns c =
    let S = sectioned c.measure.ensures c.in_ok-m.was in
    let h : c.in_ok-m.m.end < last = omega (arith, c.well_formed, c.if-buffer-end.false) in
    let H = c.measure.ensures.halves in
    elim c.if-m-store.branch [
      | then-m-store+then-end-m w ↦ rw w.buffer-is (answer_accepted S c.args.buffer.now _ c.if-buffer-end.false (omega (arith, c.well_formed))
          (halves_put S h c.args.buffer.now (rw (front_taken S h H w.if-m-store.true, back_taken S h H w.if-end-m.true) at w.copy_halves.ensures)))
      | else-m-store w ↦ rw w.buffer-is (answer_accepted S c.args.buffer.now _ c.if-buffer-end.false (omega (arith, c.well_formed)) w.write.ensures)
    ]
