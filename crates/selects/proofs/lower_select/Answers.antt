-- The temporary, the pieces into it, and its value.
use Rattle.std.specs.Prelude.{◌≡◌, ◌≤◌, [], Ok}
use Rattle.std.proofs.Common.{rules, arith, sym, ◌∙◌}
use Rattle.answers.specs.declared.Refusal.{Refusal}
use Rattle.lir.specs.Abstract.{bit_operand_of}
use Rattle.emission.specs.Appends.{keeps_then, room_less}
use Rattle.emission.specs.Does.{meets_keeps}
use Rattle.parts.specs.Records.{are_records}
use Rattle.tables.specs.Ticket.{ticket_of}
use Rattle.tables.proofs.Laws.{size_here}
use Rattle.values.specs.Left.{holds_then, holds_out}
use Rattle.reads.specs.Reading.{at_of}
use Rattle.reads.proofs.Laws.{passed}
use Rattle.steps.proofs.Asks.{told_err, told_stops}
use Rattle.selects.proofs.Selected.{size_few, allocated_keeps, not_placed, types_differ, room_behind, pieces_refused, room_read, selected}
use Rattle.selects.proofs.lower_select.Goals as goal

pub returns-in_err-to-clause-meets : goal.returns-in_err-to-clause-meets
returns-in_err-to-clause-meets c =
    let a = c.args in
    let t = a.tables.now in
    let size = size_here t.lines.rows.now t.lines.lists.now t.lines.counts a.h.ty ∙ sym c.type_size-size.ensures in
    let w = told_err _ c.allocate_temporary.result _ c.in_err-to.ensures.cases in
    let made = w.1.1 in
    let e : c.in_err-to.field-0.0 ≡ record { refusal = w.0; line = a.h.line } = search rules in
    passed c.from_residual.result _ c.from_residual.ensures.1 (rw e (not_placed (ticket_of t.lines) (bit_operand_of a.c) a.t.ty a.f.ty a.h.ty _ _ (at_of a.h) a.l.now (c.allocate_temporary.ensures (ticket_of t.lines) size) w.1.0))

pub returns-then-t-f-clause-meets : goal.returns-then-t-f-clause-meets
returns-then-t-f-clause-meets c =
    let a = c.args in
    let t = a.tables.now in
    let size = size_here t.lines.rows.now t.lines.lists.now t.lines.counts a.h.ty ∙ sym c.type_size-size.ensures in
    let e : c.allocate_temporary.result ≡ Ok c.in_ok-to.to = search rules in
    told_stops Refusal.TypeMismatch c.refuse.ensures
    (types_differ (ticket_of t.lines) (bit_operand_of a.c) a.t.ty a.f.ty a.h.ty _ _ (at_of a.h) a.l.now (c.allocate_temporary.ensures (ticket_of t.lines) size) e c.then-t-f.either)

pub select_values-selected-requires : goal.select_values-selected-requires
select_values-selected-requires c =
    let a = c.args in
    let t = a.tables.now in
    let r = c.requires in
    let size = size_here t.lines.rows.now t.lines.lists.now t.lines.counts a.h.ty ∙ sym c.type_size-size.ensures in
    let e : c.allocate_temporary.result ≡ Ok c.in_ok-to.to = search rules in
    let few : c.type_size-size.result ≤ 1024 = size_few t a.h.ty c.type_size-size.ensures in (
      r.1,
      r.2,
      rw c.take-stack.ensures.value (are_records r.3),
      rw c.take-stack.ensures.value (are_records r.4),
      room_less (omega (arith, c.targets_of-targets.ensures.few few)) (room_behind (ticket_of t.lines) (bit_operand_of a.c) a.t.ty a.f.ty a.h.ty [] [] (at_of a.h) a.l.now (c.allocate_temporary.ensures (ticket_of t.lines) size) e r.0),
    )

pub returns-in_err-map_err-clause-meets : goal.returns-in_err-map_err-clause-meets
returns-in_err-map_err-clause-meets c =
    let a = c.args in
    let t = a.tables.now in
    let size = size_here t.lines.rows.now t.lines.lists.now t.lines.counts a.h.ty ∙ sym c.type_size-size.ensures in
    let e : c.allocate_temporary.result ≡ Ok c.in_ok-to.to = search rules in
    let w = told_err _ c.select_values-selected.result _ c.in_err-map_err.ensures.cases in
    let made = w.1.1 in
    let g : c.in_err-map_err.field-0.0 ≡ record { refusal = w.0; line = a.h.line } = search rules in
    passed c.from_residual-in_err-map_err.result _ c.from_residual-in_err-map_err.ensures.1
    (rw g (pieces_refused (ticket_of t.lines) (bit_operand_of a.c) a.t.ty a.f.ty a.h.ty _ _ (at_of a.h) a.l.now (c.allocate_temporary.ensures (ticket_of t.lines) size) e c.if-t-f.false c.if-t-h.false size c.targets_of-targets.ensures.is (rw c.take-stack.ensures.value at c.select_values-selected.ensures) w.1.0))

pub read_temporary-requires : goal.read_temporary-requires
read_temporary-requires c =
    let a = c.args in
    let t = a.tables.now in
    let size = size_here t.lines.rows.now t.lines.lists.now t.lines.counts a.h.ty ∙ sym c.type_size-size.ensures in
    let e : c.allocate_temporary.result ≡ Ok c.in_ok-to.to = search rules in
    let d : c.select_values-selected.result ≡ Ok tt = search rules in
    let few : c.type_size-size.result ≤ 1024 = size_few t a.h.ty c.type_size-size.ensures in
    rw c.take-stack.ensures.value
    (room_read (ticket_of t.lines) (bit_operand_of a.c) a.t.ty a.f.ty a.h.ty _ _ (at_of a.h) a.l.now (c.allocate_temporary.ensures (ticket_of t.lines) size) e c.if-t-f.false c.if-t-h.false size c.targets_of-targets.ensures.is c.select_values-selected.ensures d t.readable c.requires.0 (omega (arith, c.targets_of-targets.ensures.few few)))

pub returns-clause-meets : goal.returns-clause-meets
returns-clause-meets c =
    let a = c.args in
    let t = a.tables.now in
    let size = size_here t.lines.rows.now t.lines.lists.now t.lines.counts a.h.ty ∙ sym c.type_size-size.ensures in
    let e : c.allocate_temporary.result ≡ Ok c.in_ok-to.to = search rules in
    let d : c.select_values-selected.result ≡ Ok tt = search rules in
    selected (ticket_of t.lines) (bit_operand_of a.c) a.t.ty a.f.ty a.h.ty _ _ (at_of a.h) a.l.now (c.allocate_temporary.ensures (ticket_of t.lines) size) e c.if-t-f.false c.if-t-h.false size c.targets_of-targets.ensures.is (rw c.take-stack.ensures.value at c.select_values-selected.ensures) d c.requires.0.node
    (rw c.take-stack.ensures.value at c.read_temporary.ensures.meets)

pub returns-in_err-to-clause-holds : goal.returns-in_err-to-clause-holds
returns-in_err-to-clause-holds c = holds_out (allocated_keeps c.args.tables.now c.args.h.ty c.type_size-size.ensures c.allocate_temporary.ensures)

pub returns-then-t-f-clause-holds : goal.returns-then-t-f-clause-holds
returns-then-t-f-clause-holds c = holds_out (allocated_keeps c.args.tables.now c.args.h.ty c.type_size-size.ensures c.allocate_temporary.ensures)

pub returns-in_err-map_err-clause-holds : goal.returns-in_err-map_err-clause-holds
returns-in_err-map_err-clause-holds c =
    rw c.take-stack.ensures.value
    (holds_out (keeps_then (allocated_keeps c.args.tables.now c.args.h.ty c.type_size-size.ensures c.allocate_temporary.ensures) (meets_keeps c.select_values-selected.ensures)))

pub returns-clause-holds : goal.returns-clause-holds
returns-clause-holds c =
    holds_then
    (holds_out (keeps_then (allocated_keeps c.args.tables.now c.args.h.ty c.type_size-size.ensures c.allocate_temporary.ensures) (meets_keeps c.select_values-selected.ensures)))
    (rw c.take-stack.ensures.value at c.read_temporary.ensures.holds)
