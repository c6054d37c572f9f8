-- The cycle of `lower_expression` meets its contracts together: the depth falls with each node, and at one depth a number for each function.
use Rattle.std.specs.Prelude.{◌≡◌, Ok}
use Rattle.std.proofs.Common.{refl, arith, rules}
use Rattle.spec.specs.Ticket.{nowhere, integer_unary_op, integer_binary_op, compare_op, conversion_op}
use Rattle.spec.specs.Readable.{node_sum}
use Rattle.spec.specs.Lower.{lower_expression, lower_expressions, as_bit, expression_as_bit}
use Rattle.emission.specs.Appends.{room_less}
use Rattle.tables.specs.Ticket.{ticket_of}
use Rattle.values.specs.Left.{holds_then, holds_from, holds_to, holds_stack, shown_done, shown_refused}
use Rattle.parts.specs.Meets.{part_done, part_refused}
use Rattle.reads.specs.Reading.{at_of}
use Rattle.reads.proofs.Laws.{passed, gather_meets, gather_stops}
use Rattle.steps.proofs.Asks.{told_err}
use Rattle.lowering.specs.Nodes.{kids}
use Rattle.lowering.proofs.Sums.{node_after}
use Rattle.lowering.proofs.StepLaws.{lowered, second_stops, first_stops, unary_meets, binary_meets, compare_meets, offset_meets, conversion_meets, reinterpret_meets, bit_meets, condition_stops, select_meets, extract_part, insert_part}
use Rattle.lowering.proofs.RoomLaws.{tree_top, one_ready, one_stands, second_room, two_ready, above_room, insertable, select_room, other_room, condition_room, bit_room, select_ready, list_room}
use Rattle.lowering.proofs.ListLaws.{held_all, rest_none, rest_first, rest_refused, rest_holds, held_more}
use Rattle.lowering.proofs.+lower.Goals as goal

pub lower_node-lower_integer_unary-requires : goal.lower_node-lower_integer_unary-requires
unfolding node_sum
lower_node-lower_integer_unary-requires t c = one_ready c.args.tables.now _ _ (λ f. refl) (rw c.in-Unary.is at c.requires) c.in_ok-operand-in-Unary.ensures.meets

pub lower_node-returns-in_ok-operand-in-Unary-clause-meets : goal.lower_node-returns-in_ok-operand-in-Unary-clause-meets
lower_node-returns-in_ok-operand-in-Unary-clause-meets t c = rw c.in-Unary.is (unary_meets _ _ c.in_ok-operand-in-Unary.ensures.meets (at_of c.args.h) (integer_unary_op c.in-Unary.op) c.lower_integer_unary.ensures.meets)

pub lower_node-returns-in_ok-operand-in-Unary-clause-holds : goal.lower_node-returns-in_ok-operand-in-Unary-clause-holds
lower_node-returns-in_ok-operand-in-Unary-clause-holds t c = holds_then c.in_ok-operand-in-Unary.ensures.holds c.lower_integer_unary.ensures.holds

pub lower_node-lower_head-requires-in-Binary-2 : goal.lower_node-lower_head-requires-in-Binary-2
unfolding node_sum
lower_node-lower_head-requires-in-Binary-2 t c = (omega (arith, c.decreases), second_room c.args.tables.now _ _ _ (λ f. refl) (rw c.in-Binary.is at c.requires) c.in_ok-left-in-Binary.ensures.meets)

pub lower_node-returns-in_err-right-in-Binary-clause-meets : goal.lower_node-returns-in_err-right-in-Binary-clause-meets
unfolding lower_expression
lower_node-returns-in_err-right-in-Binary-clause-meets t c = rw c.in-Binary.is (second_stops _ _ _ _ c.in_ok-left-in-Binary.ensures.meets c.in_err-right-in-Binary.ensures.meets c.from_residual-in_err-right-in-Binary.ensures.1)

pub lower_node-returns-in_err-right-in-Binary-clause-holds : goal.lower_node-returns-in_err-right-in-Binary-clause-holds
lower_node-returns-in_err-right-in-Binary-clause-holds t c = holds_then c.in_ok-left-in-Binary.ensures.holds c.in_err-right-in-Binary.ensures.holds

pub lower_node-lower_integer_binary-requires : goal.lower_node-lower_integer_binary-requires
unfolding node_sum
lower_node-lower_integer_binary-requires t c = two_ready c.args.tables.now _ _ _ (λ f. refl) (rw c.in-Binary.is at c.requires) c.in_ok-left-in-Binary.ensures.meets c.in_ok-right-in-Binary.ensures.meets

pub lower_node-returns-in_ok-right-in-Binary-clause-meets : goal.lower_node-returns-in_ok-right-in-Binary-clause-meets
lower_node-returns-in_ok-right-in-Binary-clause-meets t c = rw c.in-Binary.is (binary_meets _ _ c.in_ok-left-in-Binary.ensures.meets (at_of c.args.h) _ c.in_ok-right-in-Binary.ensures.meets (integer_binary_op c.in-Binary.op) c.lower_integer_binary.ensures.meets)

pub lower_node-returns-in_ok-right-in-Binary-clause-holds : goal.lower_node-returns-in_ok-right-in-Binary-clause-holds
lower_node-returns-in_ok-right-in-Binary-clause-holds t c = holds_then (holds_then c.in_ok-left-in-Binary.ensures.holds c.in_ok-right-in-Binary.ensures.holds) c.lower_integer_binary.ensures.holds

pub lower_node-lower_head-requires-in-Compare-2 : goal.lower_node-lower_head-requires-in-Compare-2
unfolding node_sum
lower_node-lower_head-requires-in-Compare-2 t c = (omega (arith, c.decreases), second_room c.args.tables.now _ _ _ (λ f. refl) (rw c.in-Compare.is at c.requires) c.in_ok-left-in-Compare.ensures.meets)

pub lower_node-returns-in_err-right-in-Compare-clause-meets : goal.lower_node-returns-in_err-right-in-Compare-clause-meets
unfolding lower_expression
lower_node-returns-in_err-right-in-Compare-clause-meets t c = rw c.in-Compare.is (second_stops _ _ _ _ c.in_ok-left-in-Compare.ensures.meets c.in_err-right-in-Compare.ensures.meets c.from_residual-in_err-right-in-Compare.ensures.1)

pub lower_node-returns-in_err-right-in-Compare-clause-holds : goal.lower_node-returns-in_err-right-in-Compare-clause-holds
lower_node-returns-in_err-right-in-Compare-clause-holds t c = holds_then c.in_ok-left-in-Compare.ensures.holds c.in_err-right-in-Compare.ensures.holds

pub lower_node-lower_compare-requires : goal.lower_node-lower_compare-requires
unfolding node_sum
lower_node-lower_compare-requires t c =
    let r = two_ready c.args.tables.now _ _ _ (λ f. refl) (rw c.in-Compare.is at c.requires) c.in_ok-left-in-Compare.ensures.meets c.in_ok-right-in-Compare.ensures.meets in
    (r.0, r.1, room_less (omega arith) r.2.room)

pub lower_node-returns-in_ok-right-in-Compare-clause-meets : goal.lower_node-returns-in_ok-right-in-Compare-clause-meets
unfolding node_sum
lower_node-returns-in_ok-right-in-Compare-clause-meets t c = rw c.in-Compare.is (compare_meets _ _ c.in_ok-left-in-Compare.ensures.meets (at_of c.args.h) _ c.in_ok-right-in-Compare.ensures.meets (compare_op c.in-Compare.op) (c.lower_compare.ensures.meets (two_ready c.args.tables.now _ _ _ (λ f. refl) (rw c.in-Compare.is at c.requires) c.in_ok-left-in-Compare.ensures.meets c.in_ok-right-in-Compare.ensures.meets).2.node))

pub lower_node-returns-in_ok-right-in-Compare-clause-holds : goal.lower_node-returns-in_ok-right-in-Compare-clause-holds
lower_node-returns-in_ok-right-in-Compare-clause-holds t c = holds_then (holds_then c.in_ok-left-in-Compare.ensures.holds c.in_ok-right-in-Compare.ensures.holds) c.lower_compare.ensures.holds

pub lower_node-lower_head-requires-in-Offset-2 : goal.lower_node-lower_head-requires-in-Offset-2
unfolding node_sum
lower_node-lower_head-requires-in-Offset-2 t c = (omega (arith, c.decreases), second_room c.args.tables.now _ _ _ (λ f. refl) (rw c.in-Offset.is at c.requires) c.in_ok-base-in-Offset.ensures.meets)

pub lower_node-returns-in_err-offset-in-Offset-clause-meets : goal.lower_node-returns-in_err-offset-in-Offset-clause-meets
unfolding lower_expression
lower_node-returns-in_err-offset-in-Offset-clause-meets t c = rw c.in-Offset.is (second_stops _ _ _ _ c.in_ok-base-in-Offset.ensures.meets c.in_err-offset-in-Offset.ensures.meets c.from_residual-in_err-offset-in-Offset.ensures.1)

pub lower_node-returns-in_err-offset-in-Offset-clause-holds : goal.lower_node-returns-in_err-offset-in-Offset-clause-holds
lower_node-returns-in_err-offset-in-Offset-clause-holds t c = holds_then c.in_ok-base-in-Offset.ensures.holds c.in_err-offset-in-Offset.ensures.holds

pub lower_node-lower_pointer_offset-requires : goal.lower_node-lower_pointer_offset-requires
unfolding node_sum
lower_node-lower_pointer_offset-requires t c =
    let r = two_ready c.args.tables.now _ _ _ (λ f. refl) (rw c.in-Offset.is at c.requires) c.in_ok-base-in-Offset.ensures.meets c.in_ok-offset-in-Offset.ensures.meets in
    (r.0, r.1, r.2.room)

pub lower_node-returns-in_ok-offset-in-Offset-clause-meets : goal.lower_node-returns-in_ok-offset-in-Offset-clause-meets
unfolding node_sum
lower_node-returns-in_ok-offset-in-Offset-clause-meets t c = rw c.in-Offset.is (offset_meets _ _ c.in_ok-base-in-Offset.ensures.meets (at_of c.args.h) _ c.in_ok-offset-in-Offset.ensures.meets (c.lower_pointer_offset.ensures.meets (ticket_of c.args.tables.now.lines) c.args.tables.now.readable.types (two_ready c.args.tables.now _ _ _ (λ f. refl) (rw c.in-Offset.is at c.requires) c.in_ok-base-in-Offset.ensures.meets c.in_ok-offset-in-Offset.ensures.meets).2.node))

pub lower_node-returns-in_ok-offset-in-Offset-clause-holds : goal.lower_node-returns-in_ok-offset-in-Offset-clause-holds
lower_node-returns-in_ok-offset-in-Offset-clause-holds t c = holds_then (holds_then c.in_ok-base-in-Offset.ensures.holds c.in_ok-offset-in-Offset.ensures.holds) c.lower_pointer_offset.ensures.holds

pub lower_conversion-returns-then-is_reinterpret-clause-meets : goal.lower_conversion-returns-then-is_reinterpret-clause-meets
lower_conversion-returns-then-is_reinterpret-clause-meets t c =
    reinterpret_meets c.args.tables.now _ c.in_ok-whole.ensures.meets c.args.h (conversion_op c.args.op) (c.is_reinterpret.ensures.when c.if-is_reinterpret.true) c.reinterpreted.ensures

pub lower_conversion-lower_conversion-requires : goal.lower_conversion-lower_conversion-requires
unfolding node_sum
lower_conversion-lower_conversion-requires t c = one_ready c.args.tables.now _ _ (λ f. refl) c.requires c.in_ok-operand.ensures.meets

pub lower_conversion-returns-clause-meets : goal.lower_conversion-returns-clause-meets
lower_conversion-returns-clause-meets t c =
    let n = c.is_reinterpret.ensures.otherwise c.if-is_reinterpret.false in
    conversion_meets _ _ c.in_ok-operand.ensures.meets (at_of c.args.h) (conversion_op c.args.op) n (c.lower_conversion.ensures.meets n)

pub lower_conversion-returns-clause-holds : goal.lower_conversion-returns-clause-holds
lower_conversion-returns-clause-holds t c = holds_then c.in_ok-operand.ensures.holds c.lower_conversion.ensures.holds

pub lower_select-lower_expression-requires : goal.lower_select-lower_expression-requires
lower_select-lower_expression-requires t c = (omega (arith, c.decreases), select_room c.args.tables.now c.requires)

pub lower_select-lower_expression-requires-2 : goal.lower_select-lower_expression-requires-2
lower_select-lower_expression-requires-2 t c = (omega (arith, c.decreases), other_room c.args.tables.now c.requires c.in_ok-yes.ensures.meets)

pub lower_select-returns-in_err-no-clause-meets : goal.lower_select-returns-in_err-no-clause-meets
unfolding lower_expression
lower_select-returns-in_err-no-clause-meets t c = second_stops _ _ _ _ c.in_ok-yes.ensures.meets c.in_err-no.ensures.meets c.from_residual-in_err-no.ensures.1

pub lower_select-returns-in_err-no-clause-holds : goal.lower_select-returns-in_err-no-clause-holds
lower_select-returns-in_err-no-clause-holds t c = holds_then c.in_ok-yes.ensures.holds c.in_err-no.ensures.holds

pub lower_select-lower_head-requires : goal.lower_select-lower_head-requires
lower_select-lower_head-requires t c = (omega (arith, c.decreases), condition_room c.args.tables.now c.requires c.in_ok-yes.ensures.meets c.in_ok-no.ensures.meets)

pub lower_select-returns-in_err-condition-clause-meets : goal.lower_select-returns-in_err-condition-clause-meets
unfolding expression_as_bit as_bit
lower_select-returns-in_err-condition-clause-meets t c =
    passed _ _ c.from_residual-in_err-condition.ensures.1 (condition_stops _ _ _ c.in_ok-yes.ensures.meets c.in_ok-no.ensures.meets (at_of c.args.h) _ (first_stops _ _ (shown_refused c.in_err-condition.ensures.meets refl)))

pub lower_select-returns-in_err-condition-clause-holds : goal.lower_select-returns-in_err-condition-clause-holds
lower_select-returns-in_err-condition-clause-holds t c = holds_then (holds_then c.in_ok-yes.ensures.holds c.in_ok-no.ensures.holds) c.in_err-condition.ensures.holds

pub lower_select-value_as_bit-requires : goal.lower_select-value_as_bit-requires
lower_select-value_as_bit-requires t c = bit_room c.args.tables.now c.requires c.in_ok-yes.ensures.meets c.in_ok-no.ensures.meets c.in_ok-condition.ensures.meets

pub lower_select-returns-in_err-bit-clause-meets : goal.lower_select-returns-in_err-bit-clause-meets
lower_select-returns-in_err-bit-clause-meets t c =
    let m = bit_meets _ _ c.in_ok-condition.ensures.meets (at_of c.args.h) (c.in_err-bit.ensures.meets (node_after (lowered c.in_ok-condition.ensures.meets) (node_after (lowered c.in_ok-no.ensures.meets) (node_after (lowered c.in_ok-yes.ensures.meets) c.requires.node)))) in
    passed _ _ c.from_residual-in_err-bit.ensures.1 (condition_stops _ _ _ c.in_ok-yes.ensures.meets c.in_ok-no.ensures.meets (at_of c.args.h) _ (shown_refused m refl))

pub lower_select-returns-in_err-bit-clause-holds : goal.lower_select-returns-in_err-bit-clause-holds
lower_select-returns-in_err-bit-clause-holds t c = holds_then (holds_then (holds_then c.in_ok-yes.ensures.holds c.in_ok-no.ensures.holds) c.in_ok-condition.ensures.holds) c.in_err-bit.ensures.holds

pub lower_select-lower_select-requires : goal.lower_select-lower_select-requires
lower_select-lower_select-requires t c =
    let b = shown_done (bit_meets _ _ c.in_ok-condition.ensures.meets (at_of c.args.h) (c.in_ok-bit.ensures.meets (node_after (lowered c.in_ok-condition.ensures.meets) (node_after (lowered c.in_ok-no.ensures.meets) (node_after (lowered c.in_ok-yes.ensures.meets) c.requires.node))))) refl in
    select_ready c.args.tables.now c.requires c.in_ok-yes.ensures.meets c.in_ok-no.ensures.meets b

pub lower_select-returns-clause-meets : goal.lower_select-returns-clause-meets
lower_select-returns-clause-meets t c =
    let b = shown_done (bit_meets _ _ c.in_ok-condition.ensures.meets (at_of c.args.h) (c.in_ok-bit.ensures.meets (node_after (lowered c.in_ok-condition.ensures.meets) (node_after (lowered c.in_ok-no.ensures.meets) (node_after (lowered c.in_ok-yes.ensures.meets) c.requires.node))))) refl in
    select_meets _ _ c.in_ok-yes.ensures.meets (at_of c.args.h) (tree_top c.args.tables.now _ c.requires.tree) _ c.in_ok-no.ensures.meets _ b c.lower_select.ensures.meets

pub lower_select-returns-clause-holds : goal.lower_select-returns-clause-holds
lower_select-returns-clause-holds t c = holds_then (holds_then (holds_then (holds_then c.in_ok-yes.ensures.holds c.in_ok-no.ensures.holds) c.in_ok-condition.ensures.holds) c.in_ok-bit.ensures.holds) (holds_from c.lower_select.ensures.holds)

pub lower_aggregate-loop-i-init : goal.lower_aggregate-loop-i-init
lower_aggregate-loop-i-init t c = held_all (list_room c.args.tables.now c.args.depth c.args.start c.args.n c.requires)

pub lower_aggregate-lower_expression-requires : goal.lower_aggregate-lower_expression-requires
lower_aggregate-lower_expression-requires t c = (omega (arith, c.decreases), rw c.list_at.ensures (rest_first c.loop-i.invariant.rest c.loop-i-test.true))

pub lower_aggregate-returns-in_err-part-clause-meets : goal.lower_aggregate-returns-in_err-part-clause-meets
unfolding lower_expression
lower_aggregate-returns-in_err-part-clause-meets t c =
    let m = rest_refused c.loop-i.invariant.rest c.loop-i-test.true (rw c.list_at.ensures at c.in_err-part.ensures.meets) in
    gather_stops c.args.h.ty c.args.n (lower_expressions (ticket_of c.args.tables.now.lines) (kids (ticket_of c.args.tables.now.lines) c.args.tables.now.lines.lists.now c.args.depth c.args.start c.args.n)) nowhere m c.from_residual.ensures.1

pub lower_aggregate-returns-in_err-part-clause-holds : goal.lower_aggregate-returns-in_err-part-clause-holds
lower_aggregate-returns-in_err-part-clause-holds t c = rest_holds c.loop-i.invariant c.in_err-part.ensures.holds

pub lower_aggregate-loop-i-preserved : goal.lower_aggregate-loop-i-preserved
lower_aggregate-loop-i-preserved t c =
    rw (c.store8.ensures, c.value_words.ensures) (held_more c.loop-i.invariant c.loop-i-test.true c.in_ok-part.ensures.holds (rw c.list_at.ensures at c.in_ok-part.ensures.meets))

pub lower_aggregate-returns-clause-meets : goal.lower_aggregate-returns-clause-meets
unfolding lower_expression
lower_aggregate-returns-clause-meets t c = gather_meets c.args.h.ty c.args.n (lower_expressions (ticket_of c.args.tables.now.lines) (kids (ticket_of c.args.tables.now.lines) c.args.tables.now.lines.lists.now c.args.depth c.args.start c.args.n)) nowhere (rest_none c.loop-i.invariant.rest c.loop-i-test.false)

pub lower_extract-extract-requires : goal.lower_extract-extract-requires
unfolding node_sum
lower_extract-extract-requires t c = one_stands c.args.tables.now _ _ (λ f. refl) c.requires c.in_ok-whole.ensures.meets

pub lower_extract-returns-in_err-part-clause-meets : goal.lower_extract-returns-in_err-part-clause-meets
lower_extract-returns-in_err-part-clause-meets t c =
    let p = extract_part _ _ c.in_ok-whole.ensures.meets (at_of c.args.h) (tree_top c.args.tables.now _ c.requires.tree) c.args.i c.extract.auto.stack c.extract.ensures in
    let w = told_err _ c.extract.result _ c.in_err-part.ensures.cases in
    let made = w.1.1 in
    let e : c.in_err-part.field-0.0 ≡ record { refusal = w.0; line = c.args.h.line } = search rules in
    passed _ _ c.from_residual-in_err-part.ensures.1 (rw e (part_refused p w.1.0))

pub lower_extract-returns-in_err-part-clause-holds : goal.lower_extract-returns-in_err-part-clause-holds
lower_extract-returns-in_err-part-clause-holds t c = holds_stack c.extract.auto.stack c.in_ok-whole.ensures.holds

pub lower_extract-returns-clause-meets : goal.lower_extract-returns-clause-meets
lower_extract-returns-clause-meets t c =
    let e : c.extract.result ≡ Ok (c.in_ok-part.part, c.in_ok-part.end) = search rules in
    part_done (extract_part _ _ c.in_ok-whole.ensures.meets (at_of c.args.h) (tree_top c.args.tables.now _ c.requires.tree) c.args.i c.extract.auto.stack c.extract.ensures) e

pub lower_extract-returns-clause-holds : goal.lower_extract-returns-clause-holds
lower_extract-returns-clause-holds t c = holds_to _ (holds_stack c.extract.auto.stack c.in_ok-whole.ensures.holds)

pub lower_insert-lower_expression-requires-2 : goal.lower_insert-lower_expression-requires-2
unfolding node_sum
lower_insert-lower_expression-requires-2 t c = (omega (arith, c.decreases), above_room c.args.tables.now _ _ _ (λ f. refl) c.requires c.in_ok-whole.ensures.meets)

pub lower_insert-returns-in_err-part-clause-meets : goal.lower_insert-returns-in_err-part-clause-meets
unfolding lower_expression
lower_insert-returns-in_err-part-clause-meets t c = second_stops _ _ _ _ c.in_ok-whole.ensures.meets c.in_err-part.ensures.meets c.from_residual-in_err-part.ensures.1

pub lower_insert-returns-in_err-part-clause-holds : goal.lower_insert-returns-in_err-part-clause-holds
lower_insert-returns-in_err-part-clause-holds t c = holds_then c.in_ok-whole.ensures.holds c.in_err-part.ensures.holds

pub lower_insert-insert-requires : goal.lower_insert-insert-requires
unfolding node_sum
lower_insert-insert-requires t c = insertable c.args.tables.now _ _ _ (λ f. refl) c.requires c.in_ok-whole.ensures.meets c.in_ok-part.ensures.meets

pub lower_insert-returns-in_err-changed-clause-meets : goal.lower_insert-returns-in_err-changed-clause-meets
lower_insert-returns-in_err-changed-clause-meets t c =
    let p = insert_part _ _ c.in_ok-whole.ensures.meets (at_of c.args.h) (tree_top c.args.tables.now _ c.requires.tree) _ c.in_ok-part.ensures.meets c.args.i c.insert.auto.stack c.insert.ensures in
    let w = told_err _ c.insert.result _ c.in_err-changed.ensures.cases in
    let made = w.1.1 in
    let e : c.in_err-changed.field-0.0 ≡ record { refusal = w.0; line = c.args.h.line } = search rules in
    passed _ _ c.from_residual-in_err-changed.ensures.1 (rw e (part_refused p w.1.0))

pub lower_insert-returns-in_err-changed-clause-holds : goal.lower_insert-returns-in_err-changed-clause-holds
lower_insert-returns-in_err-changed-clause-holds t c = holds_stack c.insert.auto.stack (holds_then c.in_ok-whole.ensures.holds c.in_ok-part.ensures.holds)

pub lower_insert-returns-clause-meets : goal.lower_insert-returns-clause-meets
lower_insert-returns-clause-meets t c =
    let e : c.insert.result ≡ Ok (c.in_ok-changed.changed, c.in_ok-changed.end) = search rules in
    part_done (insert_part _ _ c.in_ok-whole.ensures.meets (at_of c.args.h) (tree_top c.args.tables.now _ c.requires.tree) _ c.in_ok-part.ensures.meets c.args.i c.insert.auto.stack c.insert.ensures) e

pub lower_insert-returns-clause-holds : goal.lower_insert-returns-clause-holds
lower_insert-returns-clause-holds t c = holds_to _ (holds_stack c.insert.auto.stack (holds_then c.in_ok-whole.ensures.holds c.in_ok-part.ensures.holds))

pub lower_node-returns-in-Bool-clause-meets : goal.lower_node-returns-in-Bool-clause-meets
lower_node-returns-in-Bool-clause-meets t c = search rules

pub lower_node-returns-in-Null-clause-meets : goal.lower_node-returns-in-Null-clause-meets
lower_node-returns-in-Null-clause-meets t c = search rules
