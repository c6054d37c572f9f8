-- A type by its kind: a leaf as its own step leaves it, an aggregate by its parts, one after the other.
use Rattle.std.proofs.Common.{refl, sym, ◌∙◌, arith}
use Rattle.spec.specs.Lir.{value, unit}
use Rattle.spec.specs.ReadBytes.{read_word, read_bytes_as_type}
use Rattle.emission.specs.Appends.{room_less}
use Rattle.tables.specs.Ticket.{ticket_of}
use Rattle.tables.specs.declared.TypeKind.{TypeKind}
use Rattle.values.specs.Left.{stops}
use Rattle.reads.specs.Reading.{at_of, part_type}
use Rattle.reads.proofs.Lines.{Parted, size_at_of, read_here, plain_here, bool_size, parted_array, parted_fields, read_parted}
use Rattle.reads.proofs.Laws.{leaf_meets, gather_meets, gather_stops, room_parts}
use Rattle.reads.proofs.PartLaws.{rest_none, rest_first, rest_reach, rest_refused, rest_holds, rest_marks, held_more}
use Rattle.reads.proofs.+read_bytes_as_type_read_parts.Goals as goal
use Rattle.reads.proofs.+read_bytes_as_type_read_parts.Goals.{read_bytes_as_type-in-Array, read_bytes_as_type-in-Struct, read_bytes_as_type-in-Struct-2}

pub read_bytes_as_type-returns-then-depth-eq0-clause-meets : goal.read_bytes_as_type-returns-then-depth-eq0-clause-meets
unfolding read_bytes_as_type
read_bytes_as_type-returns-then-depth-eq0-clause-meets t c = rw (c.if-depth-eq0.true, c.refuse.ensures) (stops refl)

pub read_bytes_as_type-returns-in-Unit-clause-meets : goal.read_bytes_as_type-returns-in-Unit-clause-meets
unfolding read_word
read_bytes_as_type-returns-in-Unit-clause-meets t c =
    let a = c.args in
    rw (read_here a.tables.now a.ty TypeKind.Unit (sym c.in-Unit.ensures) a.depth a.storage.0 a.o c.if-depth-eq0.false) (leaf_meets a.l.now _ (value a.ty unit) refl tt refl)

pub read_bytes_as_type-read_bool-requires : goal.read_bytes_as_type-read_bool-requires
read_bytes_as_type-read_bool-requires t c =
    let a = c.args in
    room_less (omega (arith, bool_size a.tables.now a.ty (sym c.in-Bool.ensures))) c.requires.room

pub read_bytes_as_type-returns-in-Bool-clause-meets : goal.read_bytes_as_type-returns-in-Bool-clause-meets
unfolding read_word
read_bytes_as_type-returns-in-Bool-clause-meets t c =
    let a = c.args in
    rw (read_here a.tables.now a.ty TypeKind.Bool (sym c.in-Bool.ensures) a.depth a.storage.0 a.o c.if-depth-eq0.false) (c.read_bool.ensures.meets (ticket_of a.tables.now.lines) (at_of a.h) c.requires.node)

pub read_bytes_as_type-returns-in-Bits-clause-meets : goal.read_bytes_as_type-returns-in-Bits-clause-meets
read_bytes_as_type-returns-in-Bits-clause-meets t c =
    let a = c.args in
    rw (plain_here a.tables.now a.ty c.in-Bits.is c.type_at.ensures a.depth a.storage.0 a.o c.if-depth-eq0.false) (c.read_plain.ensures a.l.now (at_of a.h))

pub read_bytes_as_type-returns-in-Float-clause-meets : goal.read_bytes_as_type-returns-in-Float-clause-meets
unfolding read_word
read_bytes_as_type-returns-in-Float-clause-meets t c =
    let a = c.args in
    rw (read_here a.tables.now a.ty (TypeKind.Float c.in-Float.field-0) (sym c.in-Float.ensures) a.depth a.storage.0 a.o c.if-depth-eq0.false, c.refuse-in-Float.ensures) (stops refl)

pub read_bytes_as_type-read_parts-requires : goal.read_bytes_as_type-read_parts-requires
read_bytes_as_type-read_parts-requires t c =
    let a = c.args in
    let parted : Parted (ticket_of a.tables.now.lines) a.tables.now.lines.lists.now a.ty c.match-type_at.parts.0 c.match-type_at.parts.1 = elim c.match-type_at.branch [
      | read_bytes_as_type-in-Array w ↦ rw w.parts-is (parted_array a.tables.now a.ty w.in-Array.is c.type_at.ensures)
      | read_bytes_as_type-in-Struct w ↦ rw w.parts-is (parted_fields a.tables.now a.ty w.in-Struct.is c.type_at.ensures)
      | read_bytes_as_type-in-Struct-2 w ↦ rw w.parts-is (parted_fields a.tables.now a.ty w.in-Struct.is c.type_at.ensures)
    ] in
    (omega (arith, c.decreases, c.if-depth-eq0.false), room_parts parted.size parted.weight c.requires)

pub read_bytes_as_type-returns-in_err-read_parts-clause-meets : goal.read_bytes_as_type-returns-in_err-read_parts-clause-meets
read_bytes_as_type-returns-in_err-read_parts-clause-meets t c =
    let a = c.args in
    let parted : Parted (ticket_of a.tables.now.lines) a.tables.now.lines.lists.now a.ty c.match-type_at.parts.0 c.match-type_at.parts.1 = elim c.match-type_at.branch [
      | read_bytes_as_type-in-Array w ↦ rw w.parts-is (parted_array a.tables.now a.ty w.in-Array.is c.type_at.ensures)
      | read_bytes_as_type-in-Struct w ↦ rw w.parts-is (parted_fields a.tables.now a.ty w.in-Struct.is c.type_at.ensures)
      | read_bytes_as_type-in-Struct-2 w ↦ rw w.parts-is (parted_fields a.tables.now a.ty w.in-Struct.is c.type_at.ensures)
    ] in
    rw (read_parted a.tables.now a.ty parted a.depth a.storage.0 a.o c.if-depth-eq0.false) (gather_stops a.ty _ _ (at_of a.h) c.in_err-read_parts.ensures.meets c.from_residual.ensures.1)

pub read_bytes_as_type-returns-clause-meets : goal.read_bytes_as_type-returns-clause-meets
read_bytes_as_type-returns-clause-meets t c =
    let a = c.args in
    let parted : Parted (ticket_of a.tables.now.lines) a.tables.now.lines.lists.now a.ty c.match-type_at.parts.0 c.match-type_at.parts.1 = elim c.match-type_at.branch [
      | read_bytes_as_type-in-Array w ↦ rw w.parts-is (parted_array a.tables.now a.ty w.in-Array.is c.type_at.ensures)
      | read_bytes_as_type-in-Struct w ↦ rw w.parts-is (parted_fields a.tables.now a.ty w.in-Struct.is c.type_at.ensures)
      | read_bytes_as_type-in-Struct-2 w ↦ rw w.parts-is (parted_fields a.tables.now a.ty w.in-Struct.is c.type_at.ensures)
    ] in
    rw (read_parted a.tables.now a.ty parted a.depth a.storage.0 a.o c.if-depth-eq0.false) (gather_meets a.ty _ _ (at_of a.h) c.in_ok-read_parts.ensures.meets)

pub read_parts-read_bytes_as_type-requires : goal.read_parts-read_bytes_as_type-requires
read_parts-read_bytes_as_type-requires t c = (omega (arith, c.decreases), rw c.ty-ty.ensures (rest_first c.loop-i.invariant.rest c.loop-i-test.true))

pub read_parts-returns-in_err-head-clause-meets : goal.read_parts-returns-in_err-head-clause-meets
read_parts-returns-in_err-head-clause-meets t c = rest_refused c.loop-i.invariant.rest c.loop-i-test.true (rw c.ty-ty.ensures at c.in_err-head.ensures.meets) c.from_residual.ensures.1

pub read_parts-returns-in_err-head-clause-holds : goal.read_parts-returns-in_err-head-clause-holds
read_parts-returns-in_err-head-clause-holds t c = rest_holds c.loop-i.invariant c.loop-i-test.true c.in_err-head.ensures.holds

pub read_parts-returns-in_err-head-clause-marks : goal.read_parts-returns-in_err-head-clause-marks
read_parts-returns-in_err-head-clause-marks t c = rest_marks c.loop-i.invariant c.loop-i-test.true c.in_err-head.ensures.marks

pub read_parts-overflow_add-at : goal.read_parts-overflow_add-at
read_parts-overflow_add-at t c =
    let s = rw c.ty-ty.ensures at c.type_size-at.ensures in
    omega (arith, rest_reach c.loop-i.invariant.rest c.loop-i-test.true, size_at_of c.args.tables.now (part_type c.args.tables.now.lines.lists.now c.args.parts c.loop-i.i), s)

pub read_parts-loop-i-preserved : goal.read_parts-loop-i-preserved
read_parts-loop-i-preserved t c =
    let T = c.args.tables.now in
    let s = rw c.ty-ty.ensures at c.type_size-at.ensures in
    let e = s ∙ sym (size_at_of T (part_type T.lines.lists.now c.args.parts c.loop-i.i)) in
    rw (e, c.store8.ensures, c.value_words.ensures) (held_more c.loop-i.invariant c.loop-i-test.true T.readable.types c.in_ok-head.ensures.holds c.in_ok-head.ensures.marks (rw c.ty-ty.ensures at c.in_ok-head.ensures.meets))

pub read_parts-returns-clause-meets : goal.read_parts-returns-clause-meets
read_parts-returns-clause-meets t c = rest_none c.loop-i.invariant.rest c.loop-i-test.false
