-- By whether it is a rotate, and then by the definition's own test.
use Rattle.std.proofs.Common.{sym, ap, ◌∙◌, arith}
use Rattle.spec.proofs.Lengths.{length_bytes_from}
use Rattle.lir.specs.Abstract.{shift_op_of, destinations_of, bytes_of}
use Rattle.emission.specs.Kinds.{direction_option}
use Rattle.emission.specs.Loops.{turned_one, shift_turned, first_from}
use Rattle.emission.specs.Operands.{length_bytes, first_byte}
use Rattle.emission.proofs.emitter.Emitter.shift_bytes.Goals as goal

pub returns-then-byte_rotate : goal.returns-then-byte_rotate
returns-then-byte_rotate c =
    let o = c.args.o in
    let h = sym c.byte_rotate.ensures ∙ c.if-byte_rotate.true in
    let t = turned_one (shift_op_of c.args.op) c.args.width (destinations_of o.to) (bytes_of o.left) (bytes_of o.right) h in
    rw (
      shift_turned _ _ _ _ _ _ (sym c.rotate_direction.ensures ∙ ap direction_option c.in-Some.is) h,
      first_from o.to.storage.0 o.to.count (omega (arith, t.0, length_bytes_from o.to.storage.0 0 o.to.count)),
      first_byte o.left (omega (arith, t.1, length_bytes o.left)),
    )
    (rw (c.byte_at-first.ensures, c.lowest_byte.ensures) at c.byte_rotates.ensures)
