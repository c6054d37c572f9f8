-- Form by form; an instruction of a width is refused without one.
use Rattle.std.proofs.Common.{◌∷◌, [], arith, rules}
use Rattle.spec.specs.Lir.{add, subtract, integer_binary_bytes}
use Rattle.spec.specs.Arithmetic.{binary_instructions, shifts}
use Rattle.lir.specs.Abstract.{binary_op_of, shift_op_of, destinations_of, bytes_of}
use Rattle.emission.specs.Appends.{keeps_all}
use Rattle.emission.specs.Does.{does_more, does_emits}
use Rattle.emission.specs.Loops.{shifts_few}
use Rattle.emission.specs.Forms.{does_adding, does_subtracting, binary_few, codes_width, codes_refused}
use Rattle.emission.proofs.emitter.Emitter.binary_instructions.Goals as goal

pub returns-in-Adding : goal.returns-in-Adding
returns-in-Adding c =
    let o = c.args.o in
    λ T ty w. record {
      shown = rw c.in-Adding.is (does_more (omega arith) (does_adding T ty o.to o.left o.right c.allocate_carry-carry.result c.allocate_carry-carry.ensures (c.carried_bytes.ensures.emits add (λ d x y i u k p. search rules))));
    }

pub returns-in-Subtracting : goal.returns-in-Subtracting
returns-in-Subtracting c =
    let o = c.args.o in
    λ T ty w. record {
      shown =
          rw c.in-Subtracting.is
          (does_more (omega arith) (does_subtracting T ty o.to o.left o.right c.allocate_carry-borrow.result c.allocate_carry-borrow.ensures (c.carried_bytes-in-Subtracting.ensures.emits subtract (λ d x y i u k p. search rules))));
    }

pub returns-in-Bytewise : goal.returns-in-Bytewise
unfolding binary_instructions
returns-in-Bytewise c =
    let o = c.args.o in
    λ T ty w. record { shown = rw c.in-Bytewise.is (does_emits (omega (arith, binary_few o.to o.left o.right c.in-Bytewise.op)) c.binary_bytes.ensures) }

pub returns-in_default : goal.returns-in_default
unfolding binary_instructions
returns-in_default c =
    let o = c.args.o in
    λ T ty w. rw c.in-Shifting.is
    (codes_refused (λ x. shifts (shift_op_of c.in-Shifting.op) x (destinations_of o.to) (bytes_of o.left) (bytes_of o.right)) (rw c.in_default.is at w) (keeps_all c.args.self.now))

pub returns-in-Some : goal.returns-in-Some
unfolding binary_instructions
returns-in-Some c =
    let o = c.args.o in
    λ T ty w. rw c.in-Shifting.is
    (codes_width (λ x. shifts (shift_op_of c.in-Shifting.op) x (destinations_of o.to) (bytes_of o.left) (bytes_of o.right)) (rw c.in-Some.is at w) (shifts_few _ _ _ _ _) c.shift_bytes.ensures)

pub returns-in_default-width : goal.returns-in_default-width
unfolding binary_instructions
returns-in_default-width c =
    let o = c.args.o in
    λ T ty w. rw c.in-Whole.is
    (codes_refused
    (λ x. integer_binary_bytes (binary_op_of c.in-Whole.op) x (destinations_of o.to) (bytes_of o.left) (bytes_of o.right) ∷ [])
    (rw c.in_default-width.is at w) (keeps_all c.args.self.now))

pub returns-in-Some-width : goal.returns-in-Some-width
unfolding binary_instructions
returns-in-Some-width c =
    let o = c.args.o in
    λ T ty w. rw c.in-Whole.is
    (codes_width
    (λ x. integer_binary_bytes (binary_op_of c.in-Whole.op) x (destinations_of o.to) (bytes_of o.left) (bytes_of o.right) ∷ [])
    (rw c.in-Some-width.is at w) (omega arith) c.emit.ensures)
