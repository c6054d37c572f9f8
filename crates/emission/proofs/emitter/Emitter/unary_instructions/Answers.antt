-- Form by form; an instruction of a width is refused without one.
use Rattle.std.proofs.Common.{◌∷◌, [], arith, rules}
use Rattle.spec.specs.Lir.{not_byte, integer_unary_bytes}
use Rattle.spec.specs.Arithmetic.{unary_instructions}
use Rattle.lir.specs.Abstract.{unary_op_of, destinations_of, bytes_of}
use Rattle.emission.specs.Appends.{keeps_all}
use Rattle.emission.specs.Does.{does_more, does_emits}
use Rattle.emission.specs.Forms.{does_negating, each_few, codes_width, codes_refused}
use Rattle.emission.proofs.emitter.Emitter.unary_instructions.Goals as goal

pub returns-in-Negating : goal.returns-in-Negating
returns-in-Negating c =
    let a = c.args in
    λ T ty w. record {
      shown = rw c.in-Negating.is (does_more (omega arith) (does_negating T ty a.d a.b c.allocate_carry-borrow.result c.allocate_carry-borrow.ensures c.negate_bytes.ensures));
    }

pub returns-in-Inverting : goal.returns-in-Inverting
unfolding unary_instructions
returns-in-Inverting c =
    λ T ty w. record { shown = rw c.in-Inverting.is (does_emits (omega (arith, each_few c.args.d c.args.b not_byte)) (c.each_byte.ensures.emits not_byte (λ x y k p. search rules))) }

pub returns-in_default : goal.returns-in_default
unfolding unary_instructions
returns-in_default c =
    let a = c.args in
    λ T ty w. rw c.in-Counting.is
    (codes_refused (λ x. integer_unary_bytes (unary_op_of c.in-Counting.op) x (destinations_of a.d) (bytes_of a.b) ∷ []) (rw c.in_default.is at w) (keeps_all a.self.now))

pub returns-in-Some : goal.returns-in-Some
unfolding unary_instructions
returns-in-Some c =
    let a = c.args in
    λ T ty w. rw c.in-Counting.is
    (codes_width (λ x. integer_unary_bytes (unary_op_of c.in-Counting.op) x (destinations_of a.d) (bytes_of a.b) ∷ []) (rw c.in-Some.is at w) (omega arith) c.emit.ensures)
