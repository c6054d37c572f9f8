-- A bit, then the instruction.
use Rattle.lir.specs.Abstract.{compare_op_of, bytes_of}
use Rattle.emission.specs.Forms.{does_comparing}
use Rattle.emission.proofs.emitter.Emitter.compare.Goals as goal

pub returns : goal.returns
returns c =
    let a = c.args in
    λ o e. does_comparing c.allocate_bit_temporary-bit.result.0 o (compare_op_of a.op) a.width (bytes_of a.l) (bytes_of a.r) e c.allocate_bit_temporary-bit.ensures c.emit.ensures
