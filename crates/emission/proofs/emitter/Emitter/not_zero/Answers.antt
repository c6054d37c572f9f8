-- A bit, then the comparison with zeros.
use Rattle.lir.specs.Abstract.{purpose_of}
use Rattle.emission.specs.Forms.{does_comparing_zero}
use Rattle.emission.proofs.emitter.Emitter.not_zero.Goals as goal

pub returns : goal.returns
returns c =
    let a = c.args in
    does_comparing_zero c.allocate_bit_temporary-bit.result.0 (purpose_of a.purpose) a.width a.b c.allocate_bit_temporary-bit.ensures
    (rw c.zero_bytes-zeros.ensures at c.emit.ensures)
