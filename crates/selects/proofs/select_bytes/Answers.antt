-- The first i bytes are selected.
use Rattle.lir.specs.Abstract.{bit_operand_of}
use Rattle.emission.specs.Emits.{table_none, table_more}
use Rattle.selects.specs.Selecting.{byte_selected}
use Rattle.selects.proofs.select_bytes.Goals as goal

pub loop-i-init : goal.loop-i-init
loop-i-init c = table_none _ _

pub loop-i-preserved : goal.loop-i-preserved
loop-i-preserved c =
    let a = c.args in
    table_more (byte_selected a.to.0 (bit_operand_of a.c) a.t a.f) c.loop-i.i (rw (c.byte_at-x.ensures, c.byte_at-y.ensures)) c.loop-i.invariant c.emit.ensures
