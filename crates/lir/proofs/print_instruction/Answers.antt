-- Its kind, and then its node.
use Rattle.text.specs.Writes.{writes_then}
use Rattle.lir.specs.Abstract.{kind_of}
use Rattle.lir.specs.Fields.{node_written}
use Rattle.lir.proofs.print_instruction.Goals as goal

pub returns : goal.returns
returns c = node_written (kind_of c.args.i.kind) c.args.i.node.0 c.print_kind.ensures (writes_then c.print.ensures.written c.put.ensures)
