-- What was read is a head, or none.
use Rattle.std.proofs.Common.{arith}
use Rattle.cases.proofs.Laws.{head_line, head_cut}
use Rattle.cases.proofs.line_head.Goals as goal

pub returns-in-Ok : goal.returns-in-Ok
returns-in-Ok g c = head_line c.read_line.new.line _ c.in-Ok.n c.numbers_in.result c.ok_or.result c.read_line.ensures (cc) c.numbers_in.ensures c.ok_or.ensures.value

pub returns-in-Err : goal.returns-in-Err
returns-in-Err g c = head_cut c.read_line.new.line c.in-Err.e (omega arith) c.read_line.ensures (cc)
