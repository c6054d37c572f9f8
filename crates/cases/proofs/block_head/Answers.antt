-- What was read is a head, or none.
use Rattle.std.proofs.Common.{ℕ, arith, length-take}
use Rattle.cases.proofs.Laws.{head_block, block_cut}
use Rattle.cases.proofs.block_head.Goals as goal

pub returns-in-Ok : goal.returns-in-Ok
returns-in-Ok g c =
    head_block c.read_block.new.block {count = g.row.N} _ (omega (arith, length-take {A = ℕ})) c.in-Ok.n c.numbers_in.result c.ok_or.result c.read_block.ensures (cc)
    c.numbers_in.ensures c.ok_or.ensures.value

pub returns-in-Err : goal.returns-in-Err
returns-in-Err g c = block_cut c.read_block.new.block c.in-Err.e (omega (arith, length-take {A = ℕ})) c.read_block.ensures (cc)
