-- The sum so far and what is left of it are the whole.
use Rattle.std.proofs.Common.{arith}
use Rattle.compiler.proofs.Laws.{sum_more, sum_all, weight_is}
use Rattle.compiler.proofs.weights.Goals as goal

pub loop-k-preserved : goal.loop-k-preserved
loop-k-preserved c =
    let t = c.args.tables.now in
    sum_more t.lines.rows.now t.lines.lists.now t.lines.counts c.loop-k.invariant c.loop-k-test.true (weight_is t.lines.rows.now t.lines.lists.now t.lines.counts c.loop-k.k c.node_type.ensures c.type_weight-sum.ensures)

pub returns : goal.returns
returns c = let t = c.args.tables.now in sum_all t.lines.rows.now t.lines.lists.now t.lines.counts c.loop-k.invariant (omega arith)
