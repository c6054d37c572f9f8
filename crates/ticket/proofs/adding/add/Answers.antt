use Rattle.ticket.proofs.AddLaws.{added}
use Rattle.ticket.proofs.adding.add.Goals as goal

pub returns-clause-added : goal.returns-clause-added
returns-clause-added c = let l = c.args.line.now in
    added _ _ l.lists.now _ l.form l.counts.now c.counted.result c.args.e c.rank.result l.own
    l.held l.roomy l.few c.put_line.ensures.put c.counted.ensures c.rank.ensures
