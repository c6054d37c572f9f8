-- As many words as there is room for.
use Rattle.std.proofs.Common.{◌≡◌, ◌∙◌, length, arith, rules}
use Rattle.values.proofs.Stored.{stored_more, dropped_more, not_stored}
use Rattle.values.proofs.store8.Goals as goal
use Rattle.values.proofs.store8.Goals.{then-at-j, else-at-j}

pub loop-j-preserved : goal.loop-j-preserved
loop-j-preserved c =
    let l = c.loop-j in
    let e : length c.args.ws ≡ 8 = search rules in
    elim c.if-at-j.branch [
      | then-at-j w ↦ w.stack-is ∙ stored_more c.args.stack.now l.stack c.args.ws c.args.at l.j (omega arith) l.invariant
      | else-at-j w ↦ w.stack-is ∙ dropped_more c.args.stack.now l.stack c.args.ws c.args.at l.j (omega arith) w.if-at-j.false l.invariant
    ]

pub returns-else-at-stack : goal.returns-else-at-stack
returns-else-at-stack c = not_stored c.args.stack.now c.args.ws c.args.at c.if-at-stack.false
