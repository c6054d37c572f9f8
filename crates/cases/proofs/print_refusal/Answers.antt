-- Five pieces, and 64 bytes are enough for them.
use Rattle.std.proofs.Common.{rules}
use Rattle.cases.proofs.Laws.{printed}
use Rattle.cases.proofs.print_refusal.Goals as goal

pub returns : goal.returns
returns c =
    let p = printed _ _ (search rules) (search rules) (rw c.new-to.ensures.buf c.requires) c.new-to.ensures.at c.bytes.ensures c.number.ensures c.put.ensures c.number-2.ensures c.put-2.ensures in
    search rules
