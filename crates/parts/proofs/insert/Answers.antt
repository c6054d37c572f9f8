-- The part at p ends where its own records end.
use Rattle.std.proofs.lemmas.Option.{MatchOption-at_some}
use Rattle.parts.proofs.Replaced.{put}
use Rattle.parts.proofs.insert.Goals as goal

pub returns : goal.returns
returns c =
    let a = c.args in
    put a.v a.ty c.in-Aggregate.n c.in-Aggregate.field-1 c.requires (MatchOption-at_some _ _ _ c.in_ok-p.ensures.ok_part c.part_at.ensures) c.behind-q.ensures c.in-Aggregate.is c.put_part.ensures
