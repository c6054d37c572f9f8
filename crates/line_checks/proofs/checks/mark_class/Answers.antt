use Rattle.line_checks.proofs.CheckLaws.{mark_place, mark_node}
use Rattle.line_checks.proofs.checks.mark_class.Goals as goal

pub returns-in-PlaceLine : goal.returns-in-PlaceLine
returns-in-PlaceLine c = rw c.in-PlaceLine.is (mark_place _ _ _ c.requires.0 _ _ c.mark.ensures)

pub returns-in-NodeLine : goal.returns-in-NodeLine
returns-in-NodeLine c = rw c.in-NodeLine.is (mark_node _ _ _ c.requires.0 _ _ c.mark-in-NodeLine.ensures)
