-- By the node's kind; at depth 0 the node is `null`.
use mathlib.Core.Path.{sym, ◌∙◌}
use Rattle.spec.specs.Places.{constant_usize}
use Rattle.tables.proofs.Laws.{tree_none, tree_here}
use Rattle.places.proofs.Facts.{no_constant}
use Rattle.places.proofs.constant_usize.Goals as goal

pub returns-then-depth-eq0 : goal.returns-then-depth-eq0
unfolding constant_usize
returns-then-depth-eq0 c = rw (tree_none _ _ _ _ _ c.if-depth-eq0.true)

pub returns-in-Int : goal.returns-in-Int
unfolding constant_usize
returns-in-Int c = rw (tree_here _ _ _ _ _ _ c.if-depth-eq0.false (sym c.node_at.ensures ∙ c.in-Int.is))

pub returns-in_default : goal.returns-in_default
returns-in_default c = rw (tree_here _ _ _ _ _ _ c.if-depth-eq0.false (sym c.node_at.ensures)) (no_constant _ _ _ _ c.node_at.result c.in_default.not-Int)
