use Rattle.std.proofs.Common.{◌+◌, ◌*◌}
use Rattle.lowering.proofs.ListLaws.{Held}
use Rattle.lowering.proofs.+lower.Given as goal

abbrev pub decreases-lower_expression : goal.decreases-lower_expression
decreases-lower_expression l = l.depth * 4

abbrev pub decreases-lower_head : goal.decreases-lower_head
decreases-lower_head l = l.depth * 4 + 1

abbrev pub decreases-lower_conversion : goal.decreases-lower_conversion
decreases-lower_conversion l = l.depth * 4 + 2

abbrev pub decreases-lower_select : goal.decreases-lower_select
decreases-lower_select l = l.depth * 4 + 2

abbrev pub decreases-lower_aggregate : goal.decreases-lower_aggregate
decreases-lower_aggregate l = l.depth * 4 + 2

abbrev pub decreases-lower_extract : goal.decreases-lower_extract
decreases-lower_extract l = l.depth * 4 + 2

abbrev pub decreases-lower_insert : goal.decreases-lower_insert
decreases-lower_insert l = l.depth * 4 + 2

abbrev pub decreases-lower_node : goal.decreases-lower_node
decreases-lower_node l = l.depth * 4 + 3

-- the parts from i on are left
abbrev pub invariant-lower_aggregate-loop-i : goal.invariant-lower_aggregate-loop-i
invariant-lower_aggregate-loop-i l = Held l.tables l.depth l.start l.n l.initial.l l.i l.l
