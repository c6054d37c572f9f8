-- The tables are small enough.
use native.Mathlib.Omega.{arith}
use Rattle.tables.proofs.lookups.Lines.node_type.Goals as goal

pub number-requires : goal.number-requires
number-requires c = omega (arith, c.args.self.now.sized.nodes)
