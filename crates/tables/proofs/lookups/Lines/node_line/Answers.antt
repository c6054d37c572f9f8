-- The tables are small enough.
use native.Mathlib.Omega.{arith}
use Rattle.tables.proofs.lookups.Lines.node_line.Goals as goal

pub cell-requires : goal.cell-requires
cell-requires c = (omega arith, omega (arith, c.args.self.now.sized.nodes))
