-- The tables are small enough.
use native.Mathlib.Omega.{arith}
use Rattle.tables.proofs.lookups.Lines.type_size.Goals as goal

pub cell-requires : goal.cell-requires
cell-requires c = (omega arith, omega (arith, c.args.self.now.sized.types))
