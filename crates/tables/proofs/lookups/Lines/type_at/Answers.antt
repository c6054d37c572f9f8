-- The three cells are the definition's.
use native.Mathlib.Omega.{arith}
use Rattle.tables.specs.Tables.{type_kind_at}
use Rattle.tables.proofs.lookups.Lines.type_at.Goals as goal

pub cell-w-requires : goal.cell-w-requires
cell-w-requires c = (omega arith, omega (arith, c.args.self.now.sized.types))

pub cell-start-requires : goal.cell-start-requires
cell-start-requires c = (omega arith, omega (arith, c.args.self.now.sized.types))

pub cell-n-requires : goal.cell-n-requires
cell-n-requires c = (omega arith, omega (arith, c.args.self.now.sized.types))

pub returns : goal.returns
unfolding type_kind_at
returns c = rw (← c.cell-w.ensures, ← c.cell-start.ensures, ← c.cell-n.ensures) c.type_in.ensures
