-- A variable's or static's offset is small.
use Rattle.places.proofs.Facts.{variable_near, static_near}
use Rattle.places.proofs.+resolve_place_base.Goals as goal

pub placed_base-requires : goal.placed_base-requires
placed_base-requires t c = variable_near c.args.tables.now _ _ c.variable_at.ensures

pub placed_base-requires-in-Variable : goal.placed_base-requires-in-Variable
placed_base-requires-in-Variable t c = variable_near c.args.tables.now _ _ c.variable_at-in-Variable.ensures

pub placed_base-requires-in-Static : goal.placed_base-requires-in-Static
placed_base-requires-in-Static t c = static_near c.args.tables.now _ _ c.static_at.ensures
