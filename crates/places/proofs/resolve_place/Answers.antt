-- A variable's or static's offset is small.
use Rattle.places.proofs.Facts.{variable_near, static_near}
use Rattle.places.proofs.resolve_place.Goals as goal

pub placed_location-requires : goal.placed_location-requires
placed_location-requires c = variable_near c.args.tables.now _ _ c.variable_at.ensures

pub placed_location-requires-in-Variable : goal.placed_location-requires-in-Variable
placed_location-requires-in-Variable c = variable_near c.args.tables.now _ _ c.variable_at-in-Variable.ensures

pub placed_location-requires-in-Static : goal.placed_location-requires-in-Static
placed_location-requires-in-Static c = static_near c.args.tables.now _ _ c.static_at.ensures
