-- `steps::lower_read` meets its contract: the location that the place leads to, read.
use Rattle.std.specs.Prelude.{◌≡◌, Ok}
use Rattle.std.proofs.Common.{rules}
use Rattle.spec.specs.Lower.{lower_read}
use Rattle.places.specs.Abstract.{location_from}
use Rattle.reads.specs.Reading.{at_of}
use Rattle.steps.proofs.Asks.{told_err, place_stops, place_meets}
use Rattle.steps.proofs.Laws.{room_found}
use Rattle.steps.proofs.lower_read.Goals as goal

pub returns-in_err-found-clause-meets : goal.returns-in_err-found-clause-meets
unfolding lower_read
returns-in_err-found-clause-meets c =
    let w = told_err _ c.resolve_place.result _ c.in_err-found.ensures.cases in
    let made = w.1.1 in
    let e : c.in_err-found.field-0.0 ≡ record { refusal = w.0; line = c.args.h.line } = search rules in
    place_stops location_from c.resolve_place.result _ (at_of c.args.h) c.resolve_place.ensures.at w.1.0 e c.from_residual.ensures.1

pub read_location-requires : goal.read_location-requires
read_location-requires c = let e : c.resolve_place.result ≡ Ok c.in_ok-found.found = search rules in room_found c.args.tables.now _ _ _ c.resolve_place.ensures.at e c.resolve_place.ensures.near c.requires

pub returns-clause-meets : goal.returns-clause-meets
unfolding lower_read
returns-clause-meets c = let e : c.resolve_place.result ≡ Ok c.in_ok-found.found = search rules in place_meets location_from c.resolve_place.result _ (at_of c.args.h) c.resolve_place.ensures.at e c.read_location.ensures.meets
