-- `steps::lower_address_of` meets its contract: the address of the base that the place leads to.
use Rattle.std.specs.Prelude.{◌≡◌, Ok}
use Rattle.std.proofs.Common.{rules}
use Rattle.spec.specs.Select.{lower_address_of}
use Rattle.places.specs.Abstract.{base_from}
use Rattle.reads.specs.Reading.{at_of}
use Rattle.steps.proofs.Asks.{told_err, place_stops, place_meets}
use Rattle.steps.proofs.lower_address_of.Goals as goal

pub returns-in_err-base-clause-meets : goal.returns-in_err-base-clause-meets
unfolding lower_address_of
returns-in_err-base-clause-meets c =
    let w = told_err _ c.resolve_addressed_place.result _ c.in_err-base.ensures.cases in
    let made = w.1.1 in
    let e : c.in_err-base.field-0.0 ≡ record { refusal = w.0; line = c.args.h.line } = search rules in
    λ nd. place_stops (base_from c.args.tables.now.lines.lists.now) c.resolve_addressed_place.result _ (at_of c.args.h) c.resolve_addressed_place.ensures.step w.1.0 e c.from_residual.ensures.1

pub returns-clause-meets : goal.returns-clause-meets
unfolding lower_address_of
returns-clause-meets c =
    let e : c.resolve_addressed_place.result ≡ Ok c.in_ok-base.base = search rules in
    λ nd. place_meets (base_from c.args.tables.now.lines.lists.now) c.resolve_addressed_place.result _ (at_of c.args.h) c.resolve_addressed_place.ensures.step e (c.storage_address.ensures.meets c.args.tables.now.readable.types nd)
