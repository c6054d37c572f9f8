-- `steps::lower_static_address` meets its contract: the address of the storage that the static has.
use Rattle.std.proofs.Common.{◌∙◌}
use Rattle.answers.specs.declared.Refusal.{Refusal}
use Rattle.spec.specs.Select.{lower_static_address}
use Rattle.tables.specs.Tables.{placed_line}
use Rattle.tables.proofs.Laws.{nth_static}
use Rattle.reads.specs.Reading.{at_of}
use Rattle.steps.proofs.Asks.{none_stops, some_meets}
use Rattle.steps.proofs.lower_static_address.Goals as goal

pub returns-in_err-p-clause-meets : goal.returns-in_err-p-clause-meets
unfolding lower_static_address
returns-in_err-p-clause-meets c = λ tr nd. none_stops placed_line c.static_at.result _ _ (at_of c.args.h) Refusal.UnknownPlace (nth_static _ _ _ _ ∙ c.static_at.ensures) c.in_err-p.ensures.value c.refuse.ensures c.from_residual.ensures.1

pub returns-clause-meets : goal.returns-clause-meets
unfolding lower_static_address
returns-clause-meets c = λ tr nd. some_meets placed_line c.static_at.result _ _ _ (at_of c.args.h) (nth_static _ _ _ _ ∙ c.static_at.ensures) c.in_ok-p.ensures.value (c.storage_address.ensures.meets tr nd)
