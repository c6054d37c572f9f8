-- `conversions::resized` meets its contract: the bytes at the type's size, or the refusal.
use Rattle.std.proofs.Common.{sym, ◌∙◌}
use Rattle.answers.specs.declared.Refusal.{Refusal}
use Rattle.spec.specs.Operands.{value_bytes}
use Rattle.spec.specs.Conversions.{resized}
use Rattle.tables.proofs.Laws.{size_here}
use Rattle.reads.specs.Reading.{at_of}
use Rattle.steps.proofs.Asks.{none_stops, some_meets}
use Rattle.conversions.proofs.resized.Goals as goal

pub returns-in_err-b-clause-meets : goal.returns-in_err-b-clause-meets
unfolding resized value_bytes
returns-in_err-b-clause-meets c = none_stops _ _ _ _ (at_of c.args.h) Refusal.UnsupportedExpression c.value_bytes.ensures.bytes c.in_err-b.ensures.value c.refuse.ensures c.from_residual.ensures.1

pub returns-clause-meets : goal.returns-clause-meets
unfolding resized value_bytes
returns-clause-meets c =
    let t = c.args.tables.now in
    some_meets _ _ _ _ _ (at_of c.args.h) c.value_bytes.ensures.bytes c.in_ok-b.ensures.value
    (rw (size_here t.lines.rows.now t.lines.lists.now t.lines.counts c.args.h.ty ∙ sym c.type_size.ensures, ← c.resize.ensures.is) c.normalized_bytes.ensures.meets)
