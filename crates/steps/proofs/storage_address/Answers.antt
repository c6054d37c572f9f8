-- `steps::storage_address` meets its contract: a mark, a storage of two bytes and the instruction that fills it.
use Rattle.std.specs.Prelude.{refl}
use Rattle.answers.specs.declared.Refusal.{Refusal}
use Rattle.reads.specs.Reading.{at_of}
use Rattle.steps.proofs.Asks.{told_stops}
use Rattle.steps.proofs.Pointers.{address_refused, address_meets}
use Rattle.emission.specs.Appends.{keeps_then}
use Rattle.emission.specs.Emits.{emits_keeps, allocates_keeps}
use Rattle.values.specs.Left.{length_marked}
use Rattle.steps.proofs.storage_address.Goals as goal

pub returns-then-bit-clause-meets : goal.returns-then-bit-clause-meets
returns-then-bit-clause-meets c = λ tr nd. told_stops Refusal.InvalidPlace c.refuse.ensures (address_refused _ _ _ _ (at_of c.args.h) _ c.if-bit.true)

pub returns-clause-meets : goal.returns-clause-meets
returns-clause-meets c =
    λ tr nd. rw c.pointer_value.ensures (address_meets c.args.lines.now _ _ _ _ (at_of c.args.h) tr nd c.if-bit.false c.narrow.ensures c.allocate_pointer-pointer.ensures c.address_of.ensures)

pub returns-clause-holds : goal.returns-clause-holds
returns-clause-holds c =
    record {
      out = keeps_then (allocates_keeps c.allocate_pointer-pointer.ensures) (emits_keeps c.address_of.ensures);
      marks = refl;
      marks_long = rw c.narrow.ensures (length_marked _ _);
      words = refl;
      words_long = refl;
    }
