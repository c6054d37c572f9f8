-- `conversions::boolean_to_integer` meets its contract: the bit in a new temporary, or the refusal.
use Rattle.answers.specs.declared.Refusal.{Refusal}
use Rattle.spec.specs.Operands.{value_bit}
use Rattle.spec.specs.Conversions.{boolean_to_integer}
use Rattle.reads.specs.Reading.{at_of}
use Rattle.steps.proofs.Asks.{none_stops, some_meets}
use Rattle.conversions.proofs.Filled.{bits_few, filled_meets, filled_stops, room_new, room_read}
use Rattle.emission.specs.Appends.{keeps_then}
use Rattle.emission.specs.Emits.{emits_keeps}
use Rattle.values.specs.Left.{holds_then, holds_out}
use Rattle.conversions.proofs.boolean_to_integer.Goals as goal

pub bit_to_bytes-requires : goal.bit_to_bytes-requires
bit_to_bytes-requires c = room_new c.args.tables.now.readable c.requires c.in_ok-to.ensures.meets

pub read_temporary-requires : goal.read_temporary-requires
read_temporary-requires c = room_read c.args.tables.now.readable c.requires c.in_ok-to.ensures.meets c.bit_to_bytes.ensures (bits_few c.in_ok-to.to c.in_ok-b.b)

pub returns-in_err-b-clause-meets : goal.returns-in_err-b-clause-meets
unfolding boolean_to_integer value_bit
returns-in_err-b-clause-meets c = none_stops _ _ _ _ (at_of c.args.h) Refusal.UnsupportedExpression c.value_bit.ensures c.in_err-b.ensures.value c.refuse.ensures c.from_residual.ensures.1

pub returns-in_err-to-clause-meets : goal.returns-in_err-to-clause-meets
unfolding boolean_to_integer value_bit
returns-in_err-to-clause-meets c =
    some_meets _ _ _ _ _ (at_of c.args.h) c.value_bit.ensures c.in_ok-b.ensures.value (filled_stops _ _ c.in_err-to.ensures.meets c.from_residual-in_err-to.ensures.1)

pub returns-clause-meets : goal.returns-clause-meets
unfolding boolean_to_integer value_bit
returns-clause-meets c =
    some_meets _ _ _ _ _ (at_of c.args.h) c.value_bit.ensures c.in_ok-b.ensures.value
    (filled_meets _ _ c.requires.node c.in_ok-to.ensures.meets c.bit_to_bytes.ensures c.read_temporary.ensures.meets)

pub returns-in_err-to-clause-holds : goal.returns-in_err-to-clause-holds
returns-in_err-to-clause-holds c = holds_out c.in_err-to.ensures.keeps

pub returns-clause-holds : goal.returns-clause-holds
returns-clause-holds c = holds_then (holds_out (keeps_then c.in_ok-to.ensures.keeps (emits_keeps c.bit_to_bytes.ensures))) c.read_temporary.ensures.holds
