-- One storage and one instruction, as the definition appends them.
use Rattle.emission.specs.Appends.{keeps_then}
use Rattle.emission.specs.Emits.{emits_keeps, allocates_keeps}
use Rattle.values.specs.Left.{holds_out}
use Rattle.reads.proofs.Laws.{bool_meets}
use Rattle.reads.proofs.read_bool.Goals as goal

pub returns-clause-meets : goal.returns-clause-meets
returns-clause-meets c = λ T h e. bool_meets T _ _ _ _ h e c.allocate_bit_temporary-id.ensures c.emit.ensures

pub returns-clause-holds : goal.returns-clause-holds
returns-clause-holds c = holds_out (keeps_then (allocates_keeps c.allocate_bit_temporary-id.ensures) (emits_keeps c.emit.ensures))
