-- `steps::lower_function_address` meets its contract: a storage of two bytes and the instruction that fills it.
use Rattle.steps.proofs.Pointers.{function_meets}
use Rattle.emission.specs.Appends.{keeps_then}
use Rattle.emission.specs.Emits.{emits_keeps, allocates_keeps}
use Rattle.values.specs.Left.{holds_out}
use Rattle.steps.proofs.lower_function_address.Goals as goal

pub returns-clause-meets : goal.returns-clause-meets
returns-clause-meets c = λ T h R nd. rw c.pointer_value.ensures (function_meets T R _ _ h nd c.allocate_pointer-pointer.ensures c.function_address.ensures)

pub returns-clause-holds : goal.returns-clause-holds
returns-clause-holds c = holds_out (keeps_then (allocates_keeps c.allocate_pointer-pointer.ensures) (emits_keeps c.function_address.ensures))
