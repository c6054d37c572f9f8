-- A new bit, the choice into it, and the byte that it becomes.
use Rattle.selects.proofs.Laws.{bit_chosen}
use Rattle.selects.proofs.select_as_byte.Goals as goal

pub returns : goal.returns
returns c = bit_chosen c.allocate_bit_temporary-bit.ensures c.emit.ensures c.emit-2.ensures
