-- Nothing was gone through yet.
use Rattle.std.specs.Prelude.{refl}
use Rattle.parts.specs.Operands.{left_operands}
use Rattle.parts.proofs.Operands.new.Goals as goal

pub returns : goal.returns
unfolding left_operands
returns c = refl
