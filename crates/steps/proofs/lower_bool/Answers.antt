-- `steps::lower_bool` meets its contract: a constant bit.
use Rattle.std.specs.Prelude.{refl}
use Rattle.spec.specs.Lir.{value, bit_value, constant}
use Rattle.spec.specs.Lower.{lower_expression}
use Rattle.reads.proofs.Laws.{leaf_meets}
use Rattle.steps.proofs.lower_bool.Goals as goal

pub returns : goal.returns
unfolding lower_expression
returns c = λ T from l. leaf_meets l _ (value _ (bit_value (constant _))) refl tt refl
