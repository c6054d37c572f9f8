-- The examples, computed: the tables are read from their ticket, every premise holds, and the run leaves the number.
use Prim.Native.Nat.{ℕ}
use mathlib.Core.Bool.{true}
use mathlib.Core.Path.{◌≡◌, refl}
use native.Mathlib.Omega.{arith}
use native.Mathlib.Nat.{mod-lt}
use Rattle.spec.specs.Text.{text}
use Rattle.numerics.specs.Numerics as numerics
use Rattle.spec.specs.Read.{read_ticket}
use Rattle.spec.specs.Read as reading
use Rattle.spec.specs.Machine.{Proper}
use Rattle.spec.specs.Machine as machine
use Rattle.spec.specs.Typed as typing
use Rattle.spec.specs.Eval as meaning
use Rattle.spec.specs.Answer as answer
use Rattle.spec.specs.RunNeeds as needs
use Rattle.spec.specs.RunCases.{T, ticket, memory, all_shown}
use Rattle.spec.specs.RunCases as cases

-- to unfold `computing` is to unfold all that reading, lowering, running and the numerics compute by
unfoldable pub computing : Unit {0}
unfolding answer.computing numerics.signed numerics.unsigned numerics.sat_u numerics.sat_s numerics.iadd numerics.isub numerics.imul numerics.idiv_u numerics.idiv_s numerics.irem_u numerics.irem_s numerics.ineg numerics.iadd_sat_u numerics.iadd_sat_s numerics.isub_sat_u numerics.isub_sat_s numerics.inot numerics.iand numerics.ior numerics.ixor numerics.shifted_left numerics.shifted_right numerics.rotated_left numerics.rotated_right numerics.top_bits numerics.sign_bit numerics.ishl numerics.ishr_u numerics.ishr_s numerics.irotl numerics.irotr numerics.significant numerics.trailing numerics.ones numerics.iclz numerics.ictz numerics.ipopcnt numerics.ieqz numerics.ieq numerics.ine numerics.ilt_u numerics.ilt_s numerics.igt_u numerics.igt_s numerics.ile_u numerics.ile_s numerics.ige_u numerics.ige_s numerics.extend_u numerics.extend_s numerics.wrap machine.le machine.bytes_of machine.set_byte machine.set_bit machine.set_bytes machine.set_carry machine.distance machine.shift_op machine.compare_op machine.unary_op machine.binary_op machine.defined machine.effect machine.step machine.run typing.is_bits typing.part_type typing.conversion_typed typing.typed typing.is_leaf typing.single_operation meaning.data_of meaning.part_at meaning.set_part meaning.unary_numeric meaning.binary_numeric meaning.compare_numeric meaning.located meaning.based meaning.plain_data meaning.element_data meaning.field_data meaning.word_data meaning.stored_data meaning.read_data meaning.conversion_data meaning.eval meaning.storage_bytes meaning.read_inside meaning.fits meaning.in_order needs.bools_in_range
computing = tt

-- ---------------------------------------------------------------- the tables and memories

pub is_read : read_ticket (text ticket) ≡ reading.accepted T
unfolding computing
is_read = refl

pub proper : (a b : ℕ) → Proper (memory a b)
proper a b = record { bytes = λ s o. mod-lt _ (omega arith); bits = λ s. omega arith }

-- ---------------------------------------------------------------- the cases

-- each unary operator
unaries : all_shown cases.unaries ≡ true
unfolding computing
unaries = refl

-- each binary operator
binaries : all_shown cases.binaries ≡ true
unfolding computing
binaries = refl

-- shifts at the width's edge: a distance of the width is 0
shifts : all_shown cases.shifts ≡ true
unfolding computing
shifts = refl

-- a distance is the whole amount
distances : all_shown cases.distances ≡ true
unfolding computing
distances = refl

-- a byte rotated by a constant
rotates : all_shown cases.rotates ≡ true
unfolding computing
rotates = refl

-- saturation at both ends
saturations : all_shown cases.saturations ≡ true
unfolding computing
saturations = refl

-- each comparison
comparisons : all_shown cases.comparisons ≡ true
unfolding computing
comparisons = refl

-- each conversion; a packed bool, a bool in a byte and a constant one
conversions : all_shown cases.conversions ≡ true
unfolding computing
conversions = refl

-- 12 as an element of an array
elements : all_shown cases.elements ≡ true
unfolding computing
elements = refl
