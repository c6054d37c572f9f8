-- A bit as it stands, or a type read at the greatest depth.
use Rattle.std.proofs.Common.{refl}
use Rattle.spec.specs.Lir.{value, bit_value, stored_bit}
use Rattle.spec.specs.ReadBytes.{read_location}
use Rattle.reads.proofs.Laws.{leaf_meets}
use Rattle.reads.proofs.read_location.Goals as goal

pub returns-then-location-clause-meets : goal.returns-then-location-clause-meets
unfolding read_location
returns-then-location-clause-meets c =
    let a = c.args in
    rw c.if-location.true (leaf_meets a.l.now _ (value a.location.ty (bit_value (stored_bit a.location.storage.0))) refl tt refl)

pub returns-clause-meets : goal.returns-clause-meets
unfolding read_location
returns-clause-meets c = rw c.if-location.false c.read_bytes_as_type.ensures.meets
