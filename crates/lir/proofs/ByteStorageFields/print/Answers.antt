-- A comma, a storage, a point and an offset.
use Rattle.lir.specs.Fields.{field}
use Rattle.spec.specs.Print.{byte_storage}
use Rattle.lir.proofs.ByteStorageFields.print.Goals as goal

pub returns : goal.returns
unfolding byte_storage
returns c = field c.field_of_two.ensures
