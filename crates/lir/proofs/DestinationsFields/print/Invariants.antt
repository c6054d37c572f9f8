use Rattle.spec.specs.Print.{byte_storage}
use Rattle.lir.specs.Tab.{spot}
use Rattle.lir.specs.Fields.{WritesFields, items}
use Rattle.lir.proofs.DestinationsFields.print.Given as goal

abbrev pub invariant-loop-offset : goal.invariant-loop-offset
invariant-loop-offset l = WritesFields l.fn.w (items byte_storage (spot l.fn.self.storage.0) l.fn.self.count l.offset) l.w
