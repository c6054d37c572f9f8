-- The count and each place so far are written.
use Rattle.std.proofs.Common.{◌≡◌, arith}
use Rattle.spec.specs.Print.{byte_storage}
use Rattle.lir.specs.Tab.{spot}
use Rattle.lir.specs.Fields.{others, items_none, items_more, destinations_all}
use Rattle.lir.proofs.DestinationsFields.print.Goals as goal

pub loop-offset-init : goal.loop-offset-init
loop-offset-init c = rw (items_none byte_storage (spot c.args.self.storage.0) c.args.self.count) c.print.ensures

pub loop-offset-preserved : goal.loop-offset-preserved
loop-offset-preserved c = rw (items_more byte_storage (spot c.args.self.storage.0) c.args.self.count c.loop-offset.offset) (others c.loop-offset.invariant c.print-in-loop-offset.ensures)

pub returns : goal.returns
returns c = let e : c.loop-offset.offset ≡ c.args.self.count = omega arith in rw (e, destinations_all c.args.self.storage.0 c.args.self.count) at c.loop-offset.invariant
