-- The three pieces put are `storage,k,`, for which there is room.
use native.Mathlib.Omega.{arith}
use Rattle.lines.proofs.Starts.{start_written}
use Rattle.lines.proofs.storage_start.Goals as goal

pub shared_ref_as_front-result : goal.shared_ref_as_front-result
shared_ref_as_front-result c =
    let s = start_written c.args.bytes.now c.args.k (omega arith) (omega arith) c.new-out.ensures.buf c.new-out.ensures.at c.bytes.ensures c.number.ensures c.put.ensures in
    omega (arith, s.1)

pub returns : goal.returns
returns c = (start_written c.args.bytes.now c.args.k (omega arith) (omega arith) c.new-out.ensures.buf c.new-out.ensures.at c.bytes.ensures c.number.ensures c.put.ensures).0
