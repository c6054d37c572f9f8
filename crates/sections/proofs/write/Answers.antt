-- Each half is as long as its part of the buffer.
use Prim.Native.Nat.{◌-◌}
use mathlib.Core.Path.{◌≡◌}
use native.Mathlib.Omega.{arith}
use lib.ListN.{length, take}
use lib.Seq.{length-take-le}
use Rattle.sections.proofs.Laws.{halves_written}
use Rattle.sections.proofs.write.Goals as goal

pub returns : goal.returns
returns c =
    let cut = c.split_at_mut-store.ensures in
    let n = c.args.m.end - c.args.m.front in
    let long : length (take n c.split_at_mut-store.result.1.now) ≡ n = length-take-le n c.split_at_mut-store.result.1.now (omega (arith, cut.back_len, c.requires.3, c.requires.4)) in
    halves_written c.requires.2 (omega (arith, c.well_formed, c.requires.4)) c.args.buffer.now c.requires.4 cut.back c.measure.ensures.halves (omega (arith, c.measure.auto.store, cut.front_len)) (omega (arith, c.measure.auto.code, long))
