-- Each word is read before a store reaches it.
use Rattle.std.specs.Prelude.{◌≡◌}
use Rattle.std.proofs.Common.{◌-◌, arith, length-set}
use Rattle.parts.proofs.Moves.{moved_more, moved_all}
use Rattle.parts.proofs.move_down.Goals as goal

pub loop-j-preserved : goal.loop-j-preserved
loop-j-preserved c =
    let l = c.loop-j in
    let a = c.args in
    (simp length-set l.invariant.0, moved_more a.s.now l.s a.a a.b (a.e - a.a) l.j (omega arith) (omega arith) c.requires.0 l.invariant.1)

pub returns : goal.returns
returns c =
    let l = c.loop-j in
    let a = c.args in
    let n : l.j ≡ a.e - a.a = omega arith in
    moved_all a.s.now l.s a.a a.e a.b c.requires.0 c.requires.1 c.requires.2 (rw n at l.invariant.1)
