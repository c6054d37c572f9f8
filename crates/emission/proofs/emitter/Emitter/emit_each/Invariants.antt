use Rattle.std.proofs.Common.{◌-◌}
use Rattle.emission.specs.Appends.{Room}
use Rattle.emission.specs.Emits.{EmitsMade}
use Rattle.emission.proofs.emitter.Emitter.emit_each.Given as goal

abbrev pub invariant-loop-i : goal.invariant-loop-i
invariant-loop-i g l = Room (l.n - l.i) l.self × EmitsMade (goal.F-post g l.make) l.i l.fn.self l.self
