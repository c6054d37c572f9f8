use Rattle.std.specs.Prelude.{◌≡◌, length, take, drop}
use Rattle.std.proofs.lemmas.List.Edits.{sets}
use Rattle.parts.proofs.move_down.Given as goal

abbrev pub invariant-loop-j : goal.invariant-loop-j
invariant-loop-j l = (length l.s ≡ length l.initial.s) × (l.s ≡ sets l.initial.s l.b (take l.j (drop l.a l.initial.s)))
