-- Each half is printed behind what it had.
use mathlib.Core.Path.{refl}
use native.Mathlib.Numerals.{unary_clauses}
use Rattle.text.specs.Put.{sat}
use Rattle.text.specs.Writes.{writes_then}
use Rattle.sections.proofs.finish.Goals as goal

pub returns : goal.returns
unfolding sat
returns c = record { front = c.print_narrowed.ensures; back = simp unary_clauses (writes_then c.print_value.ensures c.print_done.ensures); first = refl; end = c.saturating_add.ensures }
