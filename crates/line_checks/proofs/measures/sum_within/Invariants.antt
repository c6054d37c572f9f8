use Rattle.std.proofs.Common.{◌≡◌, ◌≤◌, ◌+◌, drop}
use Rattle.spec.specs.Ticket.{sum}
use Rattle.line_checks.specs.Types.{part_of}
use Rattle.line_checks.specs.Steps.{capped}
use Rattle.line_checks.proofs.measures.sum_within.Given as goal

abbrev pub invariant-loop-ty : goal.invariant-loop-ty
invariant-loop-ty l = (l.total ≤ l.limit)
    × (capped l.limit (sum (part_of l.types.rows.now l.types.count l.part) l.numbers) ≡ capped l.limit (l.total + sum (part_of l.types.rows.now l.types.count l.part) (drop l.ty-index l.numbers)))
