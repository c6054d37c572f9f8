use Rattle.std.proofs.Common.{◌≡◌, ◌+◌}
use Rattle.tables.specs.Tables.{tab}
use Rattle.spec.specs.Read.{all, in_range}
use Rattle.line_checks.specs.Steps.{earlier_arg, arg_in}
use Rattle.line_checks.proofs.checks.look_over.Given as goal

abbrev pub invariant-loop-i : goal.invariant-loop-i
invariant-loop-i l = (l.seen.ranged ≡ all in_range (tab (arg_in l.fn.form.kind l.fn.form.word l.numbers) 0 l.i))
    × (l.seen.earlier ≡ all (earlier_arg l.counts) (tab (arg_in l.fn.form.kind l.fn.form.word l.numbers) 0 l.i))

abbrev pub invariant-loop-x : goal.invariant-loop-x
invariant-loop-x l = (l.seen.ranged ≡ all in_range (tab (arg_in l.fn.form.kind l.fn.form.word l.numbers) 0 (4 + l.x-index)))
    × (l.seen.earlier ≡ all (earlier_arg l.counts) (tab (arg_in l.fn.form.kind l.fn.form.word l.numbers) 0 (4 + l.x-index)))
