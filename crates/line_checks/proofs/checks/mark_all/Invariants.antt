use Rattle.std.proofs.Common.{◌+◌}
use Rattle.std.specs.Prelude.{Some}
use Rattle.tables.specs.Tables.{tab}
use Rattle.line_checks.specs.Steps.{arg_in, MarkedDeep}
use Rattle.line_checks.proofs.checks.mark_all.Given as goal

abbrev pub invariant-loop-i : goal.invariant-loop-i
invariant-loop-i l = MarkedDeep l.fn.rows l.rows l.counts (tab (arg_in l.fn.form.kind l.fn.form.word l.numbers) 0 l.i) (Some l.most)

abbrev pub invariant-loop-x : goal.invariant-loop-x
invariant-loop-x l = MarkedDeep l.fn.rows l.rows l.counts (tab (arg_in l.fn.form.kind l.fn.form.word l.numbers) 0 (4 + l.x-index)) (Some l.most)
