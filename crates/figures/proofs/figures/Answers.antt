-- The answer by what is read.
use Rattle.figures.proofs.Gathered.{answered_refused, held, answered}
use Rattle.answers.proofs.Laws.{refused_by}
use Rattle.std.proofs.lemmas.Result.{err_from_is_err_and}
use Rattle.figures.proofs.figures.Goals as goal

pub figures_of-requires : goal.figures_of-requires
figures_of-requires c = held _ _ c.in_ok-columns.ensures

pub returns-in_err-columns : goal.returns-in_err-columns
returns-in_err-columns c = let p = err_from_is_err_and c.from_residual.result c.from_residual.ensures.1 in rw (p.1, p.2) (refused_by _ _ _ _ (answered_refused _ _ _ _ c.in_err-columns.ensures))

pub returns : goal.returns
returns c = rw (← answered c.args.lines.now _ c.in_ok-columns.ensures _) c.figures_of.ensures
