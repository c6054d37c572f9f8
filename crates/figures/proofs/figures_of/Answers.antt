-- 41 where no line was counted.
use native.Mathlib.Omega.{arith}
use Rattle.answers.proofs.Laws.{refused_by}
use Rattle.figures.proofs.Gathered.{none_counted, some_counted}
use Rattle.figures.proofs.figures_of.Goals as goal

pub returns-in-None : goal.returns-in-None
returns-in-None c = refused_by _ _ _ _ (none_counted _ _ c.in-None.ensures)

pub returns-in-Some : goal.returns-in-Some
returns-in-Some c =
    let n = rw c.in-Some.ensures at c.in-Some.annex.instructions.some in
    rw (some_counted _ c.args.c (λ e. omega (arith, n)), ← c.in-Some.ensures) c.write.ensures
