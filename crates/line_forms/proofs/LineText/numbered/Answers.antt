use Rattle.line_forms.proofs.NumberLaws.{numbered_broken, numbered_not}
use Rattle.line_forms.proofs.LineText.numbered.Goals as goal

pub returns-in_err-count-clause-form : goal.returns-in_err-count-clause-form
returns-in_err-count-clause-form c = rw c.from_residual.ensures (numbered_broken _ _ _ _ _ _ _ _ c.in_err-count.ensures)

pub returns-else-count_fits-clause-form : goal.returns-else-count_fits-clause-form
returns-else-count_fits-clause-form c = numbered_not _ _ _ _ _ _ _ _ _ c.in_ok-count.ensures _ c.count_fits.ensures c.if-count_fits.false
