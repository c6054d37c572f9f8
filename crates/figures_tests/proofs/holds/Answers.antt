-- The answer is shown as the definition shows it.
use Rattle.std.proofs.Common.{refl}
use Rattle.figures.specs.Shown.{refusal_number}
use Rattle.answers.specs.Answers.{shown_by}
use Rattle.cases.proofs.Laws.{filled_length, right_judged}
use Rattle.figures_tests.proofs.holds.Goals as goal

pub returns : goal.returns
returns c = rw (← filled_length c.fill.ensures) (right_judged refusal_number (shown_by refusal_number) c.figures-answer.result _ (λ n. refl) (λ e. refl) c.judged.ensures c.figures-answer.ensures.answer)
