-- The answer is shown as the definition shows it.
use Rattle.std.proofs.Common.{refl}
use Rattle.answers.specs.Refusals.{refusal_number}
use Rattle.answers.specs.Answers.{shown}
use Rattle.cases.proofs.Laws.{filled_length, right_judged}
use Rattle.listing_tests.proofs.answered.Goals as goal

pub returns : goal.returns
returns c = rw (← filled_length c.fill.ensures) (right_judged refusal_number shown c.lower-answer.result _ (λ n. refl) (λ e. refl) c.judged.ensures c.lower-answer.ensures.answer)
