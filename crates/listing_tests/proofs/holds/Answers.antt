-- The answer is shown as the definition shows it; the tests of room change nothing.
use Rattle.std.proofs.Common.{refl}
use Rattle.answers.specs.Refusals.{refusal_number}
use Rattle.answers.specs.Answers.{shown}
use Rattle.cases.proofs.Laws.{filled_length, right_behind, right_judged}
use Rattle.listing_tests.proofs.holds.Goals as goal

pub returns-then-is_err : goal.returns-then-is_err
returns-then-is_err c =
    rw (← filled_length c.fill.ensures)
    (right_behind (right_judged refusal_number shown c.lower-answer.result _ (λ n. refl) (λ e. refl) c.judged.ensures c.lower-answer.ensures.answer) c.if-judged.true)

pub returns-else-is_err : goal.returns-else-is_err
returns-else-is_err c =
    rw (← filled_length c.fill.ensures)
    (right_behind (right_judged refusal_number shown c.lower-answer.result _ (λ n. refl) (λ e. refl) c.judged.ensures c.lower-answer.ensures.answer) c.if-judged.true)
