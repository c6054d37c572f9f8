-- The step that a result of the code's stands for: it appends nothing and leaves the counters, and refuses at the line of the node whose own
-- step it is.
use Rattle.std.specs.Prelude.{Result, Ok, Err}
use Rattle.spec.specs.Monad.{Lower, pure, refuse}
use Rattle.answers.specs.declared.Refusal.{Refusal}
use Rattle.answers.specs.Refusals.{refusal_number}

-- f takes a value of the code's to the definitions'
abbrev pub outcome_of : {A B : Type 0} → (A → B) → Result A Refusal → Lower B
outcome_of f (Ok a) = pure (f a)
outcome_of f (Err e) = refuse (refusal_number e)
