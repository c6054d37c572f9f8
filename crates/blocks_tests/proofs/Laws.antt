-- What a case that holds says, from what each call ensures.
use mathlib.Core.Path.{◌≡◌, sym, ◌∙◌}
use mathlib.Core.Bool.{Bool, true}
use mathlib.Core.List.{List}
use Prim.Native.Nat.{ℕ}
use lib.ListN.{length}
use Rattle.spec.specs.Text.{same}
use Rattle.cases.specs.Cases.{filling}
use Rattle.cases.proofs.Laws.{filled_length, same_equal}
use Rattle.std.specs.Prelude.{Result}
use Rattle.answers.specs.declared.Refused.{Refused}
use Rattle.blocks.specs.Shown.{outcome, Answers}
use Rattle.blocks.specs.declared.Refusal.{Refusal}
use Rattle.blocks.proofs.Answering.{answered}
use Rattle.blocks_tests.specs.Asked.{turned, fits, Holds}

module _ {call number line room : ℕ} {input e : List ℕ} where
  pub holds_so : {l1 l2 : List ℕ} {a : Result ℕ (Refused Refusal)} {b r : Bool} → l1 ≡ filling room → Answers (turned call) input l1 l2 a
      → b ≡ fits number line (length input) (outcome a) → b ≡ true → r ≡ same l2 e → Holds call number line input room e r
  holds_so {l1} {l2} {a} p q f t s =
      let n : length l1 ≡ room = filled_length p in
      record {
        answers = λ g. rw (← n, ← answered (turned call) input l1 l2 a q, ← f) t;
        leaves = λ g. rw (← p, ← n) (sym q.left ∙ same_equal l2 e (sym s ∙ g));
      }
