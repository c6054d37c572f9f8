-- What the two answers about room say.
use mathlib.Core.Path.{◌≡◌}
use mathlib.Core.Bool.{Bool, true, false}
use mathlib.Core.List.{List, [], ◌∷◌}
use Prim.Native.Nat.{ℕ, ◌-◌}
use native.Mathlib.Omega.{arith}
use lib.ListN.{length}
use Rattle.spec.specs.Text.{text}
use Rattle.spec.specs.Answer.{answer}
use Rattle.cases.specs.Cases.{Right}
use Rattle.listing_tests.specs.Asked.{Roomy}

module _ {ticket listing : List ℕ} where
  pub roomy_so : {a b : Bool} → Right (answer ticket (length listing)) listing a → a ≡ true
      → Right (answer ticket (length listing - 1)) (text ("refused,28,0" ∷ [])) b → Roomy ticket listing b
  roomy_so p t q = record { just = λ g. p.so t; short = q.so }

  pub roomy_not : {b : Bool} → b ≡ false → Roomy ticket listing b
  roomy_not f =
      record {
        just = λ t. absurd (let z : ◌≡◌ {A = ℕ} 0 1 = cc in omega arith);
        short = λ t. absurd (let z : ◌≡◌ {A = ℕ} 0 1 = cc in omega arith);
      }
