-- What is asked of room: a listing's own length is enough, and a byte less is refused with 28.
use Rattle.std.specs.Prelude.{ℕ, ◌-◌, ◌≡◌, Bool, true, List, [], ◌∷◌, length}
use Rattle.spec.specs.Text.{text}
use Rattle.spec.specs.Answer.{answer}
use Rattle.cases.specs.Cases.{shown}

pub record Roomy (ticket listing : List ℕ) (r : Bool) : Type 0 where
  pub just : r ≡ true → shown (answer ticket (length listing)) ≡ listing
  pub short : r ≡ true → shown (answer ticket (length listing - 1)) ≡ text ("refused,28,0" ∷ [])
