-- What a case expects of reading: a refusal's number and line, or number 0 where the ticket is accepted.
use Rattle.std.specs.Prelude.{ℕ, ◌≡◌, Bool, true, ◌&&◌, eqb}
use Rattle.spec.specs.Read.{Read, refused, accepted}

abbrev pub fits : Read → ℕ → ℕ → Bool
fits (refused n l) number line = eqb n number && eqb l line
fits (accepted T) number line = eqb number 0

-- a case that holds says what the definition answers
pub record Holds (o : Read) (number line : ℕ) (r : Bool) : Type 0 where
  pub so : r ≡ true → fits o number line ≡ true
