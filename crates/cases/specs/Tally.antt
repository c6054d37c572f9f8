-- The count of what ran and failed.
use Rattle.std.specs.Prelude.{ℕ, ◌+◌, min, ◌≡◌, Bool, if◌then◌else◌}
use Rattle.cases.specs.declared.tally.Tally.{Tally}

-- a count stops at the largest number
abbrev pub more : ℕ → ℕ
more n = min (n + 1) 18446744073709551615

-- one case more; one that does not hold is counted as failed
pub record Counted (t : Tally) (held : Bool) (r : Tally) : Type 0 where
  pub ran : r.ran ≡ more t.ran
  pub failed : r.failed ≡ (if held then t.failed else more t.failed)
