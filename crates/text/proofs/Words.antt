-- A byte at a position, in the shape of what reading needs.
use Prim.Native.Nat.{ℕ, ◌+◌, ◌≤◌, ◌<◌}
use mathlib.Core.List.{List}
use Rattle.std.specs.Prelude.{None, Some}
use mathlib.Core.Path.{◌≡◌}
use lib.ListN.{length, get_or}
use borrow.Author.Tests.{le-ltb, lt-ltb, eq-eqb, ne_eqb}
use Rattle.text.specs.Field.{byte_at}

module _ (s : List ℕ) (at b : ℕ) where
  pub byte_over : length s ≤ at → None ≡ byte_at s at b
  unfolding byte_at
  byte_over h = rw (le-ltb at (length s) h)

  pub byte_found : at < length s → get_or s at 0 ≡ b → Some (at + 1) ≡ byte_at s at b
  unfolding byte_at
  byte_found h e = rw (lt-ltb at (length s) h, eq-eqb (get_or s at 0) b e)

  pub byte_other : at < length s → (get_or s at 0 ≡ b → ⊥) → None ≡ byte_at s at b
  unfolding byte_at
  byte_other h n = rw (lt-ltb at (length s) h, ne_eqb (get_or s at 0) b n)

pub ruleset bytes_at = (byte_over, byte_found, byte_other)
