-- A value among the records on the stack: those behind it, and part i of an aggregate.
use Rattle.std.specs.Prelude.{◌≡◌, List, ◌∷◌, ℕ, ◌+◌, ◌≤◌, ◌<◌, take, drop}
use Rattle.values.specs.Heads.{head_of, Sound_value, records, skip}
use Rattle.values.specs.Stack.{value_at, heads, Stands}

-- a value's own records, from a + 8 to r, and those behind it
pub record Behind (l : List ℕ) (a t r : ℕ) : Type 0 where
  pub later : a + 8 ≤ r
  pub within : r ≤ t
  pub first : heads l a t ≡ head_of (value_at l a) ∷ heads l (a + 8) t
  pub own : Stands l (a + 8) r
  pub own_heads : heads l (a + 8) r ≡ take (records (head_of (value_at l a))) (heads l (a + 8) t)
  pub rest : Stands l r t
  pub rest_heads : heads l r t ≡ drop (records (head_of (value_at l a))) (heads l (a + 8) t)
  pub sound : Sound_value (value_at l a)

-- part i of the records from a to t stands at r
pub record PartAt (l : List ℕ) (a t i r : ℕ) : Type 0 where
  pub later : a ≤ r
  pub before : r < t
  pub stands : Stands l r t
  pub found : heads l r t ≡ skip i (heads l a t)
