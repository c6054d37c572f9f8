-- What the root's lowering needs at most, as numbers: by the limits that reading keeps.
use Prim.Native.Nat.{◌+◌, ◌*◌, ◌≤◌}
use mathlib.Core.Path.{◌≡◌}
use native.Mathlib.Omega.{arith}
use lib.ListN.{length}
use Rattle.spec.specs.Limits.{node_lines, storage_lines, greatest_16, size_sum_limit, weight_sum_limit}
use Rattle.spec.specs.Ticket.{Tables, nowhere}
use Rattle.spec.specs.Readable.{Readable, node_sum, root}
use Rattle.spec.specs.Lir.{Value}
use Rattle.spec.specs.Monad.{Counters, Out, done}
use Rattle.spec.specs.Lower.{lowered}
use Rattle.spec.specs.Demands.{all_bytes}
use Rattle.spec.proofs.CostReads.{size_of, weight_of, records}
use Rattle.spec.proofs.CostClosed.{lowers}
use Rattle.spec.proofs.CostBound.{root_within}

-- the sums over the root's tree that counters, listing and stack grow by
pub record Room (T : Tables) : Type 0 where
  pub instructions : node_sum (λ ty. 3 * size_of T ty + 2) (root T) ≤ 3 * size_sum_limit + 2 * node_lines
  pub storages : node_sum (λ ty. 2 * size_of T ty + 2) (root T) ≤ 2 * size_sum_limit + 2 * node_lines
  pub bytes : node_sum (λ ty. size_of T ty + 2) (root T) ≤ size_sum_limit + 2 * node_lines
  pub records : node_sum (weight_of T) (root T) ≤ weight_sum_limit

pub room : (T : Tables) → Readable T → Room T
room T R = let f = root_within T R in omega (arith, R.once (weight_of T), R.size_sum, R.weight_sum, R.node_count)

-- where the root's lowering ends
pub record Ends (c : Counters) (o : Out) (v : Value) : Type 0 where
  pub instructions : length o.instructions ≤ 3 * size_sum_limit + 2 * node_lines
  pub storages : length o.storages ≤ 2 * size_sum_limit + 2 * node_lines
  pub bytes : all_bytes o.storages ≤ size_sum_limit + 2 * node_lines
  pub storage : c.storage ≤ storage_lines + (2 * size_sum_limit + 2 * node_lines)
  pub temporary : c.temporary ≤ greatest_16 + (2 * size_sum_limit + 2 * node_lines)
  pub records : records v ≤ weight_sum_limit

pub ends : (T : Tables) → Readable T → (v : Value) (c : Counters) (o : Out) → lowered T ≡ done v c o → Ends c o v
unfolding lowered
ends T R v c o e =
    let w = lowers T R.types nowhere _ (root T) v c o e in
    let r = room T R in
    omega (arith, R.storage_count, R.next_most)
