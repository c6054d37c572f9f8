-- Demand 3, with no premise: for every text and every lent buffer, what an accepted ticket leaves in the buffer costs no more than the
-- ticket shows, writes only new storages of that listing, and has exact counts.
use Prim.Native.Nat.{ℕ, ◌+◌, ◌*◌, ◌≤◌}
use mathlib.Core.List.{List}
use mathlib.Core.Path.{◌≡◌}
use native.Mathlib.Omega.{arith}
use lib.ListN.{length}
use Rattle.spec.specs.Demands.{Costs, CostBound, chosen_bits}
use Rattle.spec.proofs.ReadingTicket.{readable}
use Rattle.spec.proofs.RoundTrip.{round_trip}
use Rattle.spec.proofs.CostBound.{cost_bound}

pub demand_3 : CostBound
demand_3 = cost_bound readable round_trip

-- of a ticket in which no select chooses a bit for a byte: at most 2S + 2n instructions and S + 2n storages
pub demand_3_plain : {S n older : ℕ} {s : List ℕ} (c : Costs S n older s) → chosen_bits c.listing.storages ≡ 0
    → (length c.listing.instructions ≤ 2 * S + 2 * n) × (length c.listing.storages ≤ S + 2 * n)
demand_3_plain c none = (omega (arith, c.other_instructions), omega (arith, c.other_storages))
