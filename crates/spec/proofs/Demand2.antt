-- Demand 2's running clause, with no premise: for every text and every lent buffer, running what an accepted, rightly typed ticket leaves in the
-- buffer gives what the numerics of the WebAssembly specification give for the entire expression, and leaves older storages as they were.
use native.Mathlib.Nat.{le_refl}
use lib.ListN.{length}
use Rattle.spec.specs.Ticket.{nowhere}
use Rattle.spec.specs.Readable.{root}
use Rattle.spec.specs.Lower.{lowered}
use Rattle.spec.specs.Demands.{RunsRight}
use Rattle.spec.specs.RunClaims.{RunsWhole}
use Rattle.spec.proofs.Answers.{printed}
use Rattle.spec.proofs.ReadingTicket.{readable, bools_read}
use Rattle.spec.proofs.RunFinal.{running}
use Rattle.spec.proofs.RunReady.{needs_read}
use Rattle.spec.proofs.RunDemand.{left_by}

pub whole_expression : RunsWhole
unfolding lowered root
whole_expression ticket buffer s T r a t G M P i d q =
    let p = printed ticket s (length buffer) T r a in
    left_by G M T s d p
    (running T (readable ticket T r).types (needs_read ticket T r) (root T) t (bools_read ticket T r) G M P i d q nowhere
    (record { storage = length T.storages; temporary = T.next }) (le_refl _) p.value p.counters p.out p.lowers)

-- a single operation is such an expression
pub demand_2 : RunsRight
demand_2 ticket buffer s T r a l = whole_expression ticket buffer s T r a
