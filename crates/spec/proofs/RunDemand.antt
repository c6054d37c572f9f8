-- Demand 2, running: the bytes left in the buffer, read back as a listing and run.
use Prim.Native.Nat.{ℕ}
use mathlib.Core.List.{List}
use lib.ListN.{length}
use Rattle.spec.specs.Ticket.{Tables}
use Rattle.spec.proofs.RoundTrip.{round_trip}
use Rattle.spec.proofs.Answers.{Printed}
use Rattle.spec.specs.Machine.{Memory, Given}
use Rattle.spec.specs.Eval.{Data}
use Rattle.spec.specs.Answer.{listing_of}
use Rattle.spec.specs.Demands.{Leaves}
use Rattle.spec.specs.RunClaims.{Ran}

-- what the run of an accepted answer leaves, given what the run of the lowering does
pub left_by : (G : Given) (M : Memory) (T : Tables) (s : List ℕ) (d : Data)
    → (p : Printed T s) → Ran G M (length T.storages) p.value p.out d → Leaves G M (length T.storages) s d
unfolding listing_of
left_by G M T s d p r =
    record {
      listing = listing_of T p.value p.counters p.out;
      reads = rw p.is (round_trip _);
      after = r.after;
      runs = r.runs;
      value = r.holds;
      bytes = r.bytes;
      bits = r.bits;
    }
