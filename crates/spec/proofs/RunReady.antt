-- Reading guarantees what running needs of variables and statics.
use Prim.Native.Nat.{ℕ}
use mathlib.Core.List.{List}
use mathlib.Core.Path.{◌≡◌}
use Rattle.spec.specs.Ticket.{Tables, PlacedLine}
use Rattle.spec.specs.Read.{read_ticket}
use Rattle.spec.specs.Read as reading
use Rattle.spec.specs.Readable.{PlacedRight}
use Rattle.spec.specs.RunNeeds.{Placed, NeedsOf}
use Rattle.spec.proofs.ReadingLists.{All_nth}
use Rattle.spec.proofs.ReadingTicket.{readable}

of_right : {T : Tables} {p : PlacedLine} → PlacedRight T p → Placed T p
of_right r = record { older = r.storage_earlier; bit_bool = r.bit_of_bool }

pub needs_read : (ticket : List ℕ) (T : Tables) → read_ticket ticket ≡ reading.accepted T → NeedsOf T
needs_read ticket T e =
    let r = readable ticket T e in
    record {
      variables = λ k p f. of_right (All_nth (PlacedRight T) T.variables k p r.variables f);
      statics = λ k p f. of_right (All_nth (PlacedRight T) T.statics k p r.statics f);
    }
