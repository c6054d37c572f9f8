-- What an accepted answer is.
use Prim.Native.Nat.{ℕ}
use mathlib.Core.Bool.{Bool, true, false}
use mathlib.Core.List.{List}
use mathlib.Core.Path.{◌≡◌, refl}
use native.Mathlib.Omega.{arith}
use lib.Dec.{leb}
use lib.ListN.{length}
use Rattle.spec.specs.Ticket.{Tables}
use Rattle.spec.specs.Read.{read_ticket}
use Rattle.spec.specs.Read as reading
use Rattle.spec.specs.Lir.{Value}
use Rattle.spec.specs.Print.{print_listing}
use Rattle.spec.specs.Monad.{Outcome, Counters, Out}
use Rattle.spec.specs.Monad as monad
use Rattle.spec.specs.Lower.{lowered}
use Rattle.spec.specs.Answer.{refused, accepted, listing_of, fitted, of_lowering, of_reading, answer}

-- an accepted answer is the text of the lowering's listing
pub record Printed (T : Tables) (s : List ℕ) : Type 0 where
  pub value : Value
  pub counters : Counters
  pub out : Out
  pub lowers : lowered T ≡ monad.done value counters out
  pub is : s ≡ print_listing (listing_of T value counters out)

pub kept : (room : ℕ) (r s : List ℕ) → fitted room r ≡ accepted s → s ≡ r
unfolding fitted
kept room r s e = go (leb (length r) room) e
  where
    go : (b : Bool) → elim b [ true ↦ accepted r | false ↦ refused 28 0 ] ≡ accepted s → s ≡ r
    go true e = cc
    go false e = cc

pub printed : (ticket s : List ℕ) (room : ℕ) (T : Tables) → read_ticket ticket ≡ reading.accepted T → answer ticket room ≡ accepted s → Printed T s
unfolding answer of_reading of_lowering
printed ticket s room T r a = go (lowered T) refl (rw r at a)
  where
    go : (x : Outcome Value) → lowered T ≡ x → of_lowering T room x ≡ accepted s → Printed T s
    go (monad.refused n l) e q = absurd (no q)
      where
        no : refused n l ≡ accepted s → ⊥
        no p = let z : ◌≡◌ {A = ℕ} 0 1 = cc in omega arith
    go (monad.done v c o) e q = record { value = v; counters = c; out = o; lowers = e; is = kept room _ s q }
