-- Where no division or remainder is undefined, an accepted, rightly typed expression whose reads are in order has a meaning, and running leaves it.
use Prim.Native.Nat.{ℕ}
use mathlib.Core.Bool.{true}
use mathlib.Core.List.{List}
use Rattle.std.specs.Prelude.{Some}
use mathlib.Core.Path.{◌≡◌}
use native.Mathlib.Nat.{le_refl}
use lib.ListN.{length}
use Rattle.spec.specs.Hir.{Expr}
use Rattle.spec.specs.Ticket.{Tables, nowhere}
use Rattle.spec.specs.Read.{read_ticket}
use Rattle.spec.specs.Read as reading
use Rattle.spec.specs.Readable.{root}
use Rattle.spec.specs.Lower.{lowered}
use Rattle.spec.specs.Machine.{Memory, Proper, Given}
use Rattle.spec.specs.Typed.{typed}
use Rattle.spec.specs.Eval.{Data, eval, in_order}
use Rattle.spec.specs.Answer.{answer, accepted}
use Rattle.spec.specs.Demands.{Leaves}
use Rattle.spec.proofs.Answers.{printed}
use Rattle.spec.proofs.ReadingTicket.{readable, bools_read}
use Rattle.spec.proofs.RunReady.{needs_read}
use Rattle.spec.proofs.Demand2.{whole_expression}
use Rattle.spec.proofs.RunDivides.{divides}
use Rattle.spec.proofs.RunMeans.{means}

-- what the expression means, and that running leaves it
pub record MeansAndLeaves (T : Tables) (G : Given) (M : Memory) (e : Expr) (s : List ℕ) : Type 0 where
  pub meaning : Data
  pub is : eval T G M e ≡ Some meaning
  pub leaves : Leaves G M (length T.storages) s meaning

-- of every text and every lent buffer, where no division is undefined
pub no_undefined_division : (ticket buffer s : List ℕ) (T : Tables) → read_ticket ticket ≡ reading.accepted T → answer ticket (length buffer) ≡ accepted s
    → typed T (root T) ≡ true
    → (G : Given) (M : Memory) → Proper M → in_order T M (root T) ≡ true → divides T G M (root T) ≡ true
    → MeansAndLeaves T G M (root T) s
unfolding lowered
no_undefined_division ticket buffer s T r a t G M P i d =
    let p = printed ticket s (length buffer) T r a in
    let m = means G T (readable ticket T r).types (needs_read ticket T r) (length T.storages) (le_refl _) M P (root T) t (bools_read ticket T r) i d nowhere
    (record { storage = length T.storages; temporary = T.next }) (le_refl _) p.value p.counters p.out p.lowers in
    record { meaning = m.it; is = m.is; leaves = whole_expression ticket buffer s T r a t G M P i m.it m.is }
