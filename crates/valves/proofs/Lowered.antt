-- Lowering takes every map's ticket: it is refused only where the listing has no room.
use Prim.Native.Nat.{ℕ, zero, suc, ◌^◌, ◌≤◌, ◌<◌}
use mathlib.Core.Path.{◌≡◌, refl}
use mathlib.Core.Bool.{Bool, true, false, ◌&&◌}
use mathlib.Core.List.{List}
use native.Mathlib.Omega.{arith}
use lib.Dec.{eqb}
use borrow.Author.Tests.{eqb-true, eqb-false}
use Rattle.spec.specs.Lir.{Value}
use Rattle.spec.specs.Monad.{Outcome, done, refused}
use Rattle.spec.specs.Lower.{lowered}
use Rattle.spec.specs.Print.{print_listing}
use Rattle.spec.specs.Answer.{answer, of_reading, of_lowering, listing_of, fitted, computing}
use Rattle.spec.proofs.Bools.{and_left, and_right}
use Rattle.valves.specs.Tickets.{ticket_text}
use Rattle.valves.specs.Opening.{tables}
use Rattle.valves.proofs.Reading.{reads}

-- the answer to a ticket is a listing, or 28
pub record Lowers (t : List ℕ) : Type 0 where
  pub listing : List ℕ
  pub is : (room : ℕ) → answer t room ≡ fitted room listing

abbrev is_done : Outcome Value → Bool
is_done (refused n l) = false
is_done (done v c o) = true

-- of each number from 1 to k
abbrev each : (ℕ → Bool) → ℕ → Bool
each f zero = true
each f (suc k) = f (suc k) && each f k

each_one : (f : ℕ → Bool) (k n : ℕ) → each f k ≡ true → 1 ≤ n → n ≤ k → f n ≡ true
each_one f zero n e g h = absurd (omega arith)
each_one f (suc k) n e g h = by (eqb n (suc k)) refl (each_one f k n (and_right (f (suc k)) (each f k) e) g)
  where
    by : (t : Bool) → eqb n (suc k) ≡ t → (n ≤ k → f n ≡ true) → f n ≡ true
    by true q r = rw (eqb-true n (suc k) q) (and_left (f (suc k)) (each f k) e)
    by false q r = let z = eqb-false n (suc k) q in r (omega (arith, z))

-- on every board, whatever the map
all_done : (m : ℕ) → each (λ N. is_done (lowered (tables N m))) 64 ≡ true
unfolding computing tables
all_done m = refl

pub lowers : (N m : ℕ) → 1 ≤ N → N ≤ 64 → m < 2 ^ 64 → Lowers (ticket_text N m)
unfolding answer of_reading of_lowering
lowers N m g h k = by (lowered (tables N m)) refl (each_one (λ n. is_done (lowered (tables n m))) 64 N (all_done m) g h)
  where
    by : (o : Outcome Value) → lowered (tables N m) ≡ o → is_done o ≡ true → Lowers (ticket_text N m)
    by (refused n l) e f = absurd (let z : ◌≡◌ {A = ℕ} 0 1 = cc in omega arith)
    by (done v c o) e f = record { listing = print_listing (listing_of (tables N m) v c o); is = λ room. rw (reads N m g h k, e) }
