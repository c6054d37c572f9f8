-- Two readable tickets that differ only in older storages' regions, or in variables and statics added behind one's, have the same listing.
use Prim.Native.Nat.{ℕ, ◌-◌}
use mathlib.Core.List.{List}
use mathlib.Core.Path.{◌≡◌, refl}
use lib.ListN.{length}
use Rattle.spec.specs.Limits.{depth_limit}
use Rattle.spec.specs.Ticket.{PlacedLine, Tables, nowhere}
use Rattle.spec.specs.Readable.{root}
use Rattle.spec.specs.Lir.{Value}
use Rattle.spec.specs.Monad.{Outcome, refused, done}
use Rattle.spec.specs.Lower.{lowered}
use Rattle.spec.specs.Answer.{accepted, listing_of, of_lowering, of_reading, answer}
use Rattle.spec.specs.Alike.{Pairwise, AlikeStorage, AlikePlace, AlikeNode, MoreOf, SameListing}
use Rattle.spec.proofs.AlikeLogic.{Kept}
use Rattle.spec.proofs.AlikeReads.{More, extended}
use Rattle.spec.proofs.AlikePairs.{pair_length}
use Rattle.spec.proofs.AlikeTree.{expr_alike}

module _ (T : Tables) (m : More) (ss : Pairwise AlikeStorage T.storages m.storages) where
  -- the counters begin with the same numbers, and the root has the same number
  lowered_alike : Pairwise AlikePlace T.places m.places → Pairwise AlikeNode T.nodes m.nodes → Kept (lowered T) (lowered (extended T m))
  unfolding lowered root
  lowered_alike ps ns =
      rw (← pair_length ss, ← pair_length ns)
      ((expr_alike T m ss ps ns depth_limit (length T.nodes - 1)).lowers.keeps nowhere nowhere (record { storage = length T.storages; temporary = T.next }) refl)

  printed_alike : (room : ℕ) (s : List ℕ) (x x' : Outcome Value) → Kept x x' → of_lowering T room x ≡ accepted s → of_lowering (extended T m) room x' ≡ accepted s
  unfolding of_lowering listing_of
  printed_alike room s (refused n l) x' k a = cc
  printed_alike room s (done v c o) x' k a = rw (k, ← pair_length ss) a

-- the larger tables are T's own but for what may differ
abbrev larger : Tables → List PlacedLine → List PlacedLine → More
larger T' vs gs = record { storages = T'.storages; variables = vs; statics = gs; places = T'.places; nodes = T'.nodes }

is_larger : (T T' : Tables) (vs gs : List PlacedLine) → MoreOf vs gs T T' → T' ≡ extended T (larger T' vs gs)
is_larger T T' vs gs r = rw (← r.function, ← r.next, ← r.types, ← r.variables, ← r.statics)

pub same_listing : SameListing
unfolding SameListing answer of_reading
same_listing ticket ticket' T T' vs gs room s t t' r a =
    let m = larger T' vs gs in
    let e : T' ≡ extended T m = is_larger T T' vs gs r in
    let b : of_lowering T room (lowered T) ≡ accepted s = rw t at a in
    let c : of_lowering (extended T m) room (lowered (extended T m)) ≡ accepted s =
    printed_alike T m r.storages room s (lowered T) (lowered (extended T m)) (lowered_alike T m r.storages r.places r.nodes) b in
    rw t' (cc)
