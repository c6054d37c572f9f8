-- What running needs of a ticket's variables and statics, by a test of their lines.
use Prim.Native.Nat.{ℕ, zero, suc}
use mathlib.Core.Bool.{Bool, true, false, ◌&&◌, ◌||◌, not}
use mathlib.Core.List.{List, [], ◌∷◌}
use Rattle.std.specs.Prelude.{Some}
use Rattle.std.proofs.lemmas.Option.{none-some}
use mathlib.Core.Path.{◌≡◌}
use lib.Dec.{eqb, ltb}
use borrow.Author.Tests.{eqb-true, eq-eqb, ltb-true}
use lib.ListN.{length}
use Rattle.spec.specs.Ticket.{PlacedLine, Tables}
use Rattle.spec.specs.Operands.{nth}
use Rattle.spec.specs.RunNeeds.{Placed}
use Rattle.spec.proofs.RunLogic.{both}

abbrev is_placed : Tables → PlacedLine → Bool
is_placed T p = ltb p.storage (length T.storages) && (not (eqb p.bit 1) || eqb p.type 0)

abbrev pub all_placed : Tables → List PlacedLine → Bool
all_placed T [] = true
all_placed T (p ∷ ps) = is_placed T p && all_placed T ps

pub placed_by_test : (T : Tables) (ps : List PlacedLine) → all_placed T ps ≡ true → (k : ℕ) (p : PlacedLine) → nth ps k ≡ Some p → Placed T p
unfolding nth
placed_by_test T [] t k p e = absurd (none-some p e)
placed_by_test T (q ∷ qs) t zero p e =
    let b = both (is_placed T q) (all_placed T qs) t in
    let c = both (ltb q.storage (length T.storages)) _ b.0 in
    let z : q ≡ p = cc in
    rw (← z) (record { older = ltb-true _ _ c.0; bit_bool = λ o. as_bool (eqb q.bit 1) (eq-eqb q.bit 1 o) c.1 })
  where
    as_bool : (s : Bool) → s ≡ true → not s || eqb q.type 0 ≡ true → q.type ≡ 0
    as_bool true o t = eqb-true q.type 0 t
    as_bool false o t = cc
placed_by_test T (q ∷ qs) t (suc k) p e = placed_by_test T qs (both (is_placed T q) (all_placed T qs) t).1 k p e
