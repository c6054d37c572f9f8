-- A line that passes the test of references marks nodes that were open, and each of them once.
use Prim.Native.Nat.{ℕ, zero, suc, ◌+◌, ◌<◌}
use mathlib.Core.Bool.{Bool, true, false, not, false≢true}
use mathlib.Core.List.{List, [], ◌∷◌}
use mathlib.Core.Path.{◌≡◌, refl, ◌∙◌}
use native.Mathlib.Omega.{arith}
use lib.ListN.{length, get_or, set, length-set}
use Rattle.spec.specs.Forms.{Field, between, float_width, type_part, type, storage, place, node, Arg}
use Rattle.spec.specs.Read.{Used, once, mark}
use Rattle.spec.specs.Readable.{All_below}
use Rattle.spec.proofs.Bools.{and_left, and_right}
use Rattle.spec.proofs.ReadingForms.{if_node, node_values}
use Rattle.spec.proofs.ReadingPool.{open_sum, Marked}

-- a mark takes an open node out of the sum
mark_one : (f : ℕ → ℕ) (us : List Bool) (r : ℕ) → r < length us → not (get_or us r false) ≡ true → open_sum f (set us r true) + f r ≡ open_sum f us
mark_one f [] r h e = absurd (omega arith)
mark_one f (true ∷ us) zero h e = absurd (false≢true e)
mark_one f (false ∷ us) zero h e = omega arith
mark_one f (u ∷ us) (suc r) h e = let i = mark_one (λ k. f (suc k)) us r (omega arith) e in omega arith

mark_then : (r : ℕ) (rs : List ℕ) (us us₁ : List Bool) → r < length us → not (get_or us r false) ≡ true → Marked rs (set us r true) us₁
    → Marked (r ∷ rs) us us₁
mark_then r rs us us₁ h e m =
    record {
      same_length = m.same_length ∙ length-set us r true;
      less = λ f. let a = m.less f in let b = mark_one f us r h e in omega arith;
    }

pub marked : (xa : List Arg) (U : Used) → once xa U ≡ true → All_below (length U.nodes) (node_values xa)
    → Marked (node_values xa) U.nodes (mark xa U).nodes
unfolding once mark All_below
marked [] U e b = record { same_length = refl; less = λ f. omega arith }
marked (a ∷ xa) U e b = by a.class a.value e b (λ U₁. marked xa U₁)
  where
    by : (c : Field) (x : ℕ) → once (record { class = c; value = x } ∷ xa) U ≡ true → All_below (length U.nodes) (if_node c x (node_values xa))
        → ((U₁ : Used) → once xa U₁ ≡ true → All_below (length U₁.nodes) (node_values xa)
        → Marked (node_values xa) U₁.nodes (mark xa U₁).nodes)
        → Marked (if_node c x (node_values xa)) U.nodes (mark (record { class = c; value = x } ∷ xa) U).nodes
    by (between least greatest) x e b rest = rest U e b
    by float_width x e b rest = rest U e b
    by type_part x e b rest = rest U e b
    by type x e b rest = rest U e b
    by storage x e b rest = rest U e b
    by place x e b rest =
        let U₁ : Used = record { places = set U.places x true; nodes = U.nodes } in
        rest U₁ (and_right (not (get_or U.places x false)) (once xa U₁) e) b
    by node x e b rest =
        let U₁ : Used = record { places = U.places; nodes = set U.nodes x true } in
        mark_then x (node_values xa) U.nodes (mark xa U₁).nodes b.0 (and_left (not (get_or U.nodes x false)) (once xa U₁) e)
        (rest U₁ (and_right (not (get_or U.nodes x false)) (once xa U₁) e) (rw length-set b.1))
