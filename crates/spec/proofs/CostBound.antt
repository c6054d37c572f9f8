-- DEMAND 3: the listing of an accepted answer costs no more than its ticket shows.
use Prim.Native.Nat.{ℕ, ◌+◌, ◌*◌}
use mathlib.Core.List.{List, [], ◌∷◌}
use Rattle.std.specs.Prelude.{Some}
use mathlib.Core.Path.{◌≡◌, refl, ap, ◌∙◌}
use native.Mathlib.Omega.{arith}
use lib.ListN.{length}
use Rattle.spec.specs.Limits.{type_depth_limit}
use Rattle.spec.specs.Ticket.{Tables, NodeLine, type_size_in, nowhere}
use Rattle.spec.specs.Readable.{Readable, line_sum, root}
use Rattle.spec.specs.Read.{read_ticket}
use Rattle.spec.specs.Read as reading
use Rattle.spec.specs.Lir.{Listing}
use Rattle.spec.specs.Lower.{lowered}
use Rattle.spec.specs.Print.{print_listing}
use Rattle.spec.specs.ReadBack.{read_listing}
use Rattle.spec.specs.Answer.{listing_of}
use Rattle.spec.specs.Demands.{total_size, CostBound}
use Rattle.spec.proofs.Answers.{printed}
use Rattle.spec.proofs.CostLogic.{Cost, Fits, Within, within_more}
use Rattle.spec.proofs.CostReads.{size_of}
use Rattle.spec.proofs.CostTree.{tree_budget}
use Rattle.spec.proofs.CostClosed.{lowers}

-- ---------------------------------------------------------------- sums over the node lines

line_sum_double : (f : ℕ → ℕ) (ns : List NodeLine) → line_sum (λ ty. 2 * f ty) ns ≡ 2 * line_sum f ns
unfolding line_sum
line_sum_double f [] = refl
line_sum_double f (n ∷ ns) = let h = line_sum_double f ns in omega arith

line_sum_triple : (f : ℕ → ℕ) (ns : List NodeLine) → line_sum (λ ty. 3 * f ty) ns ≡ 3 * line_sum f ns
unfolding line_sum
line_sum_triple f [] = refl
line_sum_triple f (n ∷ ns) = let h = line_sum_triple f ns in omega arith

line_sum_plus : (f : ℕ → ℕ) (ns : List NodeLine) → line_sum (λ ty. f ty + 2) ns ≡ line_sum f ns + 2 * length ns
unfolding line_sum
line_sum_plus f [] = refl
line_sum_plus f (n ∷ ns) = let h = line_sum_plus f ns in omega arith

line_sum_same : (f g : ℕ → ℕ) → ((ty : ℕ) → f ty ≡ g ty) → (ns : List NodeLine) → line_sum f ns ≡ line_sum g ns
unfolding line_sum
line_sum_same f g e [] = refl
line_sum_same f g e (n ∷ ns) = let h = line_sum_same f g e ns in omega (arith, e n.type)

-- 3S + 2n, 2S + 2n and S + 2n, of which 2S + 2n and S + 2n are not for bits that a select chooses for bytes
abbrev pub ticket_budget : ℕ → ℕ → Cost
ticket_budget S n =
    record {
      instructions = 3 * S + 2 * n;
      storages = 2 * S + 2 * n;
      bytes = S + 2 * n;
      other_instructions = 2 * S + 2 * n;
      other_storages = S + 2 * n;
      chosen = S;
    }

-- a root's nodes are among the ticket's node lines, each once
pub root_within : (T : Tables) → Readable T → Fits (tree_budget T (root T)) (ticket_budget (line_sum (size_of T) T.nodes) (length T.nodes))
root_within T R =
    omega (
      arith,
      R.once (λ ty. 3 * size_of T ty + 2),
      R.once (λ ty. 2 * size_of T ty + 2),
      R.once (λ ty. size_of T ty + 2),
      R.once (size_of T),
      line_sum_plus (λ ty. 3 * size_of T ty) T.nodes,
      line_sum_plus (λ ty. 2 * size_of T ty) T.nodes,
      line_sum_triple (size_of T) T.nodes,
      line_sum_double (size_of T) T.nodes,
      line_sum_plus (size_of T) T.nodes,
    )

-- S by the sizes that are stored is S by `type_size`
stored_sum : (T : Tables) → Readable T → line_sum (size_of T) T.nodes ≡ total_size T
unfolding total_size
stored_sum T R = line_sum_same (size_of T) (λ ty. type_size_in type_depth_limit T ty) R.stored_size T.nodes

-- THE THEOREM
pub cost_bound : ((s : List ℕ) (T : Tables) → read_ticket s ≡ reading.accepted T → Readable T)
    → ((l : Listing) → read_listing (print_listing l) ≡ Some l)
    → CostBound
unfolding listing_of lowered
cost_bound readable round_trip ticket buffer s T read accepts =
    let R = readable ticket T read in
    let A = printed ticket s (length buffer) T read accepts in
    let l = listing_of T A.value A.counters A.out in
    let W = lowers T R.types nowhere _ (root T) A.value A.counters A.out A.lowers in
    let B : Within A.out (ticket_budget (total_size T) (length T.nodes)) = within_more W.cost (rw (stored_sum T R) at (root_within T R)) in
    record {
      listing = l;
      reads = ap read_listing A.is ∙ round_trip l;
      instructions = B.instructions;
      storages = B.storages;
      bytes = B.bytes;
      other_instructions = B.other_instructions;
      other_storages = B.other_storages;
      chosen = B.chosen;
      new = W.advanced.ids;
      inside = W.inside;
      instruction_count = refl;
      storage_count = refl;
    }
