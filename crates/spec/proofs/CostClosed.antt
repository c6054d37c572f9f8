-- What a step appends, with its writes in the very storages that it appends.
use Prim.Native.Nat.{ℕ, suc, ◌≤◌, ◌<◌}
use mathlib.Core.Bool.{true}
use mathlib.Core.List.{List, [], ◌∷◌}
use mathlib.Core.Path.{◌≡◌, refl}
use native.Mathlib.Omega.{arith}
use lib.Dec.{eqb}
use borrow.Author.Tests.{eqb-true, eq-eqb, ne_eqb}
use Rattle.spec.specs.Hir.{At, Expr}
use Rattle.spec.specs.Ticket.{Tables}
use Rattle.spec.specs.Readable.{TypesRight, node_sum}
use Rattle.spec.specs.Lir.{BitOperand, Storage, StorageKind, Value}
use Rattle.spec.specs.Monad.{Counters, Out, Lower, done}
use Rattle.spec.specs.Lower.{lower_expression, expression_as_bit}
use Rattle.spec.specs.Demands.{kind_of, numbered, writes_inside}
use Rattle.spec.proofs.Bools.{and_left, and_right}
use Rattle.spec.proofs.CostLogic.{Cost, ◌⊞◌, Any, Within, Each, none_left, ◌also◌, Advanced, Kind, Here, Ok, Does}
use Rattle.spec.proofs.CostReads.{reading, weight_of, Small}
use Rattle.spec.proofs.CostTree.{tree_budget, expression_does, expression_as_bit_does}

-- ---------------------------------------------------------------- storages numbered on from n are found under their numbers

ids_from : (n m : ℕ) (ss : List Storage) → m ≤ n → numbered n ss ≡ true → Each (λ s. m ≤ s.id) ss
unfolding numbered
ids_from n m [] h e = none_left
ids_from n m (s ∷ ss) h e =
    let i : m ≤ s.id = omega (arith, eqb-true s.id n (and_left (eqb s.id n) (numbered (suc n) ss) e)) in
    i also ids_from (suc n) m ss (omega arith) (and_right (eqb s.id n) (numbered (suc n) ss) e)

kind_first : (s : Storage) (L : List Storage) → Kind (s ∷ L) s.id s.kind
unfolding kind_of
kind_first s L = record { found = rw (eq-eqb s.id s.id refl, kind_of) }

kind_behind : (s : Storage) (L : List Storage) (n : ℕ) {k : StorageKind} → s.id < n → Kind L n k → Kind (s ∷ L) n k
unfolding kind_of
kind_behind s L n h k = record { found = rw (ne_eqb n s.id (λ e. omega arith), kind_of) k.found }

here_behind : (s : Storage) (L ss : List Storage) → Each (λ t. s.id < t.id) ss → Here L ss → Here (s ∷ L) ss
here_behind s L [] i h = none_left
here_behind s L (t ∷ ss) (q also i) (k also h) = kind_behind s L t.id q k also here_behind s L ss i h

pub all_here : (n : ℕ) (ss : List Storage) → numbered n ss ≡ true → Here ss ss
unfolding numbered
all_here n [] e = none_left
all_here n (s ∷ ss) e =
    let i = eqb-true s.id n (and_left (eqb s.id n) (numbered (suc n) ss) e) in
    let r = and_right (eqb s.id n) (numbered (suc n) ss) e in
    kind_first s ss also here_behind s ss ss (ids_from (suc n) (suc s.id) ss (omega arith) r) (all_here (suc n) ss r)

-- ---------------------------------------------------------------- a step that is done

-- from c to d: numbers, cost k, writes inside the storages appended, and an answer with Q
pub record Done (k : Cost) (c d : Counters) (o : Out) (Q : Type 0) : Type 0 where
  pub advanced : Advanced c d o
  pub cost : Within o k
  pub inside : writes_inside o.storages o.instructions ≡ true
  pub result : Q

-- a claim for every L, taken at the storages appended
closed : {A : Type 0} (m : Lower A) (k : Cost) (Q : A → Type 0) → ((L : List Storage) → Does L (Unit {0}) m k Q)
    → (h : At) (c : Counters) (a : A) (d : Counters) (o : Out) → m h c ≡ done a d o → Done k c d o (Q a)
closed m k Q f h c a d o e =
    let r : Ok o.storages (Unit {0}) k Q c (done a d o) = rw e at ((f o.storages).run h c) in
    let g = r.1 tt (all_here c.storage o.storages r.0.ids) in
    record { advanced = r.0; cost = g.cost; inside = g.inside; result = g.result }

module _ (T : Tables) (R : TypesRight T) (h : At) (c : Counters) where
  -- THE SUM, of an expression
  pub lowers : (e : Expr) (v : Value) (d : Counters) (o : Out)
      → lower_expression T e h c ≡ done v d o → Done (tree_budget T e) c d o (Small (node_sum (weight_of T) e) v)
  lowers e = closed (lower_expression T e) (tree_budget T e) (Small (node_sum (weight_of T) e)) (λ L. expression_does T R e) h c

  pub lowers_bit : (i : At) (e : Expr) (b : BitOperand) (d : Counters) (o : Out)
      → expression_as_bit T i e h c ≡ done b d o → Done (tree_budget T e ⊞ reading 1) c d o (Any b)
  lowers_bit i e = closed (expression_as_bit T i e) (tree_budget T e ⊞ reading 1) Any (λ L. expression_as_bit_does T R i e) h c
