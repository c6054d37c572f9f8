-- Nodes that are each referred to once: the trees of the nodes still open add up to no more than all nodes do, nor does any tree.
use Prim.Native.Nat.{ℕ, zero, suc, ◌+◌, ◌≤◌, ◌<◌, zero-le}
use mathlib.Core.Bool.{Bool, true, false, cond}
use mathlib.Core.List.{List, [], ◌∷◌, ◌++◌}
use mathlib.Core.Path.{◌≡◌, refl, ap, ◌∙◌}
use native.Mathlib.Omega.{arith}
use native.Mathlib.Decide.{dec_lt}
use lib.ListN.{length, get_or, get_or-append, length-append}
use lib.Seq.{get_or-append_seam}
use Rattle.spec.specs.Limits.{depth_limit}
use Rattle.spec.specs.Ticket.{NodeLine, no_node, sum}
use Rattle.spec.specs.Readable.{All, All_below, nodes_of_node, line_sum}
use Rattle.spec.proofs.ReadingLists.{All_of, All_both, below_all, sum_same, sum_le}

abbrev pub node_line_in : List NodeLine → ℕ → NodeLine
node_line_in ns k = get_or ns k no_node

-- the nodes that a node refers to
abbrev pub refs : NodeLine → List ℕ
refs n = nodes_of_node n.word n.args

-- f of the TYPE of every node of a tree, as deep as d
abbrev pub tree : (ℕ → ℕ) → ℕ → List NodeLine → ℕ → ℕ
tree f zero ns i = 0
tree f (suc d) ns i = f (node_line_in ns i).type + sum (tree f d ns) (refs (node_line_in ns i))

-- f of every node that is not marked
abbrev pub open_sum : (ℕ → ℕ) → List Bool → ℕ
open_sum f [] = 0
open_sum f (u ∷ us) = cond u 0 (f 0) + open_sum (λ k. f (suc k)) us

-- the marks us and rs, each of which was open
pub record Marked (rs : List ℕ) (us us₁ : List Bool) : Type 0 where
  pub same_length : length us₁ ≡ length us
  pub less : (f : ℕ → ℕ) → open_sum f us₁ + sum f rs ≡ open_sum f us

pub record NodeRight (ns : List NodeLine) (k : ℕ) (n : NodeLine) : Type 0 where
  pub refs_earlier : All_below k (refs n)
  pub refs_less_deep : All (λ r. (node_line_in ns r).depth < n.depth) (refs n)
  pub depth_least : 1 ≤ n.depth
  pub depth_most : n.depth ≤ depth_limit

abbrev pub NodesRight : List NodeLine → Type 0
NodesRight ns = (k : ℕ) → k < length ns → NodeRight ns k (node_line_in ns k)

pub record Pool (ns : List NodeLine) (us : List Bool) : Type 0 where
  pub marks : length us ≡ length ns
  pub right : NodesRight ns
  pub still_open : (f : ℕ → ℕ) (d : ℕ) → open_sum (tree f d ns) us ≤ line_sum f ns
  pub each : (f : ℕ → ℕ) (d k : ℕ) → k < length ns → tree f d ns k ≤ line_sum f ns

-- ---------------------------------------------------------------- sums

open_append : (f : ℕ → ℕ) (us : List Bool) → open_sum f (us ++ (false ∷ [])) ≡ open_sum f us + f (length us)
open_append f [] = omega arith
open_append f (u ∷ us) = let e = open_append (λ k. f (suc k)) us in omega arith

open_same : (f g : ℕ → ℕ) (us : List Bool) → ((i : ℕ) → i < length us → f i ≡ g i) → open_sum f us ≡ open_sum g us
open_same f g [] h = refl
open_same f g (true ∷ us) h = let e = open_same (λ k. f (suc k)) (λ k. g (suc k)) us (λ i p. h (suc i) (omega arith)) in omega arith
open_same f g (false ∷ us) h =
    let e = open_same (λ k. f (suc k)) (λ k. g (suc k)) us (λ i p. h (suc i) (omega arith)) in
    let z = h 0 (omega arith) in
    omega arith

pub line_sum_append : (f : ℕ → ℕ) (ns : List NodeLine) (n : NodeLine) → line_sum f (ns ++ (n ∷ [])) ≡ line_sum f ns + f n.type
unfolding line_sum
line_sum_append f [] n = omega arith
line_sum_append f (m ∷ ns) n = let e = line_sum_append f ns n in omega arith

-- ---------------------------------------------------------------- trees

deeper : (f : ℕ → ℕ) (d : ℕ) (ns : List NodeLine) (i : ℕ) → tree f d ns i ≤ tree f (suc d) ns i
deeper f zero ns i = zero-le
deeper f (suc d) ns i =
    let rs : List ℕ = refs (node_line_in ns i) in
    let h = sum_le (tree f d ns) (tree f (suc d) ns) rs (All_of (λ r. tree f d ns r ≤ tree f (suc d) ns r) rs (λ r. deeper f d ns r)) in
    omega arith

-- a node's tree does not change by a later line
module _ (f : ℕ → ℕ) (ns : List NodeLine) (n : NodeLine) (right : NodesRight ns) where
  same_tree : (d i : ℕ) → i < length ns → tree f d (ns ++ (n ∷ [])) i ≡ tree f d ns i
  same_tree zero i h = refl
  same_tree (suc d) i h =
      let rs : List ℕ = refs (node_line_in ns i) in
      let Same : ℕ → Type 0 = λ r. tree f d (ns ++ (n ∷ [])) r ≡ tree f d ns r in
      rw (get_or-append ns (n ∷ []) no_node i h)
      (ap (λ (x : ℕ). f (node_line_in ns i).type + x)
      (sum_same (tree f d (ns ++ (n ∷ []))) (tree f d ns) rs (below_all i Same rs (λ r p. same_tree d r (omega arith)) (right i h).refs_earlier)))

  -- the new line's tree, at any depth, is within its own TYPE's and those of the trees that it takes
  new_tree : (d : ℕ) → All_below (length ns) (refs n) → tree f d (ns ++ (n ∷ [])) (length ns) ≤ f n.type + sum (tree f d ns) (refs n)
  new_tree zero b = zero-le
  new_tree (suc d) b =
      let Same : ℕ → Type 0 = λ r. tree f d (ns ++ (n ∷ [])) r ≡ tree f d ns r in
      let h = sum_same (tree f d (ns ++ (n ∷ []))) (tree f d ns) (refs n) (below_all (length ns) Same (refs n) (same_tree d) b) in
      let g = sum_le (tree f d ns) (tree f (suc d) ns) (refs n) (All_of (λ r. tree f d ns r ≤ tree f (suc d) ns r) (refs n) (deeper f d ns)) in
      rw (get_or-append_seam ns n [] no_node) (omega arith)

-- ---------------------------------------------------------------- a line that marks, and a node's

module _ (ns : List NodeLine) (us us₁ : List Bool) (rs : List ℕ) (P : Pool ns us) (m : Marked rs us us₁) where
  pub pool_marked : Pool ns us₁
  pool_marked =
      record {
        marks = m.same_length ∙ P.marks;
        right = P.right;
        still_open = λ f d. let a = P.still_open f d in let b = m.less (tree f d ns) in omega arith;
        each = P.each;
      }

module _
    (ns : List NodeLine) (us us₁ : List Bool) (n : NodeLine) (P : Pool ns us) (m : Marked (refs n) us us₁) (new : NodeRight ns (length ns) n)
  where
    kept : (k : ℕ) (u : NodeLine) → k ≤ length ns → NodeRight ns k u → NodeRight (ns ++ (n ∷ [])) k u
    kept k u h r =
        record {
          refs_earlier = r.refs_earlier;
          refs_less_deep =
              All_both (refs u) (λ i p q. rw (get_or-append ns (n ∷ []) no_node i p) q)
              (below_all k (λ i. i < length ns) (refs u) (λ i p. omega arith) r.refs_earlier) r.refs_less_deep;
          depth_least = r.depth_least;
          depth_most = r.depth_most;
        }

    pub pool_append : Pool (ns ++ (n ∷ [])) (us₁ ++ (false ∷ []))
    pool_append =
        record {
          marks = simp length-append (omega (arith, m.same_length, P.marks));
          right = λ k h. right_at k h (dec_lt k (length ns));
          still_open = λ f d.
              let len : length us₁ ≡ length ns = m.same_length ∙ P.marks in
              let a = open_append (tree f d (ns ++ (n ∷ []))) us₁ in
              let c = open_same (tree f d (ns ++ (n ∷ []))) (tree f d ns) us₁ (λ i p. same_tree f ns n P.right d i (omega arith)) in
              let l = m.less (tree f d ns) in
              let t = new_tree f ns n P.right d new.refs_earlier in
              let at_end = ap (tree f d (ns ++ (n ∷ []))) len in
              let o = line_sum_append f ns n in
              let held = P.still_open f d in
              omega arith;
          each = λ f d k h. each_at f d k h (dec_lt k (length ns));
        }
      where
        last : (k : ℕ) → k < length (ns ++ (n ∷ [])) → ¬ (k < length ns) → length ns ≡ k
        last k h q = omega (arith, length-append ns (n ∷ []))

        right_at : (k : ℕ) → k < length (ns ++ (n ∷ [])) → Dec (k < length ns) → NodeRight (ns ++ (n ∷ [])) k (node_line_in (ns ++ (n ∷ [])) k)
        right_at k h (yes p) = rw (get_or-append ns (n ∷ []) no_node k p) (kept k (node_line_in ns k) (omega arith) (P.right k p))
        right_at k h (no q) = rw (← last k h q) (rw (get_or-append_seam ns n [] no_node) (kept (length ns) n (omega arith) new))

        each_at : (f : ℕ → ℕ) (d k : ℕ) → k < length (ns ++ (n ∷ [])) → Dec (k < length ns) → tree f d (ns ++ (n ∷ [])) k ≤ line_sum f (ns ++ (n ∷ []))
        each_at f d k h (yes p) =
            let s = same_tree f ns n P.right d k p in let e = P.each f d k p in let o = line_sum_append f ns n in omega arith
        each_at f d k h (no q) =
            let t = new_tree f ns n P.right d new.refs_earlier in
            let l = m.less (tree f d ns) in
            let held = P.still_open f d in
            let o = line_sum_append f ns n in
            rw (← last k h q) (omega arith)
