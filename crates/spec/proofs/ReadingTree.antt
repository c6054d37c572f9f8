-- The expression of a node: its sum over nodes is no more than that of the lines that it is made of, where the fuel reaches as deep as the node.
use Prim.Native.Nat.{ℕ, zero, suc, ◌+◌, ◌-◌, ◌≤◌, ◌<◌}
use mathlib.Core.Bool.{Bool}
use mathlib.Core.List.{List, [], ◌∷◌}
use native.Mathlib.Omega.{arith}
use lib.ListN.{length}
use Rattle.spec.specs.Limits.{depth_limit}
use Rattle.spec.specs.Hir.{At, Expr, Place}
use Rattle.spec.specs.Ticket.{NodeWord, n_bool, n_int, n_f32, n_f64, n_null, n_static_address, n_function, n_read, n_unary, n_binary, n_funary, n_fbinary, n_compare, n_convert, n_select, n_address, n_offset, n_aggregate, n_extract, n_insert, NodeLine, Tables, node_at, sum, exprs_of, expr_of, expr_at, place_at}
use Rattle.spec.specs.Readable.{All, nodes_of_node, line_sum, node_sum, node_sums, root}
use Rattle.spec.proofs.ReadingLists.{All_both, below_all, sum_le}
use Rattle.spec.proofs.ReadingPool.{refs, tree, NodesRight, Pool}

sums_of : (f : ℕ → ℕ) (e : ℕ → Expr) (xs : List ℕ) → node_sums f (exprs_of e xs) ≤ sum (λ k. node_sum f (e k)) xs
unfolding node_sums
sums_of f e [] = omega arith
sums_of f e (x ∷ xs) = let h = sums_of f e xs in omega arith

-- a node's own TYPE, and at most the nodes that it refers to
sum_of : (f : ℕ → ℕ) (p : ℕ → Place) (e : ℕ → Expr) (h : At) (w : NodeWord) (xs : List ℕ)
    → node_sum f (expr_of p e h w xs) ≤ f h.ty + sum (λ k. node_sum f (e k)) (nodes_of_node w xs)
unfolding node_sum nodes_of_node
sum_of f p e h n_bool xs = omega arith
sum_of f p e h n_int xs = omega arith
sum_of f p e h n_f32 xs = omega arith
sum_of f p e h n_f64 xs = omega arith
sum_of f p e h n_null xs = omega arith
sum_of f p e h n_static_address xs = omega arith
sum_of f p e h n_function xs = omega arith
sum_of f p e h n_read xs = omega arith
sum_of f p e h n_unary xs = omega arith
sum_of f p e h n_binary xs = omega arith
sum_of f p e h n_funary xs = omega arith
sum_of f p e h n_fbinary xs = omega arith
sum_of f p e h n_compare xs = omega arith
sum_of f p e h n_convert xs = omega arith
sum_of f p e h n_select xs = omega arith
sum_of f p e h n_address xs = omega arith
sum_of f p e h n_offset xs = omega arith
sum_of f p e h n_aggregate xs = let s = sums_of f e xs in omega arith
sum_of f p e h n_extract xs = omega arith
sum_of f p e h n_insert xs = omega arith

module _ (f : ℕ → ℕ) (T : Tables) (right : NodesRight T.nodes) where
  expr_sum : (d k : ℕ) → k < length T.nodes → (node_at T k).depth ≤ d → node_sum f (expr_at d T k) ≤ tree f d T.nodes k
  unfolding expr_at
  expr_sum zero k h p = absurd (let q = (right k h).depth_least in omega arith)
  expr_sum (suc d) k h p =
      let n : NodeLine = node_at T k in
      let s = sum_of f (λ i. place_at d T i) (λ i. expr_at d T i) (record { line = n.line; node = k; ty = n.type }) n.word n.args in
      let below : All (λ i. i < k) (refs n) = below_all k (λ i. i < k) (refs n) (λ i q. q) (right k h).refs_earlier in
      let r = sum_le (λ i. node_sum f (expr_at d T i)) (λ i. tree f d T.nodes i) (refs n)
      (All_both (refs n) (λ i a b. expr_sum d i (omega arith) (omega arith)) below (right k h).refs_less_deep) in
      omega arith

-- no node stands twice in the root's tree
pub root_sum : (T : Tables) (us : List Bool) → Pool T.nodes us → 1 ≤ length T.nodes → (f : ℕ → ℕ)
    → node_sum f (root T) ≤ line_sum f T.nodes
unfolding root
root_sum T us P one f =
    let k : ℕ = length T.nodes - 1 in
    let last : k < length T.nodes = omega arith in
    let a = expr_sum f T P.right depth_limit k last (P.right k last).depth_most in
    let b = P.each f depth_limit k last in
    omega arith
