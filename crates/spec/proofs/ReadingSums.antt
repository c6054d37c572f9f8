-- The sums over nodes are those of the tables, and the pool of nodes is kept right, by every accepted line.
use Prim.Native.Nat.{ℕ, suc, ◌+◌, ◌≤◌, ◌<◌}
use mathlib.Core.Bool.{false}
use mathlib.Core.List.{List, [], ◌∷◌, ◌++◌}
use Rattle.std.specs.Prelude.{None}
use mathlib.Core.Path.{◌≡◌, refl, sym, ap, ◌∙◌}
use native.Mathlib.Omega.{arith}
use native.Mathlib.Nat.{add-zero}
use borrow.Author.Tests.{ltb-true, leb-true}
use lib.Dec.{leb}
use lib.ListN.{length, get_or-append, length-append}
use Rattle.spec.specs.Limits.{size_sum_limit, weight_sum_limit, depth_limit}
use Rattle.spec.specs.Ticket.{NodeWord, NodeLine, TypeLine, no_type, arg}
use Rattle.spec.specs.Forms.{type, Arg, Head, f_line, s_line, v_line, g_line, t_line, p_line, n_line, Line, values}
use Rattle.spec.specs.Read.{Reading, refusal_of, depth_of, add_line, add, mark}
use Rattle.spec.specs.Readable.{All, line_sum}
use Rattle.spec.proofs.ReadingLists.{All_map, All_append}
use Rattle.spec.proofs.Bools.{and_left, and_right}
use Rattle.spec.proofs.ReadingTests.{passed, standing}
use Rattle.spec.proofs.ReadingForms.{node_values}
use Rattle.spec.proofs.ReadingLines.{Formed, NodeFormed, node_formed}
use Rattle.spec.proofs.ReadingArgs.{nodes_below, nodes_less_deep}
use Rattle.spec.proofs.ReadingTypes.{at, size_at, weight_at}
use Rattle.spec.proofs.ReadingPool.{Marked, Pool, line_sum_append, pool_marked, pool_append}
use Rattle.spec.proofs.ReadingMarks.{marked}

-- ---------------------------------------------------------------- the pool of nodes

-- the line's marks
marks : (R : Reading) (l : Line) → Pool R.tables.nodes R.used.nodes → refusal_of R l ≡ None
    → Marked (node_values l.args) R.used.nodes (mark l.args R.used).nodes
unfolding refusal_of
marks R l P e =
    marked l.args R.used (passed _ _ _ _ _ _ _ _ _ e).once (rw P.marks (nodes_below R.tables l.args (standing R l e)))

new_node : (R : Reading) (n : ℕ) (w : NodeWord) (xa : List Arg) → NodeFormed w xa → refusal_of R (record { head = n_line w; args = xa }) ≡ None
    → Pool R.tables.nodes R.used.nodes
    → Pool (add_line R.tables n (n_line w) xa).nodes ((mark xa R.used).nodes ++ (false ∷ []))
unfolding refusal_of add_line
new_node R n w xa (node_formed {xa = ya} ty q) e P =
    let l : Line = record { head = n_line w; args = record { class = type; value = ty } ∷ ya } in
    pool_append R.tables.nodes R.used.nodes (mark l.args R.used).nodes _ P (rw q.nodes (marks R l P e))
    (record {
      refs_earlier = rw q.nodes (nodes_below R.tables l.args (standing R l e));
      refs_less_deep = rw q.nodes (nodes_less_deep R.tables l.args);
      depth_least = unfold depth_of in omega arith;
      depth_most = leb-true (depth_of R.tables l.args) depth_limit (passed _ _ _ _ _ _ _ _ _ e).depth;
    })

pub pooled : (R : Reading) (h : Head) (xa : List Arg) → Formed h xa → refusal_of R (record { head = h; args = xa }) ≡ None
    → Pool R.tables.nodes R.used.nodes
    → Pool (add R (record { head = h; args = xa })).tables.nodes (add R (record { head = h; args = xa })).used.nodes
unfolding add add_line
pooled R f_line xa f e P = pool_marked _ _ _ _ P (marks R (record { head = f_line; args = xa }) P e)
pooled R s_line xa f e P = pool_marked _ _ _ _ P (marks R (record { head = s_line; args = xa }) P e)
pooled R v_line xa f e P = pool_marked _ _ _ _ P (marks R (record { head = v_line; args = xa }) P e)
pooled R g_line xa f e P = pool_marked _ _ _ _ P (marks R (record { head = g_line; args = xa }) P e)
pooled R (t_line w) xa f e P = pool_marked _ _ _ _ P (marks R (record { head = t_line w; args = xa }) P e)
pooled R (p_line w) xa f e P = pool_marked _ _ _ _ P (marks R (record { head = p_line w; args = xa }) P e)
pooled R (n_line w) xa f e P = new_node R (suc R.lines) w xa f e P

-- ---------------------------------------------------------------- the sums

-- of types and nodes with the sums s and w
pub record Summed (ts : List TypeLine) (ns : List NodeLine) (s w : ℕ) : Type 0 where
  pub two : 1 ≤ length ns → 2 ≤ length ts
  pub node_types : All (λ n. n.type < length ts) ns
  pub sizes : s ≡ line_sum (size_at ts) ns
  pub weights : w ≡ line_sum (weight_at ts) ns
  pub sizes_most : s ≤ size_sum_limit
  pub weights_most : w ≤ weight_sum_limit

line_sum_same : (f g : ℕ → ℕ) (ns : List NodeLine) → All (λ n. f n.type ≡ g n.type) ns → line_sum f ns ≡ line_sum g ns
unfolding line_sum All
line_sum_same f g [] h = refl
line_sum_same f g (n ∷ ns) h = let a = h.0 in let b = line_sum_same f g ns h.1 in omega arith

-- a later type changes no sum
more_types : (ts : List TypeLine) (t : TypeLine) (ns : List NodeLine) (s w : ℕ) → Summed ts ns s w → Summed (ts ++ (t ∷ [])) ns s w
more_types ts t ns s w c =
    let ts' : List TypeLine = ts ++ (t ∷ []) in
    let e : All (λ n. at ts n.type ≡ at ts' n.type) ns =
    All_map ns (λ n h. sym (get_or-append ts (t ∷ []) no_type n.type h)) c.node_types in
    record {
      two = λ h. simp length-append (let z = c.two h in omega arith);
      node_types = All_map ns (λ n (h : n.type < length ts). simp length-append (omega arith)) c.node_types;
      sizes = c.sizes ∙ line_sum_same (size_at ts) (size_at ts') ns (All_map ns (λ n q. ap (λ (u : TypeLine). u.size) q) e);
      weights = c.weights ∙ line_sum_same (weight_at ts) (weight_at ts') ns (All_map ns (λ n q. ap (λ (u : TypeLine). u.weight) q) e);
      sizes_most = c.sizes_most;
      weights_most = c.weights_most;
    }

more_nodes : (R : Reading) (k : ℕ) (w : NodeWord) (xa : List Arg) → NodeFormed w xa → refusal_of R (record { head = n_line w; args = xa }) ≡ None
    → Summed R.tables.types R.tables.nodes R.sizes R.weights
    → Summed R.tables.types (add_line R.tables k (n_line w) xa).nodes
    (R.sizes + size_at R.tables.types (arg (values xa) 0)) (R.weights + weight_at R.tables.types (arg (values xa) 0))
unfolding refusal_of add_line All
more_nodes R k w xa (node_formed {xa = ya} ty q) e c =
    let l : Line = record { head = n_line w; args = record { class = type; value = ty } ∷ ya } in
    let ts : List TypeLine = R.tables.types in
    let p = passed _ _ _ _ _ _ _ _ _ e in
    record {
      two = λ h. leb-true 2 (length ts) p.types;
      node_types =
          All_append (λ n. n.type < length ts) R.tables.nodes _ c.node_types (ltb-true ty (length ts) (standing R l e).0);
      sizes = rw line_sum_append (ap (λ (x : ℕ). x + size_at ts ty) c.sizes);
      weights = rw line_sum_append (ap (λ (x : ℕ). x + weight_at ts ty) c.weights);
      sizes_most = leb-true (R.sizes + size_at ts ty) size_sum_limit (and_left _ _ p.sums);
      weights_most = leb-true (R.weights + weight_at ts ty) weight_sum_limit (and_right (leb (R.sizes + size_at ts ty) size_sum_limit) _ p.sums);
    }

abbrev pub Sums : Reading → Type 0
Sums R = Summed R.tables.types R.tables.nodes R.sizes R.weights

pub summed : (R : Reading) (h : Head) (xa : List Arg) → Formed h xa → refusal_of R (record { head = h; args = xa }) ≡ None
    → Sums R → Sums (add R (record { head = h; args = xa }))
unfolding add add_line
summed R f_line xa f e c = simp add-zero c
summed R s_line xa f e c = simp add-zero c
summed R v_line xa f e c = simp add-zero c
summed R g_line xa f e c = simp add-zero c
summed R (t_line w) xa f e c = simp add-zero (more_types _ _ _ _ _ c)
summed R (p_line w) xa f e c = simp add-zero c
summed R (n_line w) xa f e c = more_nodes R (suc R.lines) w xa f e c
