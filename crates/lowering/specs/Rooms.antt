-- The room that lowering an expression may count on: more of each counter than its nodes use, and a record for each value.
use Rattle.std.specs.Prelude.{ℕ, ◌+◌, ◌*◌, ◌≤◌, ◌≡◌, length}
use Rattle.spec.specs.Hir.{Expr, Exprs}
use Rattle.spec.specs.Ticket.{Tables}
use Rattle.spec.specs.Readable.{node_sum, node_sums}
use Rattle.emission.specs.Appends.{Room}
use Rattle.values.specs.declared.Lowering.{Lowering}
use Rattle.reads.specs.Reading.{size_of, weight_of}

pub record TreeRoom (T : Tables) (e : Expr) (l : Lowering) : Type 0 where
  pub room : Room (node_sum (λ ty. 3 * size_of T ty + 2) e + 4096) l.out
  pub top : l.top + 8 * node_sum (weight_of T) e ≤ length l.stack.now + 8

pub record ListRoom (T : Tables) (es : Exprs) (l : Lowering) : Type 0 where
  pub room : Room (node_sums (λ ty. 3 * size_of T ty + 2) es + 4096) l.out
  pub top : l.top + 8 * node_sums (weight_of T) es ≤ length l.stack.now

-- in the step of node n, which is e
pub record NodeRoom (T : Tables) (n : ℕ) (e : Expr) (l : Lowering) : Type 0 where
  pub node : n ≡ l.out.node.0
  pub tree : TreeRoom T e l
