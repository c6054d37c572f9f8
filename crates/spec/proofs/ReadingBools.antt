-- A `bool` is 0 or 1: kept by every accepted line, and so in the expression of every node.
use Prim.Native.Nat.{ℕ, zero, suc, ◌-◌, ◌≤◌}
use mathlib.Core.Bool.{true}
use mathlib.Core.List.{List, [], ◌∷◌}
use Rattle.std.specs.Prelude.{None}
use mathlib.Core.Path.{◌≡◌, refl, subst}
use native.Mathlib.Omega.{arith}
use borrow.Author.Tests.{le-leb}
use lib.ListN.{length, get_or}
use Rattle.spec.specs.Limits.{depth_limit}
use Rattle.spec.specs.Hir.{At, Expr, Place}
use Rattle.spec.specs.Ticket.{NodeWord, n_bool, n_int, n_f32, n_f64, n_null, n_static_address, n_function, n_read, n_unary, n_binary, n_funary, n_fbinary, n_compare, n_convert, n_select, n_address, n_offset, n_aggregate, n_extract, n_insert, NodeLine, Tables, no_node, node_at, arg, exprs_of, expr_of, expr_at, place_at}
use Rattle.spec.specs.Forms.{between, type, Arg, Head, f_line, s_line, v_line, g_line, t_line, p_line, n_line, values}
use Rattle.spec.specs.Read.{Reading, refusal_of, behind_type, add_line}
use Rattle.spec.specs.Readable.{All, root}
use Rattle.spec.specs.RunNeeds.{bools_in_range, all_bools_in_range}
use Rattle.spec.proofs.Bools.{and_true}
use Rattle.spec.proofs.ReadingLists.{All_append}
use Rattle.spec.proofs.ReadingTests.{in_range, Within, ranged}
use Rattle.spec.proofs.ReadingLines.{Formed, NodeFormed, node_formed}

-- ---------------------------------------------------------------- line by line

abbrev BoolRight : NodeLine → Type 0
BoolRight n = n.word ≡ n_bool → arg n.args 0 ≤ 1

abbrev pub Bools : Tables → Type 0
Bools T = All BoolRight T.nodes

new_bool : (R : Reading) (w : NodeWord) (xa : List Arg) → NodeFormed w xa → refusal_of R (record { head = n_line w; args = xa }) ≡ None
    → w ≡ n_bool → arg (behind_type (values xa)) 0 ≤ 1
unfolding All
new_bool R w xa (node_formed {xa = ya} ty q) e b =
    let r = ranged R (record { head = n_line w; args = record { class = type; value = ty } ∷ ya }) e in
    let s : Within (record { class = between 0 1; value = arg (values ya) 0 } ∷ []) = subst (λ (za : List Arg). Within za) (q.of_bool b) r.1 in
    (in_range 0 1 (arg (values ya) 0) s.0).1

pub bools_kept : (R : Reading) (n : ℕ) (h : Head) (xa : List Arg) → Formed h xa → refusal_of R (record { head = h; args = xa }) ≡ None
    → Bools R.tables → Bools (add_line R.tables n h xa)
unfolding add_line
bools_kept R n f_line xa f e c = c
bools_kept R n s_line xa f e c = c
bools_kept R n v_line xa f e c = c
bools_kept R n g_line xa f e c = c
bools_kept R n (t_line w) xa f e c = c
bools_kept R n (p_line w) xa f e c = c
bools_kept R n (n_line w) xa f e c = All_append BoolRight R.tables.nodes _ c (new_bool R w xa f e)

-- ---------------------------------------------------------------- in the tree

-- what stands at a number that no line has is no `bool`
node_right : (ns : List NodeLine) (k : ℕ) → All BoolRight ns → BoolRight (get_or ns k no_node)
unfolding All
node_right [] k h = λ e. absurd (let z : ◌≡◌ {A = ℕ} 0 1 = cc in omega arith)
node_right (n ∷ ns) zero h = h.0
node_right (n ∷ ns) (suc k) h = node_right ns k h.1

bools_of_all : (e : ℕ → Expr) (xs : List ℕ) → ((k : ℕ) → bools_in_range (e k) ≡ true) → all_bools_in_range (exprs_of e xs) ≡ true
unfolding all_bools_in_range
bools_of_all e [] h = refl
bools_of_all e (x ∷ xs) h = and_true (h x) (bools_of_all e xs h)

bools_of : (p : ℕ → Place) (e : ℕ → Expr) (h : At) (w : NodeWord) (xs : List ℕ) → (w ≡ n_bool → arg xs 0 ≤ 1)
    → ((k : ℕ) → bools_in_range (e k) ≡ true) → bools_in_range (expr_of p e h w xs) ≡ true
unfolding bools_in_range
bools_of p e h n_bool xs b r = le-leb (arg xs 0) 1 (b refl)
bools_of p e h n_int xs b r = refl
bools_of p e h n_f32 xs b r = refl
bools_of p e h n_f64 xs b r = refl
bools_of p e h n_null xs b r = refl
bools_of p e h n_static_address xs b r = refl
bools_of p e h n_function xs b r = refl
bools_of p e h n_read xs b r = refl
bools_of p e h n_unary xs b r = r (arg xs 1)
bools_of p e h n_binary xs b r = and_true (r (arg xs 1)) (r (arg xs 2))
bools_of p e h n_funary xs b r = refl
bools_of p e h n_fbinary xs b r = refl
bools_of p e h n_compare xs b r = and_true (r (arg xs 1)) (r (arg xs 2))
bools_of p e h n_convert xs b r = r (arg xs 1)
bools_of p e h n_select xs b r = and_true (and_true (r (arg xs 0)) (r (arg xs 1))) (r (arg xs 2))
bools_of p e h n_address xs b r = refl
bools_of p e h n_offset xs b r = and_true (r (arg xs 0)) (r (arg xs 1))
bools_of p e h n_aggregate xs b r = bools_of_all e xs r
bools_of p e h n_extract xs b r = r (arg xs 0)
bools_of p e h n_insert xs b r = and_true (r (arg xs 0)) (r (arg xs 2))

module _ (T : Tables) (c : Bools T) where
  bools_at : (d k : ℕ) → bools_in_range (expr_at d T k) ≡ true
  unfolding expr_at bools_in_range
  bools_at zero k = refl
  bools_at (suc d) k =
      let n : NodeLine = node_at T k in
      bools_of (λ i. place_at d T i) (λ i. expr_at d T i) (record { line = n.line; node = k; ty = n.type }) n.word n.args
      (node_right T.nodes k c) (λ i. bools_at d i)

  pub bools_of_root : bools_in_range (root T) ≡ true
  unfolding root
  bools_of_root = bools_at depth_limit (length T.nodes - 1)
