-- Depth, places and nodes together: what a line refers to is less deep than it, so the tree that is as deep as the limit is the whole tree.
use Prim.Native.Nat.{ℕ, zero, suc, ◌+◌, ◌≤◌, ◌<◌}
use mathlib.Core.List.{List, [], ◌∷◌, ◌++◌}
use Rattle.std.specs.Prelude.{None}
use mathlib.Core.Path.{◌≡◌, refl, sym, ap, ap₂, ◌∙◌}
use native.Mathlib.Omega.{arith}
use borrow.Author.Tests.{leb-true}
use lib.ListN.{length, get_or, get_or-append, length-append}
use Rattle.spec.specs.Limits.{depth_limit}
use Rattle.spec.specs.Hir.{At, Expr, Exprs, ◌∷ᵉ◌, Place}
use Rattle.spec.specs.Ticket.{PlaceWord, p_variable, p_static, p_field, p_element, p_offset, NodeWord, n_bool, n_int, n_f32, n_f64, n_null, n_static_address, n_function, n_read, n_unary, n_binary, n_funary, n_fbinary, n_compare, n_convert, n_select, n_address, n_offset, n_aggregate, n_extract, n_insert, PlaceLine, NodeLine, Tables, no_place, no_node, place_line_at, node_at, exprs_of, expr_of, place_of, expr_at, place_at}
use Rattle.spec.specs.Forms.{type, Arg, Head, f_line, s_line, v_line, g_line, t_line, p_line, n_line, Line}
use Rattle.spec.specs.Read.{Reading, refusal_of, depth_of, place_line, node_line, add_line}
use Rattle.spec.specs.Readable.{All, nodes_of_node}
use Rattle.spec.proofs.ReadingRefers.{places_of_node, nodes_of_place, places_of_place}
use Rattle.spec.proofs.ReadingLists.{All_map, All_both, All_append, below_all}
use Rattle.spec.proofs.ReadingTests.{passed, standing}
use Rattle.spec.proofs.ReadingForms.{node_values, place_values}
use Rattle.spec.proofs.ReadingLines.{Formed, NodeFormed, node_formed, PlaceFormed}
use Rattle.spec.proofs.ReadingArgs.{nodes_below, places_below, nodes_less_deep, places_less_deep}

-- ---------------------------------------------------------------- line by line

-- a line as deep as d that refers to the nodes ns and the places ps
pub record Deep (T : Tables) (ns ps : List ℕ) (d : ℕ) : Type 0 where
  pub nodes_stand : All (λ i. i < length T.nodes) ns
  pub places_stand : All (λ i. i < length T.places) ps
  pub nodes_less : All (λ i. (node_at T i).depth < d) ns
  pub places_less : All (λ i. (place_line_at T i).depth < d) ps
  pub least : 1 ≤ d
  pub most : d ≤ depth_limit

abbrev pub DeepNode : Tables → NodeLine → Type 0
DeepNode T n = Deep T (nodes_of_node n.word n.args) (places_of_node n.word n.args) n.depth

abbrev pub DeepPlace : Tables → PlaceLine → Type 0
DeepPlace T p = Deep T (nodes_of_place p.word p.args) (places_of_place p.word p.args) p.depth

pub record Depths (T : Tables) : Type 0 where
  pub nodes : All (DeepNode T) T.nodes
  pub places : All (DeepPlace T) T.places

-- T′ has T's nodes and places, and perhaps more behind them
record Longer (T T' : Tables) : Type 0 where
  pub more_nodes : List NodeLine
  pub more_places : List PlaceLine
  pub nodes : T'.nodes ≡ T.nodes ++ more_nodes
  pub places : T'.places ≡ T.places ++ more_places

deep_later : {T T' : Tables} {ns ps : List ℕ} {d : ℕ} → Longer T T' → Deep T ns ps d → Deep T' ns ps d
deep_later {T} {T'} {ns} {ps} {d} L D =
    let a = length-append T.nodes L.more_nodes in
    let b = length-append T.places L.more_places in
    record {
      nodes_stand = All_map ns (λ i (h : i < length T.nodes). rw L.nodes (omega arith)) D.nodes_stand;
      places_stand = All_map ps (λ i (h : i < length T.places). rw L.places (omega arith)) D.places_stand;
      nodes_less = All_both ns (λ i h q. rw (L.nodes, get_or-append T.nodes L.more_nodes no_node i h) q) D.nodes_stand D.nodes_less;
      places_less = All_both ps (λ i h q. rw (L.places, get_or-append T.places L.more_places no_place i h) q) D.places_stand D.places_less;
      least = D.least;
      most = D.most;
    }

nothing_more : {A : Type 0} (xs : List A) → xs ≡ xs ++ []
nothing_more [] = refl
nothing_more (x ∷ xs) = ap (λ ys. x ∷ ys) (nothing_more xs)

longer : (T : Tables) (n : ℕ) (h : Head) (xa : List Arg) → Longer T (add_line T n h xa)
unfolding add_line
longer T n f_line xa = record { more_nodes = []; more_places = []; nodes = nothing_more _; places = nothing_more _ }
longer T n s_line xa = record { more_nodes = []; more_places = []; nodes = nothing_more _; places = nothing_more _ }
longer T n v_line xa = record { more_nodes = []; more_places = []; nodes = nothing_more _; places = nothing_more _ }
longer T n g_line xa = record { more_nodes = []; more_places = []; nodes = nothing_more _; places = nothing_more _ }
longer T n (t_line w) xa = record { more_nodes = []; more_places = []; nodes = nothing_more _; places = nothing_more _ }
longer T n (p_line w) xa = record { more_nodes = []; more_places = _ ∷ []; nodes = nothing_more _; places = refl }
longer T n (n_line w) xa = record { more_nodes = _ ∷ []; more_places = []; nodes = refl; places = nothing_more _ }

-- a new line
new_deep : (R : Reading) (l : Line) → refusal_of R l ≡ None → depth_of R.tables l.args ≤ depth_limit
    → Deep R.tables (node_values l.args) (place_values l.args) (depth_of R.tables l.args)
new_deep R l e m =
    let T : Tables = R.tables in
    record {
      nodes_stand = below_all (length T.nodes) (λ i. i < length T.nodes) (node_values l.args) (λ i h. h) (nodes_below T l.args (standing R l e));
      places_stand = below_all (length T.places) (λ i. i < length T.places) (place_values l.args) (λ i h. h) (places_below T l.args (standing R l e));
      nodes_less = nodes_less_deep T l.args;
      places_less = places_less_deep T l.args;
      least = unfold depth_of in omega arith;
      most = m;
    }

new_node : (R : Reading) (n : ℕ) (w : NodeWord) (xa : List Arg) → NodeFormed w xa → refusal_of R (record { head = n_line w; args = xa }) ≡ None
    → DeepNode R.tables (node_line R.tables n w xa)
unfolding refusal_of
new_node R n w xa (node_formed {xa = ya} ty q) e =
    rw (q.nodes, q.places)
    (new_deep R (record { head = n_line w; args = record { class = type; value = ty } ∷ ya }) e (leb-true _ depth_limit ((passed _ _ _ _ _ _ _ _ _ e).depth)))

new_place : (R : Reading) (n : ℕ) (w : PlaceWord) (xa : List Arg) → PlaceFormed w xa → refusal_of R (record { head = p_line w; args = xa }) ≡ None
    → DeepPlace R.tables (place_line R.tables n w xa)
unfolding refusal_of
new_place R n w xa q e =
    rw (q.nodes, q.places) (new_deep R (record { head = p_line w; args = xa }) e (leb-true _ depth_limit ((passed _ _ _ _ _ _ _ _ _ e).depth)))

module _ (R : Reading) (n : ℕ) (c : Depths R.tables) where
  old_nodes : {T' : Tables} → Longer R.tables T' → All (DeepNode T') R.tables.nodes
  old_nodes L = All_map R.tables.nodes (λ u. deep_later L) c.nodes

  old_places : {T' : Tables} → Longer R.tables T' → All (DeepPlace T') R.tables.places
  old_places L = All_map R.tables.places (λ u. deep_later L) c.places

  pub deepened : (h : Head) (xa : List Arg) → Formed h xa → refusal_of R (record { head = h; args = xa }) ≡ None → Depths (add_line R.tables n h xa)
  unfolding add_line
  deepened f_line xa f e = record { nodes = old_nodes (longer R.tables n f_line xa); places = old_places (longer R.tables n f_line xa) }
  deepened s_line xa f e = record { nodes = old_nodes (longer R.tables n s_line xa); places = old_places (longer R.tables n s_line xa) }
  deepened v_line xa f e = record { nodes = old_nodes (longer R.tables n v_line xa); places = old_places (longer R.tables n v_line xa) }
  deepened g_line xa f e = record { nodes = old_nodes (longer R.tables n g_line xa); places = old_places (longer R.tables n g_line xa) }
  deepened (t_line w) xa f e = record { nodes = old_nodes (longer R.tables n (t_line w) xa); places = old_places (longer R.tables n (t_line w) xa) }
  deepened (p_line w) xa f e =
      let L = longer R.tables n (p_line w) xa in
      record {
        nodes = old_nodes L;
        places = All_append (DeepPlace (add_line R.tables n (p_line w) xa)) R.tables.places _ (old_places L) (deep_later L (new_place R n w xa f e));
      }
  deepened (n_line w) xa f e =
      let L = longer R.tables n (n_line w) xa in
      record {
        nodes = All_append (DeepNode (add_line R.tables n (n_line w) xa)) R.tables.nodes _ (old_nodes L) (deep_later L (new_node R n w xa f e));
        places = old_places L;
      }

-- ---------------------------------------------------------------- the tree

exprs_same : (e e' : ℕ → Expr) (xs : List ℕ) → All (λ i. e i ≡ e' i) xs → exprs_of e xs ≡ exprs_of e' xs
unfolding All
exprs_same e e' [] h = refl
exprs_same e e' (x ∷ xs) h = ap₂ (λ (a : Expr) (b : Exprs). a ∷ᵉ b) h.0 (exprs_same e e' xs h.1)

module _ (p p' : ℕ → Place) (e e' : ℕ → Expr) where
  expr_same : (h : At) (w : NodeWord) (xs : List ℕ) → All (λ i. e i ≡ e' i) (nodes_of_node w xs) → All (λ i. p i ≡ p' i) (places_of_node w xs)
      → expr_of p e h w xs ≡ expr_of p' e' h w xs
  unfolding All nodes_of_node places_of_node
  expr_same h n_bool xs a b = refl
  expr_same h n_int xs a b = refl
  expr_same h n_f32 xs a b = refl
  expr_same h n_f64 xs a b = refl
  expr_same h n_null xs a b = refl
  expr_same h n_static_address xs a b = refl
  expr_same h n_function xs a b = refl
  expr_same h n_read xs a b = rw b.0 refl
  expr_same h n_unary xs a b = rw a.0 refl
  expr_same h n_binary xs a b = rw (a.0, a.1.0) refl
  expr_same h n_funary xs a b = rw a.0 refl
  expr_same h n_fbinary xs a b = rw (a.0, a.1.0) refl
  expr_same h n_compare xs a b = rw (a.0, a.1.0) refl
  expr_same h n_convert xs a b = rw a.0 refl
  expr_same h n_select xs a b = rw (a.0, a.1.0, a.1.1.0) refl
  expr_same h n_address xs a b = rw b.0 refl
  expr_same h n_offset xs a b = rw (a.0, a.1.0) refl
  expr_same h n_aggregate xs a b = rw (exprs_same e e' xs a) refl
  expr_same h n_extract xs a b = rw a.0 refl
  expr_same h n_insert xs a b = rw (a.0, a.1.0) refl

  place_same : (w : PlaceWord) (xs : List ℕ) → All (λ i. e i ≡ e' i) (nodes_of_place w xs) → All (λ i. p i ≡ p' i) (places_of_place w xs)
      → place_of p e w xs ≡ place_of p' e' w xs
  unfolding All nodes_of_place places_of_place
  place_same p_variable xs a b = refl
  place_same p_static xs a b = refl
  place_same p_field xs a b = rw b.0 refl
  place_same p_element xs a b = rw (b.0, a.0) refl
  place_same p_offset xs a b = rw (b.0, a.0) refl

All_at : {A : Type 0} (P : A → Type 0) (xs : List A) (z : A) (k : ℕ) → k < length xs → All P xs → P (get_or xs k z)
unfolding All
All_at P [] z k h a = absurd (omega arith)
All_at P (x ∷ xs) z zero h a = a.0
All_at P (x ∷ xs) z (suc k) h a = All_at P xs z k (omega arith) a.1

module _ (T : Tables) (D : Depths T) where
  mutual
    unfolding expr_at place_at

    -- one more unit of fuel changes nothing where the fuel reaches as deep as the line
    node_tree : (d k : ℕ) → k < length T.nodes → (node_at T k).depth ≤ d → expr_at d T k ≡ expr_at (suc d) T k
    node_tree zero k h q = absurd (let l = (All_at (DeepNode T) T.nodes no_node k h D.nodes).least in omega arith)
    node_tree (suc d) k h q =
        let L = All_at (DeepNode T) T.nodes no_node k h D.nodes in
        expr_same (λ i. place_at d T i) (λ i. place_at (suc d) T i) (λ i. expr_at d T i) (λ i. expr_at (suc d) T i) _ _ _
        (All_both _ (λ i u v. node_tree d i u (omega arith)) L.nodes_stand L.nodes_less)
        (All_both _ (λ i u v. place_tree d i u (omega arith)) L.places_stand L.places_less)

    place_tree : (d k : ℕ) → k < length T.places → (place_line_at T k).depth ≤ d → place_at d T k ≡ place_at (suc d) T k
    place_tree zero k h q = absurd (let l = (All_at (DeepPlace T) T.places no_place k h D.places).least in omega arith)
    place_tree (suc d) k h q =
        let L = All_at (DeepPlace T) T.places no_place k h D.places in
        place_same (λ i. place_at d T i) (λ i. place_at (suc d) T i) (λ i. expr_at d T i) (λ i. expr_at (suc d) T i) _ _
        (All_both _ (λ i u v. node_tree d i u (omega arith)) L.nodes_stand L.nodes_less)
        (All_both _ (λ i u v. place_tree d i u (omega arith)) L.places_stand L.places_less)

  -- fuel beyond the limit
  pub whole : (j k : ℕ) → k < length T.nodes → expr_at (j + depth_limit) T k ≡ expr_at depth_limit T k
  whole zero k h = refl
  whole (suc j) k h =
      let L = All_at (DeepNode T) T.nodes no_node k h D.nodes in
      let m = L.most in
      let q : suc j + depth_limit ≡ suc (j + depth_limit) = omega arith in
      rw q (sym (node_tree (j + depth_limit) k h (omega arith)) ∙ whole j k h)
