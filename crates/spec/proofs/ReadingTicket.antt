-- What reading guarantees: the tables of an accepted ticket are readable.
use Prim.Native.Nat.{ℕ, suc, ◌+◌, ◌-◌, ◌≤◌}
use mathlib.Core.Bool.{Bool, true, false}
use mathlib.Core.List.{List, [], ◌∷◌}
use Rattle.std.specs.Prelude.{Option, None, Some}
use mathlib.Core.Path.{◌≡◌, refl}
use native.Mathlib.Omega.{arith}
use borrow.Author.Tests.{eqb-false}
use lib.Dec.{leb, eqb}
use lib.ListN.{length}
use Rattle.spec.specs.Text.{split, line_feed}
use Rattle.spec.specs.Limits.{text_limit, depth_limit}
use Rattle.spec.specs.Ticket.{Tables, expr_at}
use Rattle.spec.specs.Forms.{Line, line_of}
use Rattle.spec.specs.Read.{Reading, refusal_of, add, Step, stop, go, step, refused, accepted, left_over, at_end, read_lines, start, read_ticket}
use Rattle.spec.specs.Readable.{All, line_sum, TypesRight, root, Readable}
use Rattle.spec.specs.RunNeeds.{bools_in_range}
use Rattle.spec.proofs.ReadingLines.{Formed, line_formed}
use Rattle.spec.proofs.ReadingTypes.{stored_size, no_type_right}
use Rattle.spec.proofs.ReadingTables.{Counted, counted, Typed, typed, Head_of, headed}
use Rattle.spec.proofs.ReadingPlaced.{Placed, placed}
use Rattle.spec.proofs.ReadingPool.{Pool}
use Rattle.spec.proofs.ReadingSums.{Sums, summed, pooled}
use Rattle.spec.proofs.ReadingTree.{root_sum}
use Rattle.spec.proofs.ReadingLists.{All_map}
use Rattle.spec.proofs.ReadingDepth.{Depths, deepened, whole}
use Rattle.spec.proofs.ReadingBools.{Bools, bools_kept, bools_of_root}

-- ---------------------------------------------------------------- the invariant

pub record Good (R : Reading) : Type 0 where
  pub counts : Counted R.tables
  pub types : Typed R.tables.types
  pub first : Head_of R.tables
  pub placed : Placed R.tables
  pub sums : Sums R
  pub nodes : Pool R.tables.nodes R.used.nodes
  pub bools : Bools R.tables
  pub depths : Depths R.tables

pub good_start : Good start
unfolding All line_sum
good_start =
    record {
      counts = omega arith;
      types =
          record {
            right = no_type_right [];
            start = record { bool_first = λ p. absurd (omega arith); pointer_second = λ p. absurd (omega arith) };
          };
      first = record { function_most = omega arith; next_most = omega arith };
      placed = record { storages = tt; variables = tt; statics = tt };
      sums =
          record {
            two = λ p. absurd (omega arith);
            node_types = tt;
            sizes = refl;
            weights = refl;
            sizes_most = omega arith;
            weights_most = omega arith;
          };
      nodes = record { marks = refl; right = λ k p. absurd (omega arith); still_open = λ f d. omega arith; each = λ f d k p. absurd (omega arith) };
      bools = tt;
      depths = record { nodes = tt; places = tt };
    }

pub good_add : (R : Reading) (l : Line) → Formed l.head l.args → refusal_of R l ≡ None → Good R → Good (add R l)
unfolding add
good_add R l f e g =
    record {
      counts = counted R (suc R.lines) l.head l.args e g.counts;
      types = typed R (suc R.lines) l.head l.args f e g.types;
      first = headed R (suc R.lines) l.head l.args f e g.first;
      placed = placed R (suc R.lines) l.head l.args f e g.placed;
      sums = summed R l.head l.args f e g.sums;
      nodes = pooled R l.head l.args f e g.nodes;
      bools = bools_kept R (suc R.lines) l.head l.args f e g.bools;
      depths = deepened R (suc R.lines) g.depths l.head l.args f e;
    }

-- ---------------------------------------------------------------- the text

refused≢accepted : {n l : ℕ} {T : Tables} → refused n l ≡ accepted T → ⊥
refused≢accepted {n} {l} {T} e = let z : ◌≡◌ {A = ℕ} 0 1 = cc in omega arith

stop≢go : {n : ℕ} {R : Reading} → stop n ≡ go R → ⊥
stop≢go {n} {R} e = let z : ◌≡◌ {A = ℕ} 0 1 = cc in omega arith

good_step : (R R' : Reading) (s : List ℕ) → step R (line_of s) ≡ go R' → Good R → Good R'
unfolding step
good_step R R' s e g = by (line_of s) refl
  where
    by_refusal : (l : Line) → line_of s ≡ Some l → (o : Option ℕ) → refusal_of R l ≡ o → Good R'
    by_refusal l q (Some n) p = absurd (stop≢go (rw (q, p) at e))
    by_refusal l q None p =
        let e' : go (add R l) ≡ go R' = rw (q, p) at e in
        let r : add R l ≡ R' = cc in
        rw (← r) (good_add R l (line_formed s l q) p g)

    by : (o : Option Line) → line_of s ≡ o → Good R'
    by None q = absurd (stop≢go (rw q at e))
    by (Some l) q = by_refusal l q (refusal_of R l) refl

-- a good state with these tables, and a node among them
pub record Ends (T : Tables) : Type 0 where
  pub state : Reading
  pub good : Good state
  pub tables_are : state.tables ≡ T
  pub some_node : 1 ≤ length state.tables.nodes

end_good : (R : Reading) (T : Tables) → Good R → at_end R ≡ accepted T → Ends T
unfolding at_end
end_good R T g e = by (left_over R) refl (eqb (length R.tables.nodes) 0) refl
  where
    by : (o : Option ℕ) → left_over R ≡ o → (b : Bool) → eqb (length R.tables.nodes) 0 ≡ b → Ends T
    by (Some n) q b p = absurd (refused≢accepted (rw q at e))
    by None q true p = absurd (refused≢accepted (rw (q, p) at e))
    by None q false p =
        let e' : accepted R.tables ≡ accepted T = rw (q, p) at e in
        let n = eqb-false (length R.tables.nodes) 0 p in
        record { state = R; good = g; tables_are = cc; some_node = omega arith }

lines_good : (ls : List (List ℕ)) (R : Reading) (T : Tables) → Good R → read_lines ls R ≡ accepted T → Ends T
unfolding read_lines
lines_good [] R T g e = end_good R T g e
lines_good ([] ∷ []) R T g e = end_good R T g e
lines_good ((x ∷ xs) ∷ []) R T g e = absurd (refused≢accepted e)
lines_good (l ∷ m ∷ ls) R T g e = by (step R (line_of l)) refl (λ R'. lines_good (m ∷ ls) R' T)
  where
    by : (o : Step) → step R (line_of l) ≡ o → ((R' : Reading) → Good R' → read_lines (m ∷ ls) R' ≡ accepted T → Ends T) → Ends T
    by (stop n) q later = absurd (refused≢accepted (rw (q, read_lines) at e))
    by (go R') q later = later R' (good_step R R' l q g) (rw (q, read_lines) at e)

pub reading_ends : (s : List ℕ) (T : Tables) → read_ticket s ≡ accepted T → Ends T
unfolding read_ticket
reading_ends s T e = by (leb (length s) text_limit) refl
  where
    by : (b : Bool) → leb (length s) text_limit ≡ b → Ends T
    by false q = absurd (refused≢accepted (rw (q, read_ticket) at e))
    by true q = lines_good (split line_feed s) start T good_start (rw (q, read_ticket) at e)

-- ---------------------------------------------------------------- the guarantee

types_right : (R : Reading) → Good R → 1 ≤ length R.tables.nodes → TypesRight R.tables
types_right R g one =
    let two = g.sums.two one in
    record {
      two = two;
      bool_first = g.types.start.bool_first (omega arith);
      pointer_second = g.types.start.pointer_second two;
      counted = λ ty. (g.types.right ty).counted;
      sized = λ ty. (g.types.right ty).sized;
      weighed = λ ty. (g.types.right ty).weighed;
      width_least = λ ty. (g.types.right ty).width_least;
      width_most = λ ty. (g.types.right ty).width_most;
      size_most = λ ty. (g.types.right ty).size_most;
      weight_most = λ ty. (g.types.right ty).weight_most;
      parts_earlier = λ ty. (g.types.right ty).parts_earlier;
      depth_most = λ ty. (g.types.right ty).depth_most;
    }

good_readable : (R : Reading) → Good R → 1 ≤ length R.tables.nodes → Readable R.tables
good_readable R g one =
    record {
      types = types_right R g one;
      storages = g.placed.storages;
      variables = g.placed.variables;
      statics = g.placed.statics;
      function_most = g.first.function_most;
      next_most = g.first.next_most;
      type_count = g.counts.0;
      storage_count = g.counts.1;
      variable_count = g.counts.2;
      static_count = g.counts.3;
      place_count = g.counts.4;
      node_count = g.counts.5;
      some_node = one;
      node_types = g.sums.node_types;
      size_sum = let s = g.sums.sizes in let m = g.sums.sizes_most in omega arith;
      weight_sum = let s = g.sums.weights in let m = g.sums.weights_most in omega arith;
      stored_size = stored_size R.tables g.types.right;
      once = root_sum R.tables R.used.nodes g.nodes one;
    }

pub readable : (s : List ℕ) (T : Tables) → read_ticket s ≡ accepted T → Readable T
readable s T e =
    let end = reading_ends s T e in
    rw end.tables_are at (good_readable end.state end.good end.some_node)

-- a `bool` in the root's tree is 0 or 1
pub bools_read : (s : List ℕ) (T : Tables) → read_ticket s ≡ accepted T → bools_in_range (root T) ≡ true
bools_read s T e =
    let end = reading_ends s T e in
    rw end.tables_are at (bools_of_root end.state.tables end.good.bools)

-- no line of a place or of a node is deeper than the limit ..
pub record Shallow (T : Tables) : Type 0 where
  pub nodes : All (λ n. n.depth ≤ depth_limit) T.nodes
  pub places : All (λ p. p.depth ≤ depth_limit) T.places

pub shallow : (s : List ℕ) (T : Tables) → read_ticket s ≡ accepted T → Shallow T
shallow s T e =
    let end = reading_ends s T e in
    let d : Shallow end.state.tables = record {
      nodes = All_map end.state.tables.nodes (λ n h. h.most) end.good.depths.nodes;
      places = All_map end.state.tables.places (λ p h. h.most) end.good.depths.places;
    } in
    rw end.tables_are at d

-- .. so the root's tree is whole: a tree that may be deeper is the same
pub whole_tree : (s : List ℕ) (T : Tables) → read_ticket s ≡ accepted T → (j : ℕ) → expr_at (j + depth_limit) T (length T.nodes - 1) ≡ root T
unfolding root
whole_tree s T e j =
    let end = reading_ends s T e in
    let one = end.some_node in
    rw end.tables_are at (whole end.state.tables end.good.depths j (length end.state.tables.nodes - 1) (omega arith))
