-- The room of each operand and of a node's own step, from the room of the node.
use Rattle.std.specs.Prelude.{◌≡◌, List, [], ℕ, ◌+◌, ◌-◌, ◌*◌, ◌≤◌, length, get_or}
use Rattle.std.proofs.Common.{arith}
use Rattle.spec.specs.Hir.{At, Expr, select, aggregate}
use Rattle.spec.specs.Ticket as ticket
use Rattle.spec.specs.Ticket.{expr_at, nowhere}
use Rattle.spec.specs.Readable.{TypesRight, node_sum, node_sums}
use Rattle.spec.specs.Lower.{lower_expression, expression_as_bit}
use Rattle.spec.proofs.CostClosed.{lowers_bit}
use Rattle.lir.specs.declared.BitOperand.{BitOperand as Bit}
use Rattle.emission.specs.Appends.{Room, room_less, room_after}
use Rattle.tables.specs.declared.lookups.Tables.{Tables}
use Rattle.tables.specs.Ticket.{ticket_of}
use Rattle.tables.proofs.Laws.{run_here}
use Rattle.values.specs.declared.Lowering.{Lowering}
use Rattle.values.specs.declared.Value.{Value as Val}
use Rattle.values.specs.Heads.{Sound_value}
use Rattle.values.specs.Left.{counters_in, at_top, with_stack, IsBit, Done, DoneValue}
use Rattle.values.specs.Stack.{Stands, stands_left}
use Rattle.parts.specs.Insert.{Insertable}
use Rattle.parts.specs.Meets.{left_fits, first_stands, second_stands}
use Rattle.parts.specs.InsertMeets.{insert_ready}
use Rattle.reads.specs.Reading.{size_of, weight_of, StepRoom, TypeRoom}
use Rattle.reads.proofs.Bounds.{weight_least}
use Rattle.lowering.specs.Nodes.{kids}
use Rattle.lowering.specs.Rooms.{TreeRoom, ListRoom, NodeRoom}
use Rattle.lowering.proofs.Sums.{sum_least, sum_le, cost, after, top_after, node_after, topped}
use Rattle.lowering.proofs.StepLaws.{LowersHead, LowersValue, lowered}

module _ (t : Tables) where
  abbrev T : ticket.Tables
  T = ticket_of t.lines

  abbrev R : TypesRight T
  R = t.readable.types

  -- ---------------------------------------------------------------- a node's own step

  -- the place of a node is read
  pub read_room : {n ty : ℕ} {e : Expr} {l : Lowering} → ((f : ℕ → ℕ) → node_sum f e ≡ f ty) → NodeRoom T n e l → TypeRoom T n ty 0 l
  read_room {ty = ty} s r =
      record { node = r.node; room = room_less (omega (arith, R.size_most ty)) r.tree.room; top = omega (arith, s (weight_of T), r.tree.top); reach = omega (arith, R.size_most ty) }

  pub tree_top : (e : Expr) {l : Lowering} → TreeRoom T e l → l.top ≤ length l.stack.now
  tree_top e r = omega (arith, r.top, sum_least (weight_of T) (weight_least T R) e)

  -- ---------------------------------------------------------------- one operand

  module _ {n : ℕ} (ty : ℕ) {e : Expr} (a : Expr) (s : (f : ℕ → ℕ) → node_sum f e ≡ node_sum f a + f ty) {l : Lowering} (q : NodeRoom T n e l) where
    pub one_room : TreeRoom T a l
    one_room = record { room = room_less (omega (arith, s (cost T))) q.tree.room; top = omega (arith, s (weight_of T), q.tree.top) }

    pub one_ready : {l1 : Lowering} {x : Val} → LowersHead T a l l1 x → Sound_value x × StepRoom T n ty l1
    one_ready d = (
      (lowered d).shows.sound,
      record {
        node = node_after (lowered d) q.node;
        room = after T R a (lowered d) 4096 (room_less (omega (arith, s (cost T))) q.tree.room);
        top = omega (arith, s (weight_of T), q.tree.top, topped (lowered d), (lowered d).left.long);
      },
    )

    -- its parts stand there
    pub one_stands : {l1 : Lowering} {x : Val} → LowersValue T a l l1 x → (l.top ≤ l1.top) × (l1.top ≤ length l1.stack.now) × Stands l1.stack.now l.top l1.top
    one_stands d =
        let h = tree_top a one_room in
        (omega (arith, (lowered d).left.topped), left_fits (lowered d).left h, stands_left (lowered d).left h)

  -- ---------------------------------------------------------------- two operands

  module _ {n : ℕ} (ty : ℕ) {e : Expr} (a b : Expr) (s : (f : ℕ → ℕ) → node_sum f e ≡ node_sum f a + (node_sum f b + f ty)) {l : Lowering} (q : NodeRoom T n e l) where
    pub two_room : TreeRoom T a l
    two_room = record { room = room_less (omega (arith, s (cost T))) q.tree.room; top = omega (arith, s (weight_of T), q.tree.top) }

    both_room : Room (node_sum (cost T) a + (node_sum (cost T) b + 4096)) l.out
    both_room = room_less (omega (arith, s (cost T))) q.tree.room

    module _ {l1 : Lowering} {x : Val} where
      module _ (d : LowersHead T a l l1 x) where
        pub second_room : TreeRoom T b l1
        second_room = record { room = after T R a (lowered d) (node_sum (cost T) b + 4096) both_room; top = omega (arith, s (weight_of T), q.tree.top, topped (lowered d), (lowered d).left.long) }

        pub two_ready : {l2 : Lowering} {y : Val} → LowersHead T b l1 l2 y → Sound_value x × Sound_value y × StepRoom T n ty l2
        two_ready g = (
          (lowered d).shows.sound,
          (lowered g).shows.sound,
          record {
            node = node_after (lowered g) (node_after (lowered d) q.node);
            room = after T R b (lowered g) 4096 (after T R a (lowered d) (node_sum (cost T) b + 4096) both_room);
            top = omega (arith, s (weight_of T), q.tree.top, topped (lowered d), (lowered d).left.long, topped (lowered g), (lowered g).left.long);
          },
        )

      module _ (d : LowersValue T a l l1 x) where
        -- above the first one's parts
        pub above_room : TreeRoom T b l1
        above_room = record { room = after T R a (lowered d) (node_sum (cost T) b + 4096) both_room; top = omega (arith, s (weight_of T), q.tree.top, top_after T R a (lowered d), (lowered d).left.long) }

        pub insertable : {l2 : Lowering} {y : Val} → LowersValue T b l1 l2 y → Insertable l2.stack.now l.top l1.top l2.top y
        insertable g = insert_ready (lowered d) (lowered g) (tree_top a two_room)

  -- ---------------------------------------------------------------- a select

  module _ {h : At} {n : ℕ} {yes no cond : Expr} {l : Lowering} (q : NodeRoom T n (select h yes no cond) l) where
    pub select_room : TreeRoom T yes l
    unfolding node_sum
    select_room = record { room = room_less (omega arith) q.tree.room; top = omega (arith, q.tree.top) }

    module _ {l1 : Lowering} {x : Val} (d : LowersValue T yes l l1 x) where
      pub other_room : TreeRoom T no l1
      unfolding node_sum
      other_room =
          record { room = after T R yes (lowered d) (node_sum (cost T) no + 4096) (room_less (omega arith) q.tree.room); top = omega (arith, q.tree.top, top_after T R yes (lowered d), (lowered d).left.long) }

      module _ {l2 : Lowering} {y : Val} (g : LowersValue T no l1 l2 y) where
        arms_room : Room (node_sum (cost T) cond + 4098) l2.out
        unfolding node_sum
        arms_room =
            after T R no (lowered g) (node_sum (cost T) cond + 4098) (after T R yes (lowered d) (node_sum (cost T) no + (node_sum (cost T) cond + 4098)) (room_less (omega arith) q.tree.room))

        pub condition_room : TreeRoom T cond l2
        unfolding node_sum
        condition_room =
            record {
              room = room_less (omega arith) arms_room;
              top = omega (arith, q.tree.top, top_after T R yes (lowered d), (lowered d).left.long, top_after T R no (lowered g), (lowered g).left.long);
            }

        pub bit_room : {l3 : Lowering} {z : Val} → LowersHead T cond l2 l3 z → Sound_value z × Room 2 l3.out
        bit_room k = ((lowered k).shows.sound, after T R cond (lowered k) 2 (room_less (omega arith) arms_room))

        pub select_ready : {l4 : Lowering} {b : Bit} → Done IsBit (λ _. []) l2 (expression_as_bit T h cond nowhere (counters_in l2)) l4 b
            → (StepRoom T n h.ty (at_top l4 l.top)) × Sound_value x × Sound_value y × (Stands l4.stack.now l.top l1.top) × (Stands l4.stack.now l1.top l2.top) × (l.top ≤ l1.top) × (l1.top ≤ l2.top) × (l2.top ≤ length l4.stack.now)
        unfolding node_sum
        select_ready {l4} k =
            let i = tree_top yes select_room in
            let j = left_fits (lowered g).left (left_fits (lowered d).left i) in
            let u = lowers_bit T R nowhere (counters_in l2) h cond k.v (counters_in l4) k.out k.is in
            let z = sum_le (λ ty. 2 * size_of T ty + 2) (cost T) (λ ty. omega arith) cond in (
              record {
                node = node_after k (node_after (lowered g) (node_after (lowered d) q.node));
                room = room_after 4096 (omega (arith, z, u.cost.storages)) (omega (arith, u.cost.instructions)) arms_room k.left.appends;
                top = omega (arith, q.tree.top, (lowered d).left.long, (lowered g).left.long, k.left.long);
              },
              (lowered d).shows.sound,
              (lowered g).shows.sound,
              first_stands (lowered d) (lowered g) k i,
              second_stands (lowered d) (lowered g) k i,
              omega (arith, (lowered d).left.topped),
              omega (arith, (lowered g).left.topped),
              omega (arith, j, k.left.long),
            )

  -- ---------------------------------------------------------------- parts

  module _ (d a i n : ℕ) (h : n ≡ 0 → ⊥) where
    abbrev lists : List ℕ
    lists = t.lines.lists.now

    kids_sum : (f : ℕ → ℕ) → node_sums f (kids T lists d (a + i) n) ≡ node_sum f (expr_at d T (get_or lists (a + i) 0)) + node_sums f (kids T lists d (a + (i + 1)) (n - 1))
    unfolding node_sum
    kids_sum f = let e : a + (i + 1) ≡ a + i + 1 = omega arith in rw (e, run_here lists (a + i) n h)

    module _ {l : Lowering} (r : ListRoom T (kids T lists d (a + i) n) l) where
      -- a head's record has its place
      pub head_fits : l.top + 8 ≤ length l.stack.now
      head_fits = omega (arith, r.top, kids_sum (weight_of T), sum_least (weight_of T) (weight_least T R) (expr_at d T (get_or lists (a + i) 0)))

      pub part_room : TreeRoom T (expr_at d T (get_or lists (a + i) 0)) (at_top l (l.top + 8))
      part_room = record { room = room_less (omega (arith, kids_sum (cost T))) r.room; top = omega (arith, r.top, kids_sum (weight_of T)) }

      pub parts_room : {l1 : Lowering} {x : Val} {ws : List ℕ}
          → DoneValue (at_top l (l.top + 8)) (lower_expression T (expr_at d T (get_or lists (a + i) 0)) nowhere (counters_in (at_top l (l.top + 8)))) l1 x
          → length ws ≡ length l1.stack.now → ListRoom T (kids T lists d (a + (i + 1)) (n - 1)) (with_stack l1 ws)
      parts_room v g =
          let e = expr_at d T (get_or lists (a + i) 0) in
          record {
            room = after T R e v (node_sums (cost T) (kids T lists d (a + (i + 1)) (n - 1)) + 4096) (room_less (omega (arith, kids_sum (cost T))) r.room);
            top = omega (arith, r.top, kids_sum (weight_of T), top_after T R e v, v.left.long, g);
          }

  pub list_room : {h : At} {m : ℕ} (d a n : ℕ) {l : Lowering} → NodeRoom T m (aggregate h (kids T t.lines.lists.now d a n)) l → ListRoom T (kids T t.lines.lists.now d (a + 0) (n - 0)) l
  unfolding node_sum
  list_room {h} d a n q =
      let e : a + 0 ≡ a = omega arith in
      let g : n - 0 ≡ n = omega arith in
      rw (e, g) (record { room = room_less (omega arith) q.tree.room; top = omega (arith, q.tree.top, weight_least T R h.ty) })
