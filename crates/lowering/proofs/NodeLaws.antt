-- The node of a line: what is found there, and its step between those of the node that it is a part of.
use Rattle.std.specs.Prelude.{◌≡◌, refl, ℕ, ◌-◌, ◌≤◌, List, length, Result, Ok, Err}
use Rattle.std.proofs.Common.{sym, ◌⊎◌, inl, inr}
use Rattle.answers.specs.declared.Refusal.{Refusal}
use Rattle.answers.specs.declared.Refused.{Refused}
use Rattle.spec.specs.Hir.{At, Expr}
use Rattle.spec.specs.Lower.{lower_expression}
use Rattle.spec.specs.Lir.{Value}
use Rattle.spec.specs.Ticket as spec
use Rattle.spec.specs.Ticket.{expr_at}
use Rattle.spec.specs.Monad.{Out, Outcome, done, refused}
use Rattle.spec.specs.Monad as monad
use Rattle.lir.specs.declared.NodeId.{NodeId}
use Rattle.tables.specs.declared.NodeKind.{NodeKind}
use Rattle.tables.specs.declared.lookups.Tables.{Tables}
use Rattle.tables.specs.Tables.{tree_of, node_line_at, node_type_at, node_kind_at}
use Rattle.tables.specs.Ticket.{ticket_of}
use Rattle.tables.proofs.Laws.{tree_here}
use Rattle.emission.specs.declared.emitter.Emitter.{Emitter}
use Rattle.values.specs.declared.Lowering.{Lowering}
use Rattle.values.specs.declared.Value.{Value as Val}
use Rattle.values.specs.Heads.{Head, parts_of}
use Rattle.values.specs.Left.{with_out, Left, Case, IsValue, MeetsValue}
use Rattle.lowering.specs.Rooms.{TreeRoom, NodeRoom}

-- the same in the step of another node, with whatever tells that its positions are such
abbrev pub for_node : (e : Emitter) → NodeId → length e.code.buf.now ≤ 18446744073709551615 → e.code.at ≤ 18446744073709551615 → length e.store.buf.now ≤ 18446744073709551615 → e.store.at ≤ 18446744073709551615 → Emitter
for_node e n cl ca sl sa =
    record {
      code = e.code;
      store = e.store;
      instructions = e.instructions;
      storage = e.storage;
      temporary = e.temporary;
      node = n;
      code_long = cl;
      code_at = ca;
      store_long = sl;
      store_at = sa;
    }

-- kinds of floats, which are refused
module _ (T : spec.Tables) (lists : List ℕ) (d : ℕ) (h at : At) (c : monad.Counters) {k : NodeKind} where
  pub float_refused : (((x : ℕ) × k ≡ NodeKind.F32 x) ⊎ ((x : ℕ) × k ≡ NodeKind.F64 x)) → lower_expression T (tree_of T lists d h k) at c ≡ refused 23 h.line
  unfolding lower_expression
  float_refused (inl w) = rw w.1 refl
  float_refused (inr w) = rw w.1 refl

  pub operation_refused : (((x : ℕ) × k ≡ NodeKind.Funary x) ⊎ ((x : ℕ) × (y : ℕ) × k ≡ NodeKind.Fbinary x y)) → lower_expression T (tree_of T lists d h k) at c ≡ refused 24 h.line
  unfolding lower_expression
  operation_refused (inl w) = rw w.1 refl
  operation_refused (inr w) = rw w.2 refl

-- the tree of a line, by its kind
pub found : (t : Tables) (d k : ℕ) (h : d ≡ 0 → ⊥) {line ty : ℕ} {kind : NodeKind} → line ≡ node_line_at t.lines.rows.now t.lines.counts k → ty ≡ node_type_at t.lines.rows.now t.lines.lists.now t.lines.counts k
    → kind ≡ node_kind_at t.lines.rows.now t.lines.lists.now t.lines.counts k
    → expr_at d (ticket_of t.lines) k ≡ tree_of (ticket_of t.lines) t.lines.lists.now (d - 1) (record { line = line; node = k; ty = ty }) kind
found t d k h {kind = kind} e g q = rw (e, g) (tree_here t.lines.rows.now t.lines.lists.now t.lines.counts d k kind h (sym q))

module _ (l : Lowering) (n : NodeId) (cl : length l.out.code.buf.now ≤ 18446744073709551615) (ca : l.out.code.at ≤ 18446744073709551615) (sl : length l.out.store.buf.now ≤ 18446744073709551615) (sa : l.out.store.at ≤ 18446744073709551615) where
  abbrev pub inside : Lowering
  inside = with_out l (for_node l.out n cl ca sl sa)

  -- the room of a node is that of its tree
  pub found_room : {T : spec.Tables} {e e' : Expr} → e ≡ e' → TreeRoom T e l → NodeRoom T n.0 e' inside
  found_room q r =
      let k = rw q at r in
      record { node = refl; tree = record { room = record { instructions = k.room.instructions; storage = k.room.storage; temporary = k.room.temporary }; top = k.top } }

  module _ (l1 : Lowering) (cl1 : length l1.out.code.buf.now ≤ 18446744073709551615) (ca1 : l1.out.code.at ≤ 18446744073709551615) (sl1 : length l1.out.store.buf.now ≤ 18446744073709551615) (sa1 : l1.out.store.at ≤ 18446744073709551615) where
    abbrev pub outside : Lowering
    outside = with_out l1 (for_node l1.out l.out.node cl1 ca1 sl1 sa1)

    left_restored : {hs : List Head} {cs : monad.Counters} {o : Out} → Left inside hs cs o l1 → Left l hs cs o outside
    left_restored k =
        let a = k.appends in
        record {
          appends = record { coded = a.coded; stored = a.stored; counted = a.counted; storage = a.storage; temporary = a.temporary; node = refl };
          numbers = k.numbers;
          narrows = k.narrows;
          marks = k.marks;
          parts = k.parts;
          shows = k.shows;
          sound = k.sound;
          topped = k.topped;
          stacked = k.stacked;
          long = k.long;
          words = k.words;
        }

    case_restored : (o : Outcome Value) (r : Result Val (Refused Refusal)) → Case IsValue parts_of inside o l1 r → Case IsValue parts_of l o outside r
    case_restored (done v c o) (Ok x) k = (k.0, left_restored k.1)
    case_restored (done v c o) (Err e) k = k
    case_restored (refused i j) (Ok x) k = k
    case_restored (refused i j) (Err e) k = k

    -- the own step of a node, between the steps of another
    pub meets_restored : {o : Outcome Value} {r : Result Val (Refused Refusal)} → MeetsValue inside o l1 r → MeetsValue l o outside r
    meets_restored {o} {r} m = record { shown = case_restored o r m.shown }
