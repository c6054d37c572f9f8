-- An aggregate's parts one after another: what is lowered of them, and what is left to lower.
use Rattle.std.specs.Prelude.{◌≡◌, refl, List, ℕ, ◌+◌, ◌-◌, ◌≤◌, ◌<◌, length, get_or, Result, Ok, Err}
use Rattle.std.proofs.Common.{arith}
use Rattle.std.proofs.Math.Seq.{length-sets}
use Rattle.std.proofs.lemmas.List.Edits.{sets}
use Rattle.answers.specs.declared.Refusal.{Refusal}
use Rattle.answers.specs.declared.Refused.{Refused}
use Rattle.spec.specs.Ticket as ticket
use Rattle.spec.specs.Ticket.{expr_at, nowhere}
use Rattle.tables.specs.declared.lookups.Tables.{Tables}
use Rattle.tables.specs.Ticket.{ticket_of}
use Rattle.spec.specs.Monad.{bind_to, ◌>>=◌}
use Rattle.spec.specs.Monad as monad
use Rattle.spec.specs.Lower.{lower_expression, lower_expressions}
use Rattle.tables.proofs.Laws.{run_here, run_none}
use Rattle.values.specs.declared.Lowering.{Lowering}
use Rattle.values.specs.declared.Value.{Value as Val}
use Rattle.values.specs.Left.{counters_in, at_top, with_stack, Holds, holds_all, holds_then, holds_from, holds_stack, value_words, MeetsValue, MeetsList, shown_done, shown_refused, stops}
use Rattle.values.specs.Laws.{cons_to, list_more}
use Rattle.reads.proofs.Laws.{none_meets}
use Rattle.lowering.specs.Nodes.{kids}
use Rattle.lowering.specs.Rooms.{TreeRoom, ListRoom}
use Rattle.lowering.proofs.RoomLaws.{head_fits, part_room, parts_room}

-- of the n parts, those from i on are left: what these leave, the whole leaves
pub record Rest (t : Tables) (d a n : ℕ) (l₀ : Lowering) (i : ℕ) (l : Lowering) : Type 0 where
  pub above : l₀.top ≤ l.top
  pub room : ListRoom (ticket_of t.lines) (kids (ticket_of t.lines) t.lines.lists.now d (a + i) (n - i)) l
  pub whole : {l' : Lowering} {r : Result (Unit {0}) (Refused Refusal)} → MeetsList (n - i) l (lower_expressions (ticket_of t.lines) (kids (ticket_of t.lines) t.lines.lists.now d (a + i) (n - i)) nowhere (counters_in l)) l' r
      → MeetsList n l₀ (lower_expressions (ticket_of t.lines) (kids (ticket_of t.lines) t.lines.lists.now d a n) nowhere (counters_in l₀)) l' r

-- .. and the lent slices are as long as they were
pub record Held (t : Tables) (d a n : ℕ) (l₀ : Lowering) (i : ℕ) (l : Lowering) : Type 0 where
  pub rest : Rest t d a n l₀ i l
  pub holds : Holds l₀ l

module _ (T : ticket.Tables) (lists : List ℕ) (d a i n : ℕ) where
  list_here : (c : monad.Counters) → (n ≡ 0 → ⊥) → lower_expressions T (kids T lists d (a + i) n) nowhere c
      ≡ bind_to (λ v g e. bind_to (cons_to v) g (lower_expressions T (kids T lists d (a + (i + 1)) (n - 1)) g e)) nowhere (lower_expression T (expr_at d T (get_or lists (a + i) 0)) nowhere c)
  unfolding lower_expression ◌>>=◌
  list_here c h = let e : a + (i + 1) ≡ a + i + 1 = omega arith in rw (e, run_here lists (a + i) n h)

-- before the first part
pub rest_all : {t : Tables} {d a n : ℕ} {l : Lowering} → ListRoom (ticket_of t.lines) (kids (ticket_of t.lines) t.lines.lists.now d (a + 0) (n - 0)) l → Rest t d a n l 0 l
rest_all {a = a} {n} q =
    let e : a + 0 ≡ a = omega arith in
    let g : n - 0 ≡ n = omega arith in
    record { above = omega arith; room = q; whole = λ x. rw (e, g) at x }

pub held_all : {t : Tables} {d a n : ℕ} {l : Lowering} → ListRoom (ticket_of t.lines) (kids (ticket_of t.lines) t.lines.lists.now d (a + 0) (n - 0)) l → Held t d a n l 0 l
held_all {l = l} q = record { rest = rest_all q; holds = holds_all l }

module _ {t : Tables} {d a n : ℕ} {l₀ : Lowering} {i : ℕ} {l : Lowering} (g : Rest t d a n l₀ i l) where
  abbrev T : ticket.Tables
  T = ticket_of t.lines

  abbrev lists : List ℕ
  lists = t.lines.lists.now

  -- behind the last part
  pub rest_none : n ≤ i → MeetsList n l₀ (lower_expressions T (kids T lists d a n) nowhere (counters_in l₀)) l (Ok tt)
  unfolding lower_expression
  rest_none e = let z : n - i ≡ 0 = omega arith in g.whole (rw (run_none lists (a + i) (n - i) z) (none_meets l (n - i) z))

  module _ (k : i < n) where
    some : n - i ≡ 0 → ⊥
    some e = omega arith

    -- the next part's head has its place
    pub rest_fits : l.top + 8 ≤ length l.stack.now
    rest_fits = head_fits t d a i (n - i) some g.room

    -- and the part its room
    pub rest_first : TreeRoom T (expr_at d T (get_or lists (a + i) 0)) (at_top l (l.top + 8))
    rest_first = part_room t d a i (n - i) some g.room

    -- a part that is refused
    pub rest_refused : {l' : Lowering} {x : Refused Refusal}
        → MeetsValue (at_top l (l.top + 8)) (lower_expression T (expr_at d T (get_or lists (a + i) 0)) nowhere (counters_in l)) l' (Err x)
        → MeetsList n l₀ (lower_expressions T (kids T lists d a n) nowhere (counters_in l₀)) l' (Err x)
    rest_refused v = g.whole (rw (list_here T lists d a i (n - i) (counters_in l) some, shown_refused v refl) (stops refl))

    -- a part that is lowered, its head's record stored below what it left
    pub rest_more : {l1 : Lowering} {x : Val} → MeetsValue (at_top l (l.top + 8)) (lower_expression T (expr_at d T (get_or lists (a + i) 0)) nowhere (counters_in l)) l1 (Ok x)
        → Rest t d a n l₀ (i + 1) (with_stack l1 (sets l1.stack.now l.top (value_words x)))
    rest_more {l1} {x} v =
        let u = shown_done v refl in
        let e : n - (i + 1) ≡ n - i - 1 = omega arith in
        record {
          above = omega (arith, g.above, u.left.topped);
          room = rw e (parts_room t d a i (n - i) some g.room u (length-sets l1.stack.now l.top (value_words x)));
          whole = λ w. g.whole (rw (list_here T lists d a i (n - i) (counters_in l) some, u.is) (list_more (n - i) nowhere u rest_fits (omega arith) (rw e at w)));
        }

module _ {t : Tables} {d a n : ℕ} {l₀ : Lowering} {i : ℕ} {l : Lowering} (g : Held t d a n l₀ i l) where
  -- what a part leaves, lowered or refused
  pub rest_holds : {l1 : Lowering} → Holds (at_top l (l.top + 8)) l1 → Holds l₀ l1
  rest_holds b = holds_then g.holds (holds_from b)

  -- a part that is lowered, with the slices held
  pub held_more : i < n → {l1 : Lowering} {x : Val} → Holds (at_top l (l.top + 8)) l1
      → MeetsValue (at_top l (l.top + 8)) (lower_expression (ticket_of t.lines) (expr_at d (ticket_of t.lines) (get_or t.lines.lists.now (a + i) 0)) nowhere (counters_in l)) l1 (Ok x)
      → Held t d a n l₀ (i + 1) (with_stack l1 (sets l1.stack.now l.top (value_words x)))
  held_more k {l1} {x} b v = record { rest = rest_more g.rest k v; holds = holds_stack (length-sets l1.stack.now l.top (value_words x)) (rest_holds b) }
