-- Parts one after another: what is read of them, and what is left to read.
use Rattle.std.specs.Prelude.{◌≡◌, refl, List, ℕ, ◌+◌, ◌-◌, ◌≤◌, ◌<◌, length, Result, Ok, Err}
use Rattle.std.specs.Result.{IsErrAnd}
use Rattle.std.proofs.Common.{◌∙◌, arith}
use Rattle.std.proofs.Math.Seq.{length-sets}
use Rattle.std.proofs.lemmas.List.Edits.{sets}
use Rattle.answers.specs.declared.Refusal.{Refusal}
use Rattle.answers.specs.declared.Refused.{Refused}
use Rattle.spec.specs.Hir as hir
use Rattle.spec.specs.Ticket.{Tables, sum}
use Rattle.spec.specs.Readable.{TypesRight}
use Rattle.spec.specs.Lir.{Value, Values}
use Rattle.spec.specs.Monad.{Outcome, ◌>>=◌}
use Rattle.spec.specs.ReadBytes.{read_fields, read_bytes_as_type}
use Rattle.spec.specs.Allocation.{type_size}
use Rattle.values.specs.declared.Lowering.{Lowering}
use Rattle.values.specs.declared.Value.{Value as Val}
use Rattle.values.specs.Left.{counters_in, at_top, with_stack, Holds, SameMarks, holds_then, holds_from, holds_stack, value_words, MeetsValue, MeetsList, shown_done, shown_refused}
use Rattle.values.specs.Laws.{list_more}
use Rattle.reads.specs.declared.Parts.{Parts}
use Rattle.reads.specs.Reading.{part_type, part_types, size_of, weight_of, TypeRoom, PartsRoom}
use Rattle.reads.proofs.Lines.{parts_none, parts_next}
use Rattle.reads.proofs.Bounds.{few_read, weight_least}
use Rattle.reads.proofs.Laws.{passed, none_meets, room_first, room_rest}

-- a part at byte p, and n of them from part i on
abbrev one_read : Tables → ℕ → ℕ → hir.At → ℕ → ℕ → Lowering → Outcome Value
one_read T d storage h ty p l = read_bytes_as_type T d storage ty p h (counters_in l)

abbrev all_read : Tables → List ℕ → ℕ → ℕ → Parts → hir.At → ℕ → ℕ → ℕ → Lowering → Outcome Values
all_read T lists d storage ps h i n o l = read_fields T (λ t p. read_bytes_as_type T d storage t p) o (part_types lists ps i n) h (counters_in l)

-- of the n parts, begun at byte o, those from i on are left, at byte p: what these leave, the whole leaves
pub record Rest (T : Tables) (lists : List ℕ) (d storage : ℕ) (ps : Parts) (h : hir.At) (n o : ℕ) (l₀ : Lowering) (i p : ℕ) (l : Lowering) : Type 0 where
  pub room : PartsRoom T h.node (part_types lists ps i (n - i)) p l
  pub whole : {l' : Lowering} {r : Result (Unit {0}) (Refused Refusal)} → MeetsList (n - i) l (all_read T lists d storage ps h i (n - i) p l) l' r
      → MeetsList n l₀ (all_read T lists d storage ps h 0 n o l₀) l' r

-- .. and the lent slices are as long as they were, with no mark set
pub record Held (T : Tables) (lists : List ℕ) (d storage : ℕ) (ps : Parts) (h : hir.At) (n o : ℕ) (l₀ : Lowering) (i p : ℕ) (l : Lowering) : Type 0 where
  pub rest : Rest T lists d storage ps h n o l₀ i p l
  pub holds : Holds l₀ l
  pub marks : SameMarks l₀ l

module _ {T : Tables} {lists : List ℕ} {d storage : ℕ} {ps : Parts} {h : hir.At} {n o : ℕ} {l₀ : Lowering} {i p : ℕ} {l : Lowering} (g : Rest T lists d storage ps h n o l₀ i p l) where
  -- behind the last part
  pub rest_none : n ≤ i → MeetsList n l₀ (all_read T lists d storage ps h 0 n o l₀) l (Ok tt)
  unfolding read_fields
  rest_none e = g.whole (rw (parts_none lists ps i n e) (none_meets l (n - i) (omega arith)))

  module _ (k : i < n) where
    sum_next : (f : ℕ → ℕ) → sum f (part_types lists ps i (n - i)) ≡ f (part_type lists ps i) + sum f (part_types lists ps (i + 1) (n - (i + 1)))
    sum_next f = rw (parts_next lists ps i n k)

    -- the next part's head has its place
    rest_fits : TypesRight T → l.top + 8 ≤ length l.stack.now
    rest_fits R = omega (arith, sum_next (weight_of T), weight_least T R (part_type lists ps i), g.room.top)

    -- and the part its room
    pub rest_first : TypeRoom T h.node (part_type lists ps i) p (at_top l (l.top + 8))
    rest_first = room_first (part_type lists ps i) _ _ (sum_next (size_of T)) (sum_next (weight_of T)) g.room

    -- the bytes behind it end where bytes can
    pub rest_reach : p + size_of T (part_type lists ps i) ≤ 4294967296
    rest_reach = omega (arith, sum_next (size_of T), g.room.reach)

    -- a part that is refused
    pub rest_refused : {l' : Lowering} {x : Refused Refusal} {r : Result (Unit {0}) (Refused Refusal)}
        → MeetsValue (at_top l (l.top + 8)) (one_read T d storage h (part_type lists ps i) p l) l' (Err x)
        → IsErrAnd r (λ y. y ≡ x) → MeetsList n l₀ (all_read T lists d storage ps h 0 n o l₀) l' r
    unfolding read_fields ◌>>=◌
    rest_refused {x = x} {r} v q = g.whole (passed r x q (rw (parts_next lists ps i n k, shown_refused v refl)))

    -- a part that is read, its head's record stored below what it left
    pub rest_more : TypesRight T → {l1 : Lowering} {x : Val}
        → MeetsValue (at_top l (l.top + 8)) (one_read T d storage h (part_type lists ps i) p l) l1 (Ok x)
        → Rest T lists d storage ps h n o l₀ (i + 1) (p + size_of T (part_type lists ps i)) (with_stack l1 (sets l1.stack.now l.top (value_words x)))
    unfolding read_fields ◌>>=◌ type_size
    rest_more R {l1} {x} v =
        let ty = part_type lists ps i in
        let u = shown_done v refl in
        record {
          room = room_rest ty (sum_next (size_of T)) (sum_next (weight_of T)) g.room u (few_read T R d storage ty p h (counters_in l)) (length-sets l1.stack.now l.top (value_words x));
          whole = λ w. g.whole (rw (parts_next lists ps i n k, u.is) (list_more (n - i) h u (rest_fits R) (omega arith) w));
        }

module _ {T : Tables} {lists : List ℕ} {d storage : ℕ} {ps : Parts} {h : hir.At} {n o : ℕ} {l₀ : Lowering} {i p : ℕ} {l : Lowering} (g : Held T lists d storage ps h n o l₀ i p l) where
  module _ (k : i < n) where
    -- what a part leaves, read or refused
    pub rest_holds : {l1 : Lowering} → Holds (at_top l (l.top + 8)) l1 → Holds l₀ l1
    rest_holds a = holds_then g.holds (holds_from a)

    pub rest_marks : {l1 : Lowering} → SameMarks (at_top l (l.top + 8)) l1 → SameMarks l₀ l1
    rest_marks a = record { marks = a.marks ∙ g.marks.marks; same = a.same ∙ g.marks.same }

    -- a part that is read, with the slices held and no mark set
    pub held_more : TypesRight T → {l1 : Lowering} {x : Val} → Holds (at_top l (l.top + 8)) l1 → SameMarks (at_top l (l.top + 8)) l1
        → MeetsValue (at_top l (l.top + 8)) (one_read T d storage h (part_type lists ps i) p l) l1 (Ok x)
        → Held T lists d storage ps h n o l₀ (i + 1) (p + size_of T (part_type lists ps i)) (with_stack l1 (sets l1.stack.now l.top (value_words x)))
    held_more R {l1} {x} a b v =
        record {
          rest = rest_more g.rest k R v;
          holds = holds_stack (length-sets l1.stack.now l.top (value_words x)) (rest_holds a);
          marks = record { marks = (rest_marks b).marks; same = (rest_marks b).same };
        }
