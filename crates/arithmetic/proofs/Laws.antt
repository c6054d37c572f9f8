-- Numbers behind the last operators', and a new temporary that instructions fill.
use Rattle.std.specs.Prelude.{◌≡◌, List, ℕ, ◌+◌, ◌*◌, ◌≤◌, Result, Ok}
use Rattle.std.specs.Result.{IsErrAnd}
use Rattle.std.proofs.Common.{sym, ap, ◌∙◌, arith}
use lib.ListN.{get_or-eq_default}
use Rattle.answers.specs.declared.Refusal.{Refusal}
use Rattle.answers.specs.declared.Refused.{Refused}
use Rattle.answers.specs.Refusals.{refusal_number}
use Rattle.spec.specs.Hir as hir
use Rattle.spec.specs.Hir.{At}
use Rattle.spec.specs.Ticket as ticket
use Rattle.spec.specs.Ticket.{Tables}
use Rattle.spec.specs.Readable.{Readable}
use Rattle.spec.specs.Lir.{ByteStorage, Value}
use Rattle.spec.specs.Monad.{Lower, ◌>>=◌, ◌>>◌}
use Rattle.spec.specs.Operators.{unary_form, binary_form}
use Rattle.spec.specs.Allocation.{type_size, allocate_temporary, location_bytes}
use Rattle.spec.specs.ReadBytes.{read_location}
use Rattle.spec.specs.Arithmetic.{mask_location}
use Rattle.lir.specs.Abstract.{destinations_of}
use Rattle.lir.specs.declared.Destinations.{Destinations}
use Rattle.lir.specs.declared.NodeId.{NodeId}
use Rattle.emission.specs.declared.emitter.Emitter.{Emitter}
use Rattle.emission.specs.Appends.{counters_of, Room, room_less}
use Rattle.emission.specs.Emits.{room_allocated}
use Rattle.emission.specs.Does.{Does, Refuses, room_done}
use Rattle.emission.specs.Temporaries.{location}
use Rattle.values.specs.declared.Lowering.{Lowering}
use Rattle.values.specs.declared.Value.{Value as Val}
use Rattle.values.specs.Left.{counters_in, with_out, MeetsValue}
use Rattle.values.specs.Laws.{next_meets}
use Rattle.reads.specs.Reading.{StepRoom}
use Rattle.reads.proofs.Laws.{passed}
use Rattle.steps.specs.Temporaries.{masked, RoomFor, MeetsNew}
use Rattle.steps.proofs.Temporaries.{new_meets}

pub unary_past : (op : ℕ) → 5 ≤ op → unary_form (ticket.integer_unary_op op) ≡ unary_form hir.negate
unary_past op h = ap unary_form (get_or-eq_default hir.integer_unary_ops hir.negate {n = op} h)

pub binary_past : (op : ℕ) → 19 ≤ op → binary_form (ticket.integer_binary_op op) ≡ binary_form hir.add
binary_past op h = ap binary_form (get_or-eq_default hir.integer_binary_ops hir.add {n = op} h)

-- a new temporary of the node's type, whose bytes m fills, masked and read
abbrev filled : Tables → ℕ → (List ByteStorage → Lower Unit) → Lower Value
filled T ty m = allocate_temporary T ty >>= λ t. (location_bytes T t >>= λ ds. (m ds >> (mask_location T t >> read_location T t)))

module _ {l : Lowering} {e1 : Emitter} {d : Destinations} (T : Tables) (h : At) (g : h.node ≡ l.out.node.0) (a : MeetsNew T h l.out e1 (Ok d)) where
  module _ {l' : Lowering} {r : Result Val (Refused Refusal)} (m : List ByteStorage → Lower Unit) where
    pub filled_meets : {n : ℕ} {e2 : Emitter} → Does n e1 (m (destinations_of d)) tt e2
        → MeetsValue (with_out l e2) (masked T (location d.storage.0 h.ty) h (counters_of e2)) l' r → MeetsValue l (filled T h.ty m h (counters_in l)) l' r
    unfolding masked
    filled_meets x s =
        new_meets T h (λ t ds. (m ds >> (mask_location T t >> read_location T t))) g a
        (next_meets {l = with_out l e1} h (g ∙ sym (ap (λ (z : NodeId). z.0) a.shown.allocates.node)) x (masked T (location d.storage.0 h.ty)) s)

    pub filled_stops : {k : Refusal} {x : Refused Refusal} → Refuses e1 (m (destinations_of d)) (refusal_number k) → x ≡ record { refusal = k; line = h.line } → IsErrAnd r (λ y. y ≡ x)
        → MeetsValue l (filled T h.ty m h (counters_in l)) l' r
    unfolding ◌>>◌
    filled_stops x t s = new_meets T h (λ t ds. (m ds >> (mask_location T t >> read_location T t))) g a (passed r _ s (rw (x.is h, t)))

module _ {l : Lowering} {e1 : Emitter} {d : Destinations} (T : Tables) (R : Readable T) (h : At) (k : StepRoom T h.node h.ty l) (a : MeetsNew T h l.out e1 (Ok d)) where
  few : d.count ≤ 1024
  unfolding type_size
  few = omega (arith, a.shown.count, R.types.size_most h.ty)

  pub room_fill : Room (2 * d.count + 2) e1
  room_fill = room_less (omega (arith, few)) (room_allocated {n = 4095} k.room a.shown.allocates)

  pub room_filled : {m : Lower Unit} {e2 : Emitter} → Does (2 * d.count + 2) e1 m tt e2 → RoomFor 1026 T h (with_out l e2)
  room_filled x =
      record {
        node = k.node ∙ sym (ap (λ (z : NodeId). z.0) (x.node ∙ a.shown.allocates.node));
        room = room_done (room_less (omega (arith, few)) (room_allocated {n = 4095} k.room a.shown.allocates)) x;
        top = k.top;
      }
