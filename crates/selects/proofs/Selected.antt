-- A select, step by step: a temporary, the pieces into it, and its value.
use Rattle.std.specs.Prelude.{◌≡◌, Bool, true, false, List, map, ◌&&◌, ℕ, zero, suc, ◌≤◌, eqb, Result, Ok, Err, ◌⊎◌}
use Rattle.std.proofs.Common.{refl, sym, ap, ◌∙◌, arith, eq-eqb, ne_eqb, inl, inr}
use Rattle.answers.specs.declared.Refusal.{Refusal}
use Rattle.answers.specs.declared.Refused.{Refused}
use Rattle.answers.specs.Refusals.{refusal_number}
use Rattle.spec.specs.Hir.{At}
use Rattle.spec.specs.Lir.{BitOperand, ValueOperand, ValueStorage, byte_storage}
use Rattle.spec.specs.Ticket.{Tables}
use Rattle.spec.specs.Readable.{Readable}
use Rattle.spec.specs.Monad.{refused, ◌>>=◌, ◌>>◌, require}
use Rattle.spec.specs.Allocation.{type_size, allocate_temporary, bytes_from, bytes_at, location_value_storages}
use Rattle.spec.specs.ReadBytes.{read_location}
use Rattle.spec.specs.Select.{select_pieces}
use Rattle.tables.specs.declared.lookups.Tables as code
use Rattle.tables.specs.Tables.{size_at}
use Rattle.tables.specs.Ticket.{ticket_of}
use Rattle.tables.proofs.Laws.{size_here}
use Rattle.lir.specs.declared.StorageId.{StorageId}
use Rattle.lir.specs.declared.NodeId.{NodeId}
use Rattle.lir.specs.Abstract.{tab}
use Rattle.emission.specs.declared.emitter.Emitter.{Emitter}
use Rattle.emission.specs.Appends.{counters_of, Room, Keeps, room_less}
use Rattle.emission.specs.Emits.{Allocates, room_allocated}
use Rattle.emission.specs.Does.{Does, Meets, meets_done, meets_refused, does_allocate, room_done}
use Rattle.emission.specs.Forms.{prepend_nothing}
use Rattle.emission.specs.Temporaries.{location, MeetsTemporary, temporary_placed, temporary_refused, temporary_keeps}
use Rattle.values.specs.declared.Lowering.{Lowering}
use Rattle.values.specs.declared.Value.{Value as Val}
use Rattle.values.specs.Left.{counters_in, with_out, MeetsValue}
use Rattle.values.specs.Laws.{does_meets, next_meets}
use Rattle.values.specs.Stack.{selects}
use Rattle.reads.specs.Reading.{StepRoom, TypeRoom}
use Rattle.selects.specs.Selecting.{target, target_count, targets}
use Rattle.selects.proofs.Laws.{does_same}

targets_bytes : (s o n : ℕ) → tab (target s false) o n ≡ map byte_storage (bytes_from s o n)
unfolding tab bytes_from
targets_bytes s o zero = refl
targets_bytes s o (suc n) = rw (targets_bytes s (suc o) n)

targets_here : (T : Tables) (s ty n : ℕ) → type_size T ty ≡ n → targets s ty n ≡ location_value_storages T (location s ty)
unfolding targets tab location_value_storages bytes_at type_size
targets_here T s ty n e = go (eqb ty 0)
  where
    go : (b : Bool) → tab (target s b) 0 (target_count b n) ≡ location_value_storages T (record { storage = s; offset = 0; ty = ty; is_bit = b })
    go true = refl
    go false = rw e (targets_bytes s 0 n)

pub size_few : (t : code.Tables) (ty : ℕ) {n : ℕ} → n ≡ size_at t.lines.rows.now t.lines.counts ty → n ≤ 1024
unfolding type_size
size_few t ty e = omega (arith, t.readable.types.size_most ty, size_here t.lines.rows.now t.lines.lists.now t.lines.counts ty)

-- placed or refused, the temporary is appended to the same buffers
pub allocated_keeps : (t : code.Tables) (ty : ℕ) {n : ℕ} {e e1 : Emitter} {r : Result StorageId Refusal} → n ≡ size_at t.lines.rows.now t.lines.counts ty
    → ((T : Tables) → type_size T ty ≡ n → MeetsTemporary e (allocate_temporary T ty) ty e1 r) → Keeps e e1
allocated_keeps t ty k m = temporary_keeps (m (ticket_of t.lines) (size_here t.lines.rows.now t.lines.lists.now t.lines.counts ty ∙ sym k))

module _ (T : Tables) (q : BitOperand) (a b ty : ℕ) (ts fs : List ValueOperand) (h : At) (l : Lowering) {e1 : Emitter} {r : Result StorageId Refusal} (x : MeetsTemporary l.out (allocate_temporary T ty) ty e1 r) where
  pub not_placed : {k : Refusal} → r ≡ Err k → selects T q a ts b fs ty h (counters_in l) ≡ refused (refusal_number k) h.line
  unfolding selects ◌>>=◌
  not_placed e = rw ((temporary_refused x e).0.is h)

  module _ {s : StorageId} (p : r ≡ Ok s) where
    new : Allocates l.out (allocate_temporary T ty) (location s.0 ty) e1
    new = temporary_placed x p

    -- behind the temporary
    pub room_behind : StepRoom T h.node ty l → Room 4095 e1
    room_behind k = room_allocated {n = 4095} k.room new

    pub types_differ : ◌⊎◌ (a ≡ b → ⊥) ((a ≡ b) × (a ≡ ty → ⊥)) → selects T q a ts b fs ty h (counters_in l) ≡ refused 22 h.line
    unfolding selects ◌>>=◌ ◌>>◌ require
    types_differ (inl n) = rw (new.is h, ne_eqb a b n)
    types_differ (inr n) = rw (new.is h, eq-eqb a b n.0, ne_eqb a ty n.1)

    module _ {size : ℕ} (u : a ≡ b) (v : a ≡ ty) (z : type_size T ty ≡ size) {n : ℕ} {ds : List ValueStorage} (y : ds ≡ targets s.0 ty size) {e2 : Emitter} {r2 : Result Unit Refusal}
        (w : Meets n e1 (select_pieces q ds ts fs) e2 r2) where
      pub pieces_refused : {k : Refusal} → r2 ≡ Err k → selects T q a ts b fs ty h (counters_in l) ≡ refused (refusal_number k) h.line
      unfolding selects ◌>>=◌ ◌>>◌ require
      pieces_refused e = rw (new.is h, eq-eqb a b u, eq-eqb a ty v, ← (targets_here T s.0 ty size z), ← y, (meets_refused w e).0.is h)

      module _ {t : Unit {0}} (e : r2 ≡ Ok t) where
        pub room_read : Readable T → StepRoom T h.node ty l → n ≤ 2048 → TypeRoom T h.node ty 0 (with_out l e2)
        unfolding type_size
        room_read R k g =
            let d = meets_done w e in
            record {
              node = k.node ∙ sym (ap (λ (z : NodeId). z.0) (d.node ∙ new.node));
              room = room_less (omega (arith, R.types.size_most ty)) (room_done {n = n} {k = 2047} (room_less (omega (arith, g)) (room_behind k)) d);
              top = omega (arith, k.top);
              reach = omega (arith, R.types.size_most ty);
            }

        filled : Does n e1 (require 22 (eqb a b && eqb a ty) >> select_pieces q (location_value_storages T (location s.0 ty)) ts fs) tt e2
        unfolding ◌>>◌ require
        filled = does_same (λ c d. rw (eq-eqb a b u, eq-eqb a ty v, ← (targets_here T s.0 ty size z), ← y) (prepend_nothing (select_pieces q ds ts fs c d))) (meets_done w e)

        pub selected : {l3 : Lowering} {r3 : Result Val (Refused Refusal)} → h.node ≡ l.out.node.0 → MeetsValue (with_out l e2) (read_location T (location s.0 ty) h (counters_of e2)) l3 r3
            → MeetsValue l (selects T q a ts b fs ty h (counters_in l)) l3 r3
        unfolding selects
        selected f m =
            does_meets h f (does_allocate new) (λ t. (require 22 (eqb a b && eqb a t.ty) >> select_pieces q (location_value_storages T t) ts fs) >> read_location T t)
            (next_meets h (f ∙ sym (ap (λ (z : NodeId). z.0) new.node)) filled (read_location T (location s.0 ty)) m)
