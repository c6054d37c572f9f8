-- What the steps of reading leave.
use Rattle.std.specs.Prelude.{◌≡◌, refl, List, ◌∷◌, map, [], ℕ, zero, suc, ◌+◌, ◌-◌, ◌/◌, ◌≤◌, Result, Ok, Err}
use Rattle.std.specs.Result.{IsErrAnd}
use Rattle.std.proofs.Common.{sym, ap, ◌∙◌, append-nil, length, arith}
use Rattle.std.proofs.lemmas.Result.{err_from_is_err_and}
use borrow.Author.Tests.{lt-ltb}
use Rattle.answers.specs.declared.Refusal.{Refusal}
use Rattle.answers.specs.declared.Refused.{Refused}
use Rattle.answers.specs.Refusals.{refusal_number}
use Rattle.spec.specs.Hir as hir
use Rattle.spec.specs.Ticket.{Tables, sum}
use Rattle.spec.specs.Lir.{ByteOperand, stored, stored_bit, byte_to_bit, Value, value, bit_value, bytes_value, aggregate, Values, no_values, read_bool}
use Rattle.spec.specs.Monad.{Outcome, done, refused, Lower, nothing, bind_to, pure, emit, ◌>>=◌, ◌>>◌}
use Rattle.spec.specs.Allocation.{type_size, allocate_bit_temporary, bytes_from}
use Rattle.spec.specs.ReadBytes.{read_bool_byte, read_plain}
use Rattle.lir.specs.Abstract.{tab, byte_at, bytes_of}
use Rattle.lir.specs.declared.BitOperand.{BitOperand as Bit}
use Rattle.lir.specs.declared.Source.{Source}
use Rattle.lir.specs.declared.StorageId.{StorageId}
use Rattle.lir.specs.declared.NodeId.{NodeId}
use Rattle.emission.specs.declared.emitter.Emitter.{Emitter}
use Rattle.emission.specs.Appends.{room_less, room_after}
use Rattle.emission.specs.Emits.{Allocates, Emits}
use Rattle.emission.specs.Does.{does_allocate, does_emits}
use Rattle.values.specs.declared.Lowering.{Lowering}
use Rattle.values.specs.declared.Value.{Value as Val}
use Rattle.values.specs.declared.Repr.{Repr as Rep}
use Rattle.values.specs.Heads.{Head, bytes_shape, root, parts_of, preorders, head_of, Sound_value, length_heads}
use Rattle.values.specs.Left.{counters_in, at_top, with_out, with_stack, Case, Shows, AreParts, IsValue, MeetsValue, MeetsList, DoneValue, shown_refused, stops}
use Rattle.values.specs.Laws.{left_none, does_meets, next_meets}
use Rattle.reads.specs.Reading.{size_of, weight_of, TypeRoom, PartsRoom}
use Rattle.reads.proofs.Lines.{gathered}
use Rattle.reads.proofs.Bounds.{Few, few_done}

-- ---------------------------------------------------------------- leaves

-- bytes of a storage
plain_tab : (s : StorageId) (o k j n : ℕ) → j + n ≤ k → tab (byte_at (record { source = Source.Storage (record { storage = s; offset = o }); count = k; total = k })) j n ≡ map stored (bytes_from s.0 (o + j) n)
unfolding tab bytes_from
plain_tab s o k j zero h = refl
plain_tab s o k j (suc n) h = let e : suc (o + j) ≡ o + suc j = omega arith in rw (lt-ltb j k (omega arith), e, plain_tab s o k (suc j) n (omega arith))

plain_bytes : (s : StorageId) (o n : ℕ) → bytes_of (record { source = Source.Storage (record { storage = s; offset = o }); count = n; total = n }) ≡ map stored (bytes_from s.0 o n)
unfolding bytes_of
plain_bytes s o n = let e : o + 0 ≡ o = omega arith in let h = plain_tab s o n 0 n (omega arith) in rw e at h

-- what appends nothing
pub leaf_meets : (l : Lowering) (x : Val) (v : Value) → head_of x ≡ root v → Sound_value x → parts_of v ≡ [] → MeetsValue l (done v (counters_in l) nothing) l (Ok x)
leaf_meets l x v e k p = record { shown = (record { head = e; sound = k }, rw p (left_none l)) }

pub plain_meets : (l : Lowering) (T : Tables) (storage : StorageId) (ty o size : ℕ) (h : hir.At) → type_size T ty ≡ size → o + size ≤ 4294967296
    → MeetsValue l (read_plain T storage.0 ty o h (counters_in l)) l (Ok (record { ty = ty; repr = Rep.Bytes (record { source = Source.Storage (record { storage = storage; offset = o }); count = size; total = size }) }))
unfolding read_plain
plain_meets l T storage ty o size h e k =
    rw e
    (leaf_meets l _ (value ty (bytes_value (map stored (bytes_from storage.0 o size))))
    (ap (λ (z : List ByteOperand). record { ty = ty; shape = bytes_shape z }) (plain_bytes storage o size))
    (record { reach_most = k; total_most = omega arith }) refl)

-- a bit, and the instruction that fills it
pub bool_meets : {l : Lowering} {e1 e2 : Emitter} (T : Tables) (storage ty o : ℕ) (new : StorageId) (h : hir.At) → h.node ≡ l.out.node.0
    → Allocates l.out (allocate_bit_temporary read_bool) new.0 e1
    → Emits e1 (byte_to_bit new.0 (stored (record { storage = storage; offset = o })) ∷ []) e2
    → MeetsValue l (read_bool_byte T storage ty o h (counters_in l)) (with_out l e2) (Ok (record { ty = ty; repr = Rep.Bit (Bit.Storage new) }))
unfolding read_bool_byte
bool_meets {l} {e1} {e2} T storage ty o new h e a b =
    let fill = λ (d : ℕ). emit (byte_to_bit d (stored (record { storage = storage; offset = o }))) in
    let head = λ (d : ℕ). value ty (bit_value (stored_bit d)) in
    does_meets {l = l} h e (does_allocate a) (λ d. fill d >> pure (head d))
    (next_meets {l = with_out l e1} h (e ∙ sym (ap (λ (z : NodeId). z.0) a.node)) (does_emits {n = 1} (omega arith) b) (pure (head new.0))
    (leaf_meets (with_out l e2) _ (head new.0) refl tt refl))

-- what `?` gives back of a refusal
pub passed : {A B : Type 0} {P : A → B → Type 0} {hs : A → List Head} {l : Lowering} {o : Outcome A} {l1 : Lowering} (r : Result B (Refused Refusal)) (x : Refused Refusal)
    → IsErrAnd r (λ y. y ≡ x) → o ≡ refused (refusal_number x.refusal) x.line → Shows P hs l o l1 r
passed r x h e = let p = err_from_is_err_and r h in rw (p.1, p.2) (stops e)

-- ---------------------------------------------------------------- aggregates

gather_case : (ty t : ℕ) (l : Lowering) (h : hir.At) (o : Outcome Values) (l1 : Lowering) (u : Unit {0}) → Case (AreParts t) preorders l o l1 (Ok u)
    → Case IsValue parts_of l (bind_to (λ vs h c. done (value ty (aggregate vs)) c nothing) h o) l1 (Ok (record { ty = ty; repr = Rep.Aggregate t ((l1.top - l.top) / 8) }))
gather_case ty t l h (done vs c p) l1 u k =
    let f = k.1 in
    let n : length f.parts ≡ length (preorders vs) = sym (length_heads f.parts) ∙ ap length f.shows in
    let m : (l1.top - l.top) / 8 ≡ length (preorders vs) = omega arith in
    (record { head = rw (m, k.0); sound = tt }, rw (append-nil p.storages, append-nil p.narrowed, append-nil p.instructions) f)
gather_case ty t l h (refused i j) l1 u k = k

-- the head over its parts
pub gather_meets : {l l1 : Lowering} {u : Unit {0}} (ty t : ℕ) (m : Lower Values) (h : hir.At) → MeetsList t l (m h (counters_in l)) l1 (Ok u)
    → MeetsValue l (gathered ty m h (counters_in l)) l1 (Ok (record { ty = ty; repr = Rep.Aggregate t ((l1.top - l.top) / 8) }))
unfolding ◌>>=◌
gather_meets {l} {l1} {u} ty t m h k = record { shown = gather_case ty t l h (m h (counters_in l)) l1 u k.shown }

-- a part is refused: `?` gives its refusal back
pub gather_stops : {l l1 : Lowering} {x : Refused Refusal} {r : Result Val (Refused Refusal)} (ty t : ℕ) (m : Lower Values) (h : hir.At) → MeetsList t l (m h (counters_in l)) l1 (Err x)
    → IsErrAnd r (λ y. y ≡ x) → MeetsValue l (gathered ty m h (counters_in l)) l1 r
unfolding ◌>>=◌
gather_stops {x = x} {r} ty t m h k q = passed r x q (rw (shown_refused k refl))

pub none_meets : (l : Lowering) (t : ℕ) → t ≡ 0 → MeetsList t l (done no_values (counters_in l) nothing) l (Ok tt)
none_meets l t e = record { shown = (sym e, left_none l) }

-- ---------------------------------------------------------------- room

-- the parts of a type
pub room_parts : {T : Tables} {n ty o : ℕ} {l : Lowering} {ts : List ℕ} → size_of T ty ≡ sum (size_of T) ts → weight_of T ty ≡ 1 + sum (weight_of T) ts
    → TypeRoom T n ty o l → PartsRoom T n ts o l
room_parts e g r = record { node = r.node; room = room_less (omega arith) r.room; top = omega (arith, r.top); reach = omega (arith, r.reach) }

-- a first part of a type, above its head
pub room_first : {T : Tables} {n : ℕ} {ts : List ℕ} {o : ℕ} {l : Lowering} (ty k w : ℕ) → sum (size_of T) ts ≡ size_of T ty + k → sum (weight_of T) ts ≡ weight_of T ty + w
    → PartsRoom T n ts o l → TypeRoom T n ty o (at_top l (l.top + 8))
room_first ty k w e g r = record { node = r.node; room = room_less (omega arith) r.room; top = omega (arith, r.top); reach = omega (arith, r.reach) }

-- the parts behind it
pub room_rest : {T : Tables} {n : ℕ} {ts us : List ℕ} {o : ℕ} {l : Lowering} {x : Outcome Value} {l1 : Lowering} {v : Val} {ws : List ℕ} (ty : ℕ)
    → sum (size_of T) ts ≡ size_of T ty + sum (size_of T) us → sum (weight_of T) ts ≡ weight_of T ty + sum (weight_of T) us
    → PartsRoom T n ts o l → (d : DoneValue (at_top l (l.top + 8)) x l1 v) → Few (size_of T ty) (weight_of T ty) x → length ws ≡ length l1.stack.now
    → PartsRoom T n us (o + size_of T ty) (with_stack l1 ws)
room_rest {T} {n} {ts} {us} {o} {l} ty e g r d f k =
    let w = few_done f d.is in
    let y = d.left in
    let p : length y.parts ≡ length (parts_of d.v) = sym (length_heads y.parts) ∙ ap length y.shows in
    record {
      node = r.node ∙ sym (ap (λ (z : NodeId). z.0) y.appends.node);
      room = room_after (sum (size_of T) us + 1) (omega (arith, w.0)) (omega (arith, w.1)) r.room y.appends;
      top = omega (arith, r.top, w.2, y.topped, y.long);
      reach = omega (arith, r.reach);
    }
