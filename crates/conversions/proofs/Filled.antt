-- A new temporary that is filled, and then read, masked or not.
use Rattle.std.specs.Prelude.{◌≡◌, refl, false, List, ◌∷◌, [], ℕ, zero, suc, ◌≤◌, length, Result, Ok, Err}
use Rattle.std.specs.Result.{IsErrAnd}
use Rattle.std.proofs.Common.{sym, ap, ◌∙◌, arith, ne_eqb}
use Rattle.answers.specs.declared.Refusal.{Refusal}
use Rattle.answers.specs.declared.Refused.{Refused}
use Rattle.spec.specs.Hir.{At}
use Rattle.spec.specs.Ticket.{Tables}
use Rattle.spec.specs.Readable.{Readable}
use Rattle.spec.specs.Lir.{ByteStorage, ByteOperand, InstructionKind, Value, value, bytes_value, copy_byte, sign_extend}
use Rattle.spec.specs.Monad.{Lower, Outcome, done, refused, nothing, bind_to, ◌>>=◌, ◌>>◌, pure, emits}
use Rattle.spec.specs.Monad as monad
use Rattle.spec.specs.Allocation.{Location, type_size, odd_bits, allocate_sized, allocate_temporary, bytes_at, location_bytes}
use Rattle.spec.specs.Arithmetic.{zip2}
use Rattle.spec.specs.Conversions.{bit_to_bytes, normalized_bytes}
use Rattle.lir.specs.Abstract.{bytes_of, bit_operand_of, destinations_of}
use Rattle.lir.specs.Tab.{length_tab}
use Rattle.lir.specs.declared.BitOperand.{BitOperand as Bit}
use Rattle.lir.specs.declared.Bytes.{Bytes}
use Rattle.lir.specs.declared.Destinations.{Destinations}
use Rattle.lir.specs.declared.NodeId.{NodeId}
use Rattle.emission.specs.declared.emitter.Emitter.{Emitter}
use Rattle.emission.specs.Appends.{Room, counters_of, room_less}
use Rattle.emission.specs.Emits.{Emits, room_emitted, room_allocated}
use Rattle.emission.specs.Does.{does_emits}
use Rattle.emission.specs.Forms.{each_few, prepend_nothing}
use Rattle.emission.specs.Loops.{bit_table}
use Rattle.emission.specs.Temporaries.{location}
use Rattle.tables.specs.declared.lookups.Tables as code
use Rattle.tables.specs.Tables.{size_at}
use Rattle.tables.proofs.Laws.{size_here}
use Rattle.values.specs.declared.Lowering.{Lowering}
use Rattle.values.specs.declared.Value.{Value as Val}
use Rattle.values.specs.Left.{counters_in, with_out, MeetsValue}
use Rattle.values.specs.Laws.{next_meets}
use Rattle.reads.specs.Reading.{StepRoom, TypeRoom}
use Rattle.steps.specs.Temporaries.{masked, RoomFor, MeetsNew}
use Rattle.steps.proofs.Temporaries.{new_meets, new_stops}

-- ---------------------------------------------------------------- what a temporary is filled with

abbrev pub copies : List ByteOperand → List ByteStorage → List InstructionKind
copies bs ds = zip2 (λ i d b. copy_byte d b) 0 ds bs

abbrev pub extends : ℕ → List ByteOperand → List ByteStorage → List InstructionKind
extends w bs ds = sign_extend w ds bs ∷ []

pub copies_few : (d : Destinations) (b : Bytes) → length (copies (bytes_of b) (destinations_of d)) ≤ d.count
copies_few d b = each_few d b copy_byte

pub bits_few : (d : Destinations) (b : Bit) → length (bit_to_bytes (destinations_of d) (bit_operand_of b)) ≤ d.count
bits_few d b = rw (bit_table d b, length_tab) (omega arith)

-- a new temporary of the type ty, its bytes filled by f, and p of it
abbrev pub filled : Tables → ℕ → (List ByteStorage → List InstructionKind) → (Location → Lower Value) → Lower Value
filled T ty f p = allocate_temporary T ty >>= λ t. (location_bytes T t >>= λ ds. (emits (f ds) >> p t))

module _ {T : Tables} {h : At} {l l' : Lowering} {e1 : Emitter} {r : Result Val (Refused Refusal)} (f : List ByteStorage → List InstructionKind) (p : Location → Lower Value) where
  pub filled_meets : {d : Destinations} {e2 : Emitter} → h.node ≡ l.out.node.0 → MeetsNew T h l.out e1 (Ok d) → Emits e1 (f (destinations_of d)) e2
      → MeetsValue (with_out l e2) (p (location d.storage.0 h.ty) h (counters_of e2)) l' r → MeetsValue l (filled T h.ty f p h (counters_in l)) l' r
  filled_meets {d} g a x k =
      let n : h.node ≡ e1.node.0 = g ∙ sym (ap (λ (z : NodeId). z.0) a.shown.allocates.node) in
      new_meets T h (λ t ds. emits (f ds) >> p t) g a
      (next_meets {l = with_out l e1} h n (does_emits {n = length (f (destinations_of d))} (omega arith) x) (p (location d.storage.0 h.ty)) k)

  pub filled_stops : {x : Refused Refusal} → MeetsNew T h l.out e1 (Err x) → IsErrAnd r (λ y. y ≡ x) → MeetsValue l (filled T h.ty f p h (counters_in l)) l' r
  filled_stops a s = new_stops T h (λ t ds. emits (f ds) >> p t) a s

-- ---------------------------------------------------------------- room

module _ {T : Tables} {h : At} {l : Lowering} {e1 : Emitter} {d : Destinations} (R : Readable T) (k : StepRoom T h.node h.ty l) (a : MeetsNew T h l.out e1 (Ok d)) where
  few_bytes : d.count ≤ 1024
  unfolding type_size
  few_bytes = omega (arith, R.types.size_most h.ty, a.shown.count)

  pub room_new : Room d.count e1
  room_new = room_less (omega (arith, few_bytes)) (room_allocated {n = 4095} k.room a.shown.allocates)

  module _ {ks : List InstructionKind} {e2 : Emitter} (x : Emits e1 ks e2) (m : length ks ≤ d.count) where
    kept : h.node ≡ e2.node.0
    kept = k.node ∙ sym (ap (λ (z : NodeId). z.0) (x.node ∙ a.shown.allocates.node))

    pub room_masked : RoomFor 1026 T h (with_out l e2)
    room_masked =
        record {
          node = kept;
          room = room_emitted {n = 4095} 1026 (omega (arith, few_bytes, m)) (room_allocated {n = 4095} k.room a.shown.allocates) x;
          top = k.top;
        }

    pub room_read : TypeRoom T h.node h.ty 0 (with_out l e2)
    room_read =
        record {
          node = kept;
          room = room_less (omega (arith, R.types.size_most h.ty)) (room_emitted {n = 4095} 1026 (omega (arith, few_bytes, m)) (room_allocated {n = 4095} k.room a.shown.allocates) x);
          top = k.top;
          reach = omega (arith, R.types.size_most h.ty);
        }

pub size_fits : (t : code.Tables) (ty : ℕ) {n : ℕ} → n ≡ size_at t.lines.rows.now t.lines.counts ty → n ≤ 4294967296
unfolding type_size
size_fits t ty e = omega (arith, t.readable.types.size_most ty, size_here t.lines.rows.now t.lines.lists.now t.lines.counts ty)

-- ---------------------------------------------------------------- bytes as a value

module _ (T : Tables) (ty : ℕ) (bs : List ByteOperand) (h : At) (c : monad.Counters) where
  pub normal_all : odd_bits T ty ≡ 0 → normalized_bytes T ty bs h c ≡ done (value ty (bytes_value bs)) c nothing
  unfolding normalized_bytes
  normal_all o = rw o

  -- what has odd bits is no Bool, and so has bytes
  odd_bytes : Readable T → {odd : ℕ} → odd_bits T ty ≡ odd → (odd ≡ 0 → ⊥) → ty ≡ 0 → ⊥
  unfolding odd_bits
  odd_bytes R o n z = n (sym o ∙ rw (z, R.types.bool_first))

  copied_by : (n : ℕ) (x : Outcome ℕ) → (let place : ℕ → Location = λ s. record { storage = s; offset = 0; ty = n; is_bit = false } in
      bind_to (λ t. (emits (copies bs (bytes_at T t)) >> masked T t)) h (bind_to (λ s. pure (place s)) h x)
      ≡ bind_to (λ t. (location_bytes T t >>= λ ds. (emits (copies bs ds) >> masked T t))) h (bind_to (λ s. pure (place s)) h x))
  unfolding location_bytes ◌>>=◌
  copied_by n (refused i j) = refl
  copied_by n (done s d o) = simp prepend_nothing

  copied_at : (n : ℕ) → (n ≡ 0 → ⊥) → (allocate_temporary T n >>= λ t. (emits (copies bs (bytes_at T t)) >> masked T t)) h c
      ≡ filled T n (copies bs) (masked T) h c
  unfolding allocate_temporary ◌>>=◌
  copied_at zero z = absurd (z refl)
  copied_at (suc n) z = copied_by (suc n) (allocate_sized (type_size T (suc n)) h c)

  pub normal_odd : Readable T → {odd : ℕ} → odd_bits T ty ≡ odd → (odd ≡ 0 → ⊥)
      → normalized_bytes T ty bs h c ≡ filled T ty (copies bs) (masked T) h c
  unfolding normalized_bytes masked
  normal_odd R {odd} o n = rw (o, ne_eqb odd 0 n) (copied_at ty (odd_bytes R o n))
