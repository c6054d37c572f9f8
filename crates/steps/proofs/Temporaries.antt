-- A new temporary, which others fill, and its value.
use Rattle.std.specs.Prelude.{◌≡◌, refl, List, ℕ, ◌%◌, Option, None, Some, Result, Ok, Err}
use Rattle.std.specs.Result.{IsErrAnd}
use Rattle.std.proofs.Common.{sym, ap, ◌∙◌, arith, ne_eqb}
use Rattle.answers.specs.declared.Refusal.{Refusal}
use Rattle.answers.specs.declared.Refused.{Refused}
use Rattle.spec.specs.Hir.{At}
use Rattle.spec.specs.Ticket.{Tables}
use Rattle.spec.specs.Readable.{Readable}
use Rattle.spec.specs.Lir.{ByteStorage}
use Rattle.spec.specs.Monad.{Out, Outcome, done, refused, Lower, prepend, bind_to, ◌>>=◌, ◌>>◌}
use Rattle.spec.specs.Monad as monad
use Rattle.spec.specs.Allocation.{Location, type_size, odd_bits, allocate_storage, allocate_temporary, bytes_at, location_bytes}
use Rattle.spec.specs.ReadBytes.{read_location}
use Rattle.spec.specs.Arithmetic.{masks, mask_location}
use Rattle.spec.proofs.CostWrites.{masks_length}
use Rattle.lir.specs.Abstract.{destinations_of}
use Rattle.lir.specs.declared.Destinations.{Destinations}
use Rattle.lir.specs.declared.NodeId.{NodeId}
use Rattle.emission.specs.declared.emitter.Emitter.{Emitter}
use Rattle.emission.specs.Appends.{counters_of, room_less}
use Rattle.emission.specs.Emits.{Emits, room_emitted}
use Rattle.emission.specs.Does.{Does, Refuses, does_emits, does_allocate}
use Rattle.emission.specs.Forms.{odd_option, prepend_nothing}
use Rattle.emission.specs.Temporaries.{location}
use Rattle.values.specs.declared.Lowering.{Lowering}
use Rattle.values.specs.Heads.{Head}
use Rattle.values.specs.declared.Value.{Value as Val}
use Rattle.values.specs.Left.{counters_in, with_out, Shows, MeetsValue}
use Rattle.values.specs.Laws.{does_meets, next_meets}
use Rattle.reads.specs.Reading.{TypeRoom}
use Rattle.reads.proofs.Laws.{passed}
use Rattle.steps.specs.Temporaries.{byte_temporary, masked, RoomFor, New, MeetsNew}

-- ---------------------------------------------------------------- the bits past the whole bytes

pub odd_in : (o : Option ℕ) {r : ℕ} → (o ≡ None → r ≡ 0) → ((w : ℕ) → o ≡ Some w → r ≡ w % 8) → odd_option o ≡ r
odd_in None f g = sym (f refl)
odd_in (Some w) f g = sym (g w refl)

-- ---------------------------------------------------------------- a new one

pub byte_bool : {e : Emitter} (T : Tables) (ty : ℕ) → ty ≡ 0 → Refuses e (byte_temporary T ty) 24
unfolding byte_temporary allocate_temporary allocate_storage location_bytes ◌>>=◌
byte_bool T ty q = record { is = λ h. rw q }

pub byte_none : {e : Emitter} {n : ℕ} (T : Tables) (ty : ℕ) → Refuses e (allocate_temporary T ty) n → Refuses e (byte_temporary T ty) n
unfolding byte_temporary ◌>>=◌
byte_none T ty x = record { is = λ h. rw (x.is h) }

-- ---------------------------------------------------------------- what follows it

refused_in : {A : Type 0} (o : Out) (x : Outcome A) {n k : ℕ} → prepend o x ≡ refused n k → x ≡ refused n k
refused_in o (refused i j) e = e
refused_in o (done a c p) e = cc

refused_behind : {A B : Type 0} (m : B → Lower (List ByteStorage)) (g : B → List ByteStorage → Lower A) (h : At) (x : Outcome B) {n k : ℕ}
    → bind_to m h x ≡ refused n k → bind_to (λ t. m t >>= g t) h x ≡ refused n k
unfolding ◌>>=◌
refused_behind m g h (refused i j) e = cc
refused_behind m g h (done t c o) e = rw (refused_in o (m t h c) e)

-- the bytes of the new temporary
located : {A : Type 0} {e e1 : Emitter} {d : Destinations} (T : Tables) (h : At) → New T h.ty e d e1 → (f : List ByteStorage → Lower A) (c : monad.Counters)
    → (location_bytes T (location d.storage.0 h.ty) >>= f) h c ≡ f (destinations_of d) h c
unfolding location_bytes bytes_at ◌>>=◌
located {d = d} T h a f c = rw (ne_eqb h.ty 0 a.bytes, ← a.count) (prepend_nothing (f (destinations_of d) h c))

module _ {A B : Type 0} {P : A → B → Type 0} {hs : A → List Head} {l l' : Lowering} {r : Result B (Refused Refusal)} {e1 : Emitter} (T : Tables) (h : At) (f : Location → List ByteStorage → Lower A) where
  pub new_meets : {d : Destinations} → h.node ≡ l.out.node.0 → MeetsNew T h l.out e1 (Ok d)
      → Shows P hs (with_out l e1) (f (location d.storage.0 h.ty) (destinations_of d) h (counters_of e1)) l' r
      → Shows P hs l ((allocate_temporary T h.ty >>= λ t. (location_bytes T t >>= f t)) h (counters_in l)) l' r
  new_meets {d} g a s =
      does_meets {l = l} h g (does_allocate a.shown.allocates) (λ t. (location_bytes T t >>= f t)) (rw (located T h a.shown (f (location d.storage.0 h.ty)) (counters_of e1)) s)

  pub new_stops : {x : Refused Refusal} → MeetsNew T h l.out e1 (Err x) → IsErrAnd r (λ y. y ≡ x)
      → Shows P hs l ((allocate_temporary T h.ty >>= λ t. (location_bytes T t >>= f t)) h (counters_in l)) l' r
  unfolding byte_temporary ◌>>=◌
  new_stops {x} a s = passed r x s (rw a.shown.1 (refused_behind (λ t. location_bytes T t) f h (allocate_temporary T h.ty h (counters_in l)) (a.shown.0.is h)))

-- ---------------------------------------------------------------- its value

mask_does : {e e1 : Emitter} {odd : ℕ} (T : Tables) (ty : ℕ) (d : Destinations) → odd_bits T ty ≡ odd → d.count ≡ type_size T ty → Emits e (masks odd (destinations_of d)) e1
    → Does 1 e (mask_location T (location d.storage.0 ty)) tt e1
unfolding mask_location bytes_at
mask_does {odd = odd} T ty d p q x = rw (p, ← q) (does_emits (omega (arith, masks_length odd (destinations_of d))) x)

module _ {l : Lowering} {e1 : Emitter} (T : Tables) (h : At) (odd : ℕ) (d : Destinations) where
  pub room_read : Readable T → RoomFor 1026 T h l → Emits l.out (masks odd (destinations_of d)) e1 → TypeRoom T h.node h.ty 0 (with_out l e1)
  room_read R k x =
      record {
        node = k.node ∙ sym (ap (λ (z : NodeId). z.0) x.node);
        room = room_less (omega (arith, R.types.size_most h.ty)) (room_emitted {n = 1026} 1025 (omega (arith, masks_length odd (destinations_of d))) k.room x);
        top = k.top;
        reach = omega (arith, R.types.size_most h.ty);
      }

  pub masked_meets : {l' : Lowering} {r : Result Val (Refused Refusal)} → h.node ≡ l.out.node.0 → odd_bits T h.ty ≡ odd → d.count ≡ type_size T h.ty → Emits l.out (masks odd (destinations_of d)) e1
      → MeetsValue (with_out l e1) (read_location T (location d.storage.0 h.ty) h (counters_of e1)) l' r → MeetsValue l (masked T (location d.storage.0 h.ty) h (counters_in l)) l' r
  unfolding masked
  masked_meets g p q x s = next_meets {l = l} h g (mask_does T h.ty d p q x) (read_location T (location d.storage.0 h.ty)) s
