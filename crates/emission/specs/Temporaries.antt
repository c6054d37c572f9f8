-- What allocating a temporary of a type answers.
use Rattle.std.specs.Prelude.{◌≡◌, refl, ℕ, zero, suc, eqb}
use Rattle.std.specs.Prelude.{Result, Ok, Err}
use Rattle.std.proofs.Common.{sym, subst, arith, ne_eqb}
use Rattle.spec.specs.Ticket.{Tables}
use Rattle.spec.specs.Lir as lir
use Rattle.spec.specs.Monad.{Lower, ◌>>=◌}
use Rattle.spec.specs.Allocation.{Location, allocate_storage, allocate_sized, allocate_temporary, type_size, bool_regions, temporary_regions}
use Rattle.answers.specs.Refusals.{refusal_number}
use Rattle.answers.specs.declared.Refusal.{Refusal}
use Rattle.lir.specs.declared.StorageId.{StorageId}
use Rattle.emission.specs.declared.emitter.Emitter.{Emitter}
use Rattle.emission.specs.Appends.{Keeps, keeps_all}
use Rattle.emission.specs.Emits.{Allocates, allocates_keeps}
use Rattle.emission.specs.Does.{Refuses}

-- a temporary's place: all of a storage; a bit where the type is Bool
abbrev pub location : ℕ → ℕ → Location
location s ty = record { storage = s; offset = 0; ty = ty; is_bit = eqb ty 0 }

abbrev pub TemporaryBy : Emitter → Lower Location → ℕ → Emitter → Result StorageId Refusal → Type 0
TemporaryBy e m ty e' (Ok s) = Allocates e m (location s.0 ty) e'
TemporaryBy e m ty e' (Err r) = Refuses e m (refusal_number r) × (e' ≡ e)

pub record MeetsTemporary (e : Emitter) (m : Lower Location) (ty : ℕ) (e' : Emitter) (r : Result StorageId Refusal) : Type 0 where
  pub shown : TemporaryBy e m ty e' r

-- ---------------------------------------------------------------- laws

-- which outcome it was
module _ {e e1 : Emitter} {m : Lower Location} {ty : ℕ} {r : Result StorageId Refusal} (x : MeetsTemporary e m ty e1 r) where
  pub temporary_placed : {s : StorageId} → r ≡ Ok s → Allocates e m (location s.0 ty) e1
  temporary_placed p = subst (λ (z : Result StorageId Refusal). TemporaryBy e m ty e1 z) p x.shown

  pub temporary_refused : {k : Refusal} → r ≡ Err k → Refuses e m (refusal_number k) × (e1 ≡ e)
  temporary_refused p = subst (λ (z : Result StorageId Refusal). TemporaryBy e m ty e1 z) p x.shown

keeps_by : (e e1 : Emitter) (m : Lower Location) (ty : ℕ) (r : Result StorageId Refusal) → TemporaryBy e m ty e1 r → Keeps e e1
keeps_by e e1 m ty (Ok s) x = allocates_keeps x
keeps_by e e1 m ty (Err k) x = subst (λ (z : Emitter). Keeps e z) (sym x.1) (keeps_all e)

-- placed or refused, it is into the same buffers
pub temporary_keeps : {e e1 : Emitter} {m : Lower Location} {ty : ℕ} {r : Result StorageId Refusal} → MeetsTemporary e m ty e1 r → Keeps e e1
temporary_keeps {e} {e1} {m} {ty} {r} x = keeps_by e e1 m ty r x.shown

module _ {e e1 : Emitter} {s : ℕ} where
  pub place_bit : (T : Tables) (ty : ℕ) → ty ≡ 0 → Allocates e (allocate_storage lir.bit lir.tmp bool_regions) s e1 → Allocates e (allocate_temporary T ty) (location s ty) e1
  unfolding allocate_temporary ◌>>=◌
  place_bit T ty p a =
      rw p
      (record {
        new = a.new;
        is = λ h. rw (a.is h);
        coded = a.coded;
        stored = a.stored;
        counted = a.counted;
        storage = a.storage;
        temporary = a.temporary;
        node = a.node;
      })

  pub place_sized : (T : Tables) (ty n : ℕ) → (ty ≡ 0 → ⊥) → type_size T ty ≡ n → Allocates e (allocate_sized n) s e1 → Allocates e (allocate_temporary T ty) (location s ty) e1
  unfolding allocate_temporary ◌>>=◌
  place_sized T zero n h p a = absurd (h refl)
  place_sized T (suc ty) n h p a =
      record {
        new = a.new;
        is = λ h. rw (p, a.is h, ne_eqb (suc ty) 0 (λ z. omega arith));
        coded = a.coded;
        stored = a.stored;
        counted = a.counted;
        storage = a.storage;
        temporary = a.temporary;
        node = a.node;
      }

  pub place_byte : {n : ℕ} → n ≡ 1 → Allocates e (allocate_storage lir.byte lir.tmp temporary_regions) s e1 → Allocates e (allocate_sized n) s e1
  unfolding allocate_sized
  place_byte p a = rw p a

  pub place_bytes : (n : ℕ) → (n ≡ 0 → ⊥) → (n ≡ 1 → ⊥) → Allocates e (allocate_storage (lir.bytes n) lir.tmp temporary_regions) s e1 → Allocates e (allocate_sized n) s e1
  unfolding allocate_sized
  place_bytes zero h k a = absurd (h refl)
  place_bytes (suc zero) h k a = absurd (k refl)
  place_bytes (suc (suc n)) h k a = a

pub place_none : (T : Tables) (ty : ℕ) {e : Emitter} → (ty ≡ 0 → ⊥) → type_size T ty ≡ 0 → Refuses e (allocate_temporary T ty) 23
unfolding allocate_temporary allocate_sized ◌>>=◌
place_none T zero h p = absurd (h refl)
place_none T (suc ty) h p = record { is = λ h. rw p }
