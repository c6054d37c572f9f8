-- What a new temporary and its destinations are, and the mask over its last byte.
use Prim.Native.Nat.{ℕ, zero, suc, ◌≤◌, min}
use mathlib.Core.Bool.{Bool, true, false, false≢true}
use mathlib.Core.List.{List}
use mathlib.Core.Path.{◌≡◌, refl, sym, ap, ◌∙◌}
use native.Mathlib.Omega.{arith}
use lib.ListN.{length}
use Rattle.spec.specs.Ticket.{Tables}
use Rattle.spec.specs.Readable.{TypesRight}
use Rattle.spec.specs.Lir.{Storage, ByteStorage}
use Rattle.spec.specs.Lir as lir
use Rattle.spec.specs.Monad.{Lower, ◌>>=◌}
use Rattle.spec.specs.Allocation.{type_size, odd_bits, Location, allocate_sized, allocate_temporary, bytes_from, bytes_at, location_bytes}
use Rattle.spec.specs.ReadBytes.{read_location}
use Rattle.spec.specs.Arithmetic.{masks, mask_location}
use Rattle.spec.specs.Demands.{kind_bytes}
use Rattle.spec.proofs.CostLogic.{Cost, ◌⊞◌, free, Does, Each, Kind, Any, ◌then◌, within, giving, under}
use Rattle.spec.proofs.CostSteps.{allocated, emitted, answers, refuses, emitting, allocating}
use Rattle.spec.proofs.Lengths.{length_bytes_from}
use Rattle.spec.proofs.CostWrites.{Byte, bytes_inside, masks_length, masks_each}
use Rattle.spec.proofs.CostReads.{size_of, weight_of, bools_of, reading, Small, read_location_does}

-- n bytes, all of them in the new storage
sized_does : {L : List Storage} {P : Type 0} (n : ℕ) → Does L P (allocate_sized n) (allocated 1 n) (λ s. Each (Byte L) (bytes_from s 0 n))
unfolding allocate_sized kind_bytes
sized_does zero = refuses
sized_does (suc zero) = giving (allocating _ _ _ refl) (λ p. omega arith) (λ s p k. bytes_inside s 0 1 _ k (omega arith))
sized_does (suc (suc n)) = giving (allocating _ _ _ refl) (λ p. omega arith) (λ s p k. bytes_inside s 0 (suc (suc n)) _ k (omega arith))

-- a bit for type 0, bytes for any other
pub record Temporary (T : Tables) (L : List Storage) (ty : ℕ) (l : Location) : Type 0 where
  pub of_type : l.ty ≡ ty
  pub bool : l.is_bit ≡ true → ty ≡ 0
  pub bit : l.is_bit ≡ true → Kind L l.storage lir.bit
  pub bytes : l.is_bit ≡ false → Each (Byte L) (bytes_at T l)

-- destinations: the bytes of a temporary of type ty
pub record Destined (T : Tables) (L : List Storage) (ty : ℕ) (l : Location) (ds : List ByteStorage) : Type 0 where
  pub of_type : l.ty ≡ ty
  pub count : length ds ≡ size_of T ty
  pub each : Each (Byte L) ds
  pub own : Each (Byte L) (bytes_at T l)

no_odd_bool : (T : Tables) → TypesRight T → odd_bits T 0 ≡ 0
unfolding odd_bits
no_odd_bool T R = rw R.bool_first

length_bytes_at : (T : Tables) (l : Location) → length (bytes_at T l) ≡ size_of T l.ty
unfolding bytes_at type_size
length_bytes_at T l = length_bytes_from l.storage l.offset (type_size T l.ty)

module _ (T : Tables) {L : List Storage} where
  pub temporary_does : {P : Type 0} (ty : ℕ) → Does L P (allocate_temporary T ty) (allocated 1 (size_of T ty)) (Temporary T L ty)
  unfolding allocate_temporary type_size bytes_at kind_bytes
  temporary_does zero =
      within
      (allocating _ _ _ refl then λ s.
      answers (λ p. record { of_type = refl; bool = λ e. refl; bit = λ e. p.1; bytes = λ e. absurd (false≢true (sym e)) }))
      (λ p. omega arith)
  temporary_does (suc ty) =
      within
      (sized_does (type_size T (suc ty)) then λ s.
      answers (λ p. record { of_type = refl; bool = λ e. absurd (false≢true e); bit = λ e. absurd (false≢true e); bytes = λ e. p.1 }))
      (λ p. omega arith)

  location_bytes_does : {P : Type 0} (b : Bool) (s o ty : ℕ) → Does L P (location_bytes T (record { storage = s; offset = o; ty = ty; is_bit = b })) free
      (λ ds. (b ≡ false) × (ds ≡ bytes_at T (record { storage = s; offset = o; ty = ty; is_bit = b })))
  unfolding location_bytes
  location_bytes_does true s o ty = refuses
  location_bytes_does false s o ty = answers (λ p. (refl, refl))

  pub temporary_count : {ty : ℕ} {l : Location} → Temporary T L ty l → length (bytes_at T l) ≡ size_of T ty
  temporary_count {l} t = length_bytes_at T l ∙ ap (size_of T) t.of_type

  destinations : {ty : ℕ} {l : Location} {ds : List ByteStorage} → Temporary T L ty l → l.is_bit ≡ false → ds ≡ bytes_at T l → Destined T L ty l ds
  destinations {l} t b e =
      record {
        of_type = t.of_type;
        count = ap length e ∙ temporary_count t;
        each = rw e (t.bytes b);
        own = t.bytes b;
      }

  -- a temporary and its bytes, for what follows
  pub destined : {B : Type 0} {P : Type 0} {f : Location → List ByteStorage → Lower B} {k : Cost} {R : B → Type 0} (ty : ℕ)
      → ((l : Location) (ds : List ByteStorage) → Does L (P × Destined T L ty l ds) (f l ds) k R)
      → Does L P (allocate_temporary T ty >>= λ l. location_bytes T l >>= λ ds. f l ds) (allocated 1 (size_of T ty) ⊞ k) R
  destined ty g =
      within
      (temporary_does ty then λ l.
      location_bytes_does l.is_bit l.storage l.offset l.ty then λ ds.
      under (λ p. (p.0.0, destinations p.0.1 p.1.0 p.1.1)) (g l ds))
      (λ p. omega arith)

  -- a type with odd bits is not Bool, so that its temporary has bytes
  pub odd_bytes : TypesRight T → {ty : ℕ} {l : Location} → Temporary T L ty l → 1 ≤ odd_bits T ty → Each (Byte L) (bytes_at T l)
  odd_bytes R {ty} {l} t h = t.bytes (not_bit l.is_bit refl)
    where
      not_bit : (b : Bool) → l.is_bit ≡ b → l.is_bit ≡ false
      not_bit true e = absurd (let z = no_odd_bool T R in let g = rw (t.bool e) at h in omega arith)
      not_bit false e = e

  -- the mask is for a type with odd bits
  pub mask_does : {P : Type 0} (ty : ℕ) (l : Location) → (P → l.ty ≡ ty) → (P → 1 ≤ odd_bits T ty → Each (Byte L) (bytes_at T l))
      → Does L P (mask_location T l) (emitted (min 1 (odd_bits T ty))) Any
  unfolding mask_location
  mask_does ty l e f =
      emitting (min 1 (odd_bits T ty)) (masks (odd_bits T l.ty) (bytes_at T l)) (λ p. rw (← e p) (masks_length (odd_bits T l.ty) (bytes_at T l)))
      (λ p. masks_each (odd_bits T l.ty) (bytes_at T l) (λ h. f p (rw (e p) at h)))

  -- reading a location of type ty
  pub read_temporary : {P : Type 0} (R : TypesRight T) (ty : ℕ) (l : Location) → (P → l.ty ≡ ty)
      → Does L P (read_location T l) (reading (bools_of T ty)) (Small (weight_of T ty))
  read_temporary R ty l e = giving (read_location_does T R L l) (λ p. rw (e p) (omega arith)) (λ v p q. rw (e p) at q)
