-- Each place lies at one byte of one storage: there it is read and has its address, and through an offset it is read from so many bytes on.
use Prim.Native.Nat.{ℕ, ◌+◌, ◌%◌}
use mathlib.Core.Bool.{Bool, true, false}
use mathlib.Core.List.{List}
use Rattle.std.specs.Prelude.{Option, Some}
use borrow.Author.Tests.{eq-eqb}
use Rattle.std.proofs.lemmas.Option.{same_Some}
use mathlib.Core.Path.{◌≡◌, refl, sym, ap, ◌∙◌}
use Rattle.spec.specs.Limits.{type_depth_limit}
use Rattle.spec.specs.Hir.{At, Expr, read, address_of, Place, variable, static, byte_offset}
use Rattle.spec.specs.Ticket.{PlacedLine, Tables, nowhere}
use Rattle.spec.specs.Read.{read_ticket}
use Rattle.spec.specs.Read as reading
use Rattle.spec.specs.Allocation.{Location}
use Rattle.spec.specs.Monad.{◌>>=◌, ◌>>◌, or_refuse, require}
use Rattle.spec.specs.Operands.{nth}
use Rattle.spec.specs.Places.{constant_usize, with_type, resolve_place}
use Rattle.spec.specs.Machine.{Memory, Given}
use Rattle.spec.specs.Eval.{Data, number, located, based, stored_data, read_data, eval}
use Rattle.spec.specs.RunNeeds.{NeedsOf}
use Rattle.spec.proofs.RunReady.{needs_read}
use Rattle.spec.proofs.RunOperations.{found}
use Rattle.spec.proofs.RunPlaces.{answered, start, Resolved, answer_has, quiet_place}
use Rattle.spec.proofs.PlaceBases.{whole_same, offset_located}
use Rattle.spec.proofs.PlaceParts.{read_at}

-- where the place p lies, in every memory; its type as a whole is h's
pub record Lies (T : Tables) (G : Given) (p : Place) (h : At) : Type 0 where
  pub storage : ℕ
  pub offset : ℕ
  pub whole : (M : Memory) → eval T G M (read h p) ≡ Some (stored_data T M storage type_depth_limit h.ty offset)
  -- n bytes on, as any type
  pub through : (M : Memory) (k : At) (e : Expr) (n : ℕ) (d : Data) → constant_usize e ≡ Some n → eval T G M (read k (byte_offset p e)) ≡ Some d
      → stored_data T M storage type_depth_limit k.ty (offset + n) ≡ d
  pub address : (M : Memory) (k : At) (d : Data) → eval T G M (address_of k p) ≡ Some d → number 2 ((G.base storage + offset) % 65536) ≡ d

module _ (T : Tables) (N : NeedsOf T) (G : Given) (p : Place) (h : At) (bytes : h.ty ≡ 0 → ⊥) where
  lies_at : (l : Location) → located T p h.ty ≡ Some l → Resolved T h.ty l → Lies T G p h
  unfolding eval read_data
  lies_at l q r = record { storage = l.storage; offset = l.offset; whole = whole; through = through; address = address }
    where
      in_bytes : (b : Bool) → l.is_bit ≡ b → l.is_bit ≡ false
      in_bytes true e = absurd (bytes (r.bit_bool e))
      in_bytes false e = e

      whole : (M : Memory) → eval T G M (read h p) ≡ Some (stored_data T M l.storage type_depth_limit h.ty l.offset)
      whole M = rw (q, in_bytes l.is_bit refl, r.typed) refl

      through : (M : Memory) (k : At) (e : Expr) (n : ℕ) (d : Data) → constant_usize e ≡ Some n → eval T G M (read k (byte_offset p e)) ≡ Some d
          → stored_data T M l.storage type_depth_limit k.ty (l.offset + n) ≡ d
      through M k e n d c v =
          let A = read_at T M (byte_offset p e) k.ty d v in
          let O = offset_located T N p e k.ty A.location A.at in
          let S = whole_same T N p h.ty l O.base q O.based_at in
          let m : O.bytes ≡ n = same_Some _ _ (sym O.constant ∙ c) in
          rw (S.storage, S.offset, ← m)
          (ap (λ (x : Location). stored_data T M x.storage type_depth_limit x.ty x.offset) O.is ∙ A.bytes (ap (λ (x : Location). x.is_bit) (sym O.is)))

      address : (M : Memory) (k : At) (d : Data) → eval T G M (address_of k p) ≡ Some d → number 2 ((G.base l.storage + l.offset) % 65536) ≡ d
      address M k d v =
          let b = found (based T p) _ v in
          let S = whole_same T N p h.ty l b.it q b.is in
          rw (S.storage, S.offset) (same_Some _ _ b.goes)

-- a place of any type but bool, which may be a bit
pub lies : (s : List ℕ) (T : Tables) → read_ticket s ≡ reading.accepted T → (G : Given) (M : Memory) (p : Place) (h : At) (d : Data) → (h.ty ≡ 0 → ⊥)
    → eval T G M (read h p) ≡ Some d → Lies T G p h
unfolding eval located
lies s T r G M p h d n e =
    let N = needs_read s T r in
    let A = read_at T M p h.ty d e in
    lies_at T N G p h n A.location A.at (answer_has (Resolved T h.ty) (resolve_place T p h.ty nowhere start) start ((quiet_place T N p h.ty).is nowhere start) A.at)

-- ---------------------------------------------------------------- a variable or a static

abbrev placed : Option PlacedLine → ℕ → Tables → Option Location
placed x ty T = answered ((or_refuse 20 x >>= λ v. with_type T ty v) nowhere start)

placed_at : (T : Tables) (x : Option PlacedLine) (v : PlacedLine) (ty : ℕ) → x ≡ Some v → v.type ≡ ty → v.bit ≡ 0
    → placed x ty T ≡ Some (record { storage = v.storage; offset = v.offset; ty = ty; is_bit = false })
unfolding or_refuse with_type require ◌>>=◌ ◌>>◌
placed_at T x v ty e t b = rw (e, t, b, eq-eqb ty ty refl) refl

-- a variable's or a static's own storage and offset
pub variable_read : (T : Tables) (G : Given) (M : Memory) (h : At) (k : ℕ) (v : PlacedLine) → nth T.variables k ≡ Some v → v.type ≡ h.ty → v.bit ≡ 0
    → eval T G M (read h (variable k)) ≡ Some (stored_data T M v.storage type_depth_limit h.ty v.offset)
unfolding eval read_data located resolve_place
variable_read T G M h k v e t b = rw (placed_at T (nth T.variables k) v h.ty e t b) refl

pub static_read : (T : Tables) (G : Given) (M : Memory) (h : At) (k : ℕ) (v : PlacedLine) → nth T.statics k ≡ Some v → v.type ≡ h.ty → v.bit ≡ 0
    → eval T G M (read h (static k)) ≡ Some (stored_data T M v.storage type_depth_limit h.ty v.offset)
unfolding eval read_data located resolve_place
static_read T G M h k v e t b = rw (placed_at T (nth T.statics k) v h.ty e t b) refl
