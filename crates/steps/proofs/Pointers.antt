-- What the steps that make a pointer leave.
use Rattle.std.specs.Prelude.{◌≡◌, refl, Bool, true, false, List, ◌∷◌, map, [], ℕ, ◌≤◌, length, set, Ok}
use Rattle.std.proofs.Common.{sym, ap, ◌∙◌, arith, ne_eqb}
use Rattle.std.proofs.Math.Seq.{set_out}
use Rattle.spec.specs.Hir as hir
use Rattle.spec.specs.Ticket.{Tables, storage_at}
use Rattle.spec.specs.Readable.{TypesRight}
use Rattle.spec.specs.Lir.{ByteStorage, Storage, Instruction, stored, InstructionKind, function_address, address_of, Value, value, bytes_value}
use Rattle.spec.specs.Monad.{Lower, done, refused, nothing, ◌>>=◌, ◌>>◌, emit, require}
use Rattle.spec.specs.Monad as monad
use Rattle.spec.specs.Allocation.{type_size, allocate_sized, allocate_temporary, bytes_from, bytes_at, location_bytes}
use Rattle.spec.specs.ReadBytes.{read_plain, read_word, read_bytes_as_type, read_location}
use Rattle.spec.specs.Places.{is_one}
use Rattle.spec.specs.Arithmetic.{first_storage}
use Rattle.spec.specs.Select.{second_storage, require_addressable, materialize_location_address, lower_function_address}
use Rattle.lir.specs.Abstract.{tab, bytes_of}
use Rattle.lir.specs.declared.StorageId.{StorageId}
use Rattle.emission.specs.declared.emitter.Emitter.{Emitter}
use Rattle.emission.specs.Emits.{Emits, Allocates}
use Rattle.emission.specs.Does.{Does, out, does_allocating}
use Rattle.emission.specs.Temporaries.{location, place_sized}
use Rattle.tables.specs.declared.lookups.Lines as code
use Rattle.tables.specs.Ticket.{ticket_of}
use Rattle.tables.specs.Tables.{owner_at}
use Rattle.tables.proofs.Laws.{owner_here}
use Rattle.values.specs.declared.Lowering.{Lowering}
use Rattle.values.specs.Left.{counters_in, with_out, marked, Left, IsValue, MeetsValue}
use Rattle.values.specs.Laws.{left_does}
use Rattle.steps.specs.Steps.{pointer_in, narrowed_by}
use Rattle.steps.proofs.Asks.{does_shows}

-- the value of a pointer in the storage k
unfoldable pointer_of : ℕ → Value
pointer_of k = value 1 (bytes_value (map stored (bytes_from k 0 2)))

-- byte i of the storage k
abbrev byte_of : ℕ → ℕ → ByteStorage
byte_of k i = record { storage = k; offset = i }

pointer_shown : (s : StorageId) → IsValue (pointer_of s.0) (pointer_in s)
unfolding pointer_of bytes_of tab bytes_from
pointer_shown s = record { head = refl; sound = record { reach_most = omega arith; total_most = omega arith } }

module _ (T : Tables) (R : TypesRight T) where
  pointer_size : type_size T 1 ≡ 2
  unfolding type_size
  pointer_size = R.sized 1 ∙ rw R.pointer_second

  pointer_read : (k : ℕ) (h : hir.At) (c : monad.Counters) → read_location T (location k 1) h c ≡ done (pointer_of k) c nothing
  unfolding read_location read_bytes_as_type read_word read_plain pointer_of
  pointer_read k h c = rw (R.pointer_second, pointer_size)

  -- what follows the storage: an instruction i of its two bytes
  abbrev filled : (ByteStorage → ByteStorage → InstructionKind) → Lower Value
  filled i = allocate_temporary T 1 >>= λ t. (location_bytes T t >>= λ ds. (emit (i (first_storage ds) (second_storage T ds)) >> read_location T t))

  filled_behind : (i : ByteStorage → ByteStorage → InstructionKind) (k : ℕ) (h : hir.At) (c : monad.Counters)
      → (location_bytes T (location k 1) >>= λ ds. (emit (i (first_storage ds) (second_storage T ds)) >> read_location T (location k 1))) h c
      ≡ done (pointer_of k) c (out [] (i (byte_of k 0) (byte_of k 1) ∷ []) h)
  unfolding location_bytes bytes_at bytes_from first_storage second_storage ◌>>=◌ ◌>>◌
  filled_behind i k h c = rw (pointer_size, pointer_read k h c)

  filled_does : {e e1 e2 : Emitter} (i : ByteStorage → ByteStorage → InstructionKind) (k : ℕ)
      → Allocates e (allocate_sized 2) k e1 → Emits e1 (i (byte_of k 0) (byte_of k 1) ∷ []) e2 → Does 1 e (filled i) (pointer_of k) e2
  filled_does i k a b =
      does_allocating (λ t. (location_bytes T t >>= λ ds. (emit (i (first_storage ds) (second_storage T ds)) >> read_location T t)))
      (omega arith) (omega arith) (place_sized T 1 2 (λ z. omega arith) pointer_size a) b (λ h d. filled_behind i k h d)

pub function_meets : {l : Lowering} {e1 e2 : Emitter} (T : Tables) (R : TypesRight T) (id : StorageId) (f : ℕ) (h : hir.At) → h.node ≡ l.out.node.0
    → Allocates l.out (allocate_sized 2) id.0 e1 → Emits e1 (function_address (byte_of id.0 0) (byte_of id.0 1) f ∷ []) e2
    → MeetsValue l (lower_function_address T f h (counters_in l)) (with_out l e2) (Ok (pointer_in id))
unfolding lower_function_address pointer_of
function_meets {l} T R id f h g a b = does_shows {l = l} h g (filled_does T R (λ x y. function_address x y f) id.0 a b) refl (pointer_shown id)

-- ---------------------------------------------------------------- narrowing

-- the same but for the marks
abbrev with_marks : Lowering → List ℕ → Lowering
with_marks l ms =
    record { out = l.out; narrowed = record { ref_ptr = l.narrowed.ref_ptr; ghost_name = l.narrowed.ghost_name; now = ms }; stack = l.stack; top = l.top }

left_marked : {l : Lowering} {cs : monad.Counters} {ss : List Storage} {is : List Instruction} {e : Emitter} (ns : List ℕ)
    → Left l [] cs (record { storages = ss; narrowed = []; instructions = is }) (with_out l e)
    → Left l [] cs (record { storages = ss; narrowed = ns; instructions = is }) (with_marks (with_out l e) (marked l.narrowed.now ns))
left_marked ns a =
    record {
      appends = a.appends;
      numbers = a.numbers;
      narrows = refl;
      marks = refl;
      parts = a.parts;
      shows = a.shows;
      sound = a.sound;
      topped = a.topped;
      stacked = a.stacked;
      long = a.long;
      words = a.words;
    }

module _ {l : Lowering} {e2 : Emitter} (T : Tables) (R : TypesRight T) (k o : ℕ) (id : StorageId) (h : hir.At) (g : h.node ≡ l.out.node.0)
    (d : Does 1 l.out (filled T R (λ x y. address_of x y k o)) (pointer_of id.0) e2) where
  narrowing : (b : Bool) → is_one (storage_at T k).owner ≡ b
      → MeetsValue l (materialize_location_address T k false o h (counters_in l)) (with_marks (with_out l e2) (marked l.narrowed.now (narrowed_by b k))) (Ok (pointer_in id))
  unfolding materialize_location_address require_addressable require ◌>>◌ pointer_of
  narrowing true e = rw (e, d.is h) (record { shown = (pointer_shown id, left_marked (k ∷ []) (left_does {l = l} h g d)) })
  narrowing false e = rw (e, d.is h) (record { shown = (pointer_shown id, left_marked [] (left_does {l = l} h g d)) })

pub address_meets : {l : Lowering} {e1 e2 : Emitter} {ms : List ℕ} (t : code.Lines) (k o : ℕ) (b : Bool) (id : StorageId) (h : hir.At) → TypesRight (ticket_of t) → h.node ≡ l.out.node.0 → b ≡ false
    → ms ≡ marked l.narrowed.now (narrowed_by (is_one (owner_at t.rows.now t.lists.now t.counts k)) k)
    → Allocates l.out (allocate_sized 2) id.0 e1 → Emits e1 (address_of (byte_of id.0 0) (byte_of id.0 1) k o ∷ []) e2
    → MeetsValue l (materialize_location_address (ticket_of t) k b o h (counters_in l)) (with_marks (with_out l e2) ms) (Ok (pointer_in id))
address_meets {l} t k o b id h R g f q a c =
    rw (f, q)
    (narrowing {l = l} (ticket_of t) R k o id h g (filled_does (ticket_of t) R (λ x y. address_of x y k o) id.0 a c)
    (is_one (owner_at t.rows.now t.lists.now t.counts k)) (ap is_one (owner_here t.rows.now t.lists.now t.counts k)))

pub address_refused : (T : Tables) (k o : ℕ) (b : Bool) (h : hir.At) (c : monad.Counters) → b ≡ true → materialize_location_address T k b o h c ≡ refused 21 h.line
unfolding materialize_location_address require ◌>>◌
address_refused T k o b h c e = rw e

module _ (l : List ℕ) (t : code.Lines) (s : ℕ) {w : ℕ} (e : w ≡ owner_at t.rows.now t.lists.now t.counts s) where
  pub narrow_in : w ≡ 1 → set l s 1 ≡ marked l (narrowed_by (is_one (owner_at t.rows.now t.lists.now t.counts s)) s)
  unfolding marked
  narrow_in q = let g : owner_at t.rows.now t.lists.now t.counts s ≡ 1 = sym e ∙ q in rw g

  pub narrow_out : w ≡ 1 → length l ≤ s → l ≡ marked l (narrowed_by (is_one (owner_at t.rows.now t.lists.now t.counts s)) s)
  narrow_out q h = sym (set_out l s 1 h) ∙ narrow_in q

  pub narrow_not : (w ≡ 1 → ⊥) → l ≡ marked l (narrowed_by (is_one (owner_at t.rows.now t.lists.now t.counts s)) s)
  unfolding marked
  narrow_not h = rw (ne_eqb (owner_at t.rows.now t.lists.now t.counts s) 1 (λ z. h (e ∙ z)))
