-- What a pointer's offset leaves: two bytes added to two, in a new pointer.
use Rattle.std.specs.Prelude.{◌≡◌, List, ◌≤◌, ◌<◌, leb, length, take, Ok}
use Rattle.std.proofs.Common.{sym, ap, ◌∙◌, arith}
use borrow.Author.Tests.{le-leb, lt-leb}
use Rattle.spec.specs.Hir as hir
use Rattle.spec.specs.Ticket.{Tables}
use Rattle.spec.specs.Readable.{TypesRight}
use Rattle.spec.specs.Lir.{ByteStorage, ByteOperand, Value, add, pointer_carry}
use Rattle.spec.specs.Monad.{Lower, refused, ◌>>=◌, ◌>>◌, emits, require}
use Rattle.spec.specs.Monad as monad
use Rattle.spec.specs.Operands.{resize}
use Rattle.spec.specs.Allocation.{pointer_type, type_size, allocate_sized, allocate_temporary, allocate_carry, bytes_at, location_bytes}
use Rattle.spec.specs.Arithmetic.{adds}
use Rattle.spec.specs.ReadBytes.{read_plain, read_word, read_bytes_as_type, read_location}
use Rattle.lir.specs.Abstract.{bytes_of, destinations_of}
use Rattle.lir.specs.declared.Bytes.{Bytes}
use Rattle.lir.specs.declared.NodeId.{NodeId}
use Rattle.lir.specs.declared.StorageId.{StorageId}
use Rattle.lir.specs.declared.Destinations.{Destinations}
use Rattle.emission.specs.declared.emitter.Emitter.{Emitter}
use Rattle.emission.specs.Appends.{counters_of}
use Rattle.emission.specs.Emits.{Emits, Allocates}
use Rattle.emission.specs.Does.{does_emits, does_allocate}
use Rattle.emission.specs.Operands.{length_bytes}
use Rattle.emission.specs.Loops.{carried}
use Rattle.emission.specs.Forms.{prepend_nothing}
use Rattle.emission.specs.Temporaries.{location, place_sized}
use Rattle.values.specs.declared.Lowering.{Lowering}
use Rattle.values.specs.Left.{counters_in, with_out, MeetsValue}
use Rattle.values.specs.Laws.{does_meets, next_meets}
use Rattle.reads.proofs.Laws.{plain_meets}
use Rattle.steps.specs.Steps.{pointer_in}
use Rattle.conversions.specs.Converting.{Resizes}
use Rattle.conversions.proofs.Laws.{take_resize}

module _ (T : Tables) where
  -- what follows a base's two bytes and an offset's
  abbrev offset_by : List ByteOperand → List ByteOperand → Lower Value
  offset_by base offset =
      allocate_temporary T pointer_type >>= λ t. (location_bytes T t >>= λ ds. (allocate_carry pointer_carry >>= λ x. (emits (adds x ds base offset) >> read_location T t)))

  -- what follows the bytes of both
  abbrev pub offset_bytes : List ByteOperand → List ByteOperand → Lower Value
  offset_bytes base offset = require 25 (leb 2 (length base)) >> offset_by (take 2 base) (resize 2 offset)

  module _ (base : Bytes) (os : List ByteOperand) (h : hir.At) (c : monad.Counters) where
    pub offset_short : base.total < 2 → offset_bytes (bytes_of base) os h c ≡ refused 25 h.line
    unfolding require ◌>>◌
    offset_short k = let e = length_bytes base in rw (lt-leb 2 (length (bytes_of base)) (omega arith))

    offset_long : 2 ≤ base.total → offset_bytes (bytes_of base) os h c ≡ offset_by (take 2 (bytes_of base)) (resize 2 os) h c
    unfolding require ◌>>◌
    offset_long k = let e = length_bytes base in rw (le-leb 2 (length (bytes_of base)) (omega arith)) (prepend_nothing _)

  offset_resized : (base offset : Bytes) (h : hir.At) (c : monad.Counters) {p q : Bytes} → 2 ≤ base.total → Resizes base 2 p → Resizes offset 2 q
      → offset_bytes (bytes_of base) (bytes_of offset) h c ≡ offset_by (bytes_of p) (bytes_of q) h c
  offset_resized base offset h c k x y =
      let e = length_bytes base in
      rw (x.is, y.is, ← (take_resize 2 (bytes_of base) (omega arith))) (offset_long base (bytes_of offset) h c k)

-- ---------------------------------------------------------------- a new pointer

-- the two bytes of the storage s
abbrev two : StorageId → Destinations
two s = record { storage = s; count = 2 }

module _ (T : Tables) (R : TypesRight T) where
  pointer_size : type_size T 1 ≡ 2
  unfolding type_size
  pointer_size = R.sized 1 ∙ rw R.pointer_second

  module _ (id : StorageId) (h : hir.At) (c : monad.Counters) where
    pointer_bytes : (f : List ByteStorage → Lower Value) → (location_bytes T (location id.0 1) >>= f) h c ≡ f (destinations_of (two id)) h c
    unfolding location_bytes bytes_at ◌>>=◌
    pointer_bytes f = rw pointer_size (prepend_nothing (f (destinations_of (two id)) h c))

    pointer_read : read_location T (location id.0 1) h c ≡ read_plain T id.0 1 0 h c
    unfolding read_location read_bytes_as_type read_word
    pointer_read = rw R.pointer_second

  pub offset_meets : {l : Lowering} {e1 e2 e3 : Emitter} (id k : StorageId) (base offset : Bytes) {p q : Bytes} (h : hir.At) → h.node ≡ l.out.node.0 → 2 ≤ base.total
      → Resizes base 2 p → Resizes offset 2 q → Allocates l.out (allocate_sized 2) id.0 e1 → Allocates e1 (allocate_carry pointer_carry) k.0 e2
      → Emits e2 (carried add k.0 (destinations_of (two id)) (bytes_of p) (bytes_of q)) e3 → MeetsValue l (offset_bytes T (bytes_of base) (bytes_of offset) h (counters_in l)) (with_out l e3) (Ok (pointer_in id))
  unfolding adds
  offset_meets {l} {e1} {e2} {e3} id k base offset {p} {q} h g n x y a b z =
      let g1 : h.node ≡ e1.node.0 = g ∙ sym (ap (λ (w : NodeId). w.0) a.node) in
      let g2 : h.node ≡ e2.node.0 = g1 ∙ sym (ap (λ (w : NodeId). w.0) b.node) in
      let read = read_location T (location id.0 1) in
      let kinds = adds k.0 (destinations_of (two id)) (bytes_of p) (bytes_of q) in
      rw (offset_resized T base offset h (counters_in l) n x y)
      (does_meets {l = l} h g (does_allocate (place_sized T 1 2 (λ w. omega arith) pointer_size a))
      (λ t. location_bytes T t >>= λ ds. (allocate_carry pointer_carry >>= λ c. (emits (adds c ds (bytes_of p) (bytes_of q)) >> read_location T t)))
      (rw (pointer_bytes id h (counters_of e1) (λ ds. allocate_carry pointer_carry >>= λ c. (emits (adds c ds (bytes_of p) (bytes_of q)) >> read)))
      (does_meets {l = with_out l e1} h g1 (does_allocate b) (λ c. emits (adds c (destinations_of (two id)) (bytes_of p) (bytes_of q)) >> read)
      (next_meets {l = with_out l e2} h g2 (does_emits {n = length kinds} (omega arith) z) read (rw (pointer_read id h (counters_of e3)) (plain_meets (with_out l e3) T id 1 0 2 h pointer_size (omega arith)))))))
