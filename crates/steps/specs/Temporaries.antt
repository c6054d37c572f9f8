-- A new temporary that a step fills, masks and reads.
use Rattle.std.specs.Prelude.{◌≡◌, List, ℕ, ◌+◌, ◌*◌, ◌≤◌, length, Result, Ok, Err}
use Rattle.answers.specs.Refusals.{refusal_number}
use Rattle.answers.specs.declared.Refusal.{Refusal}
use Rattle.answers.specs.declared.Refused.{Refused}
use Rattle.spec.specs.Hir.{At}
use Rattle.spec.specs.Ticket.{Tables}
use Rattle.spec.specs.Lir.{ByteStorage, Value}
use Rattle.spec.specs.Monad.{Lower, ◌>>=◌, ◌>>◌}
use Rattle.spec.specs.Allocation.{Location, type_size, allocate_temporary, location_bytes}
use Rattle.spec.specs.ReadBytes.{read_location}
use Rattle.spec.specs.Arithmetic.{mask_location}
use Rattle.lir.specs.declared.Destinations.{Destinations}
use Rattle.emission.specs.declared.emitter.Emitter.{Emitter}
use Rattle.emission.specs.Appends.{Room}
use Rattle.emission.specs.Emits.{Allocates}
use Rattle.emission.specs.Does.{Refuses}
use Rattle.emission.specs.Temporaries.{location}
use Rattle.values.specs.declared.Lowering.{Lowering}
use Rattle.reads.specs.Reading.{weight_of}

-- the bytes of a new temporary
unfoldable pub byte_temporary : Tables → ℕ → Lower (List ByteStorage)
byte_temporary T ty = allocate_temporary T ty >>= location_bytes T

-- a temporary that was filled
unfoldable pub masked : Tables → Location → Lower Value
masked T t = mask_location T t >> read_location T t

-- in the middle of a step of the node h: n more of each count, and the records of a value of its type but the first
pub record RoomFor (n : ℕ) (T : Tables) (h : At) (l : Lowering) : Type 0 where
  pub node : h.node ≡ l.out.node.0
  pub room : Room n l.out
  pub top : l.top + 8 * weight_of T h.ty ≤ length l.stack.now + 8

-- d is a new temporary of the type ty, with all of its bytes
pub record New (T : Tables) (ty : ℕ) (e : Emitter) (d : Destinations) (e' : Emitter) : Type 0 where
  pub allocates : Allocates e (allocate_temporary T ty) (location d.storage.0 ty) e'
  pub bytes : ty ≡ 0 → ⊥
  pub count : d.count ≡ type_size T ty

abbrev pub NewBy : Tables → At → Emitter → Emitter → Result Destinations (Refused Refusal) → Type 0
NewBy T h e e' (Ok d) = New T h.ty e d e'
NewBy T h e e' (Err r) = Refuses e (byte_temporary T h.ty) (refusal_number r.refusal) × (r.line ≡ h.line)

-- a new temporary of the type of the node h, or its refusal
pub record MeetsNew (T : Tables) (h : At) (e e' : Emitter) (r : Result Destinations (Refused Refusal)) : Type 0 where
  pub shown : NewBy T h e e' r
