-- What a closure makes of byte after byte is emitted, in the words of each definition that agrees with it.
use Rattle.std.specs.Prelude.{◌≡◌, ℕ}
use Rattle.std.specs.Prelude.{Option}
use Rattle.spec.specs.Lir as lir
use Rattle.spec.specs.Arithmetic.{zip2}
use Rattle.lir.specs.Abstract.{byte_storage_of, byte_operand_of, carry_of, kind_of, bytes_of, destinations_of}
use Rattle.lir.specs.declared.StorageId.{StorageId}
use Rattle.lir.specs.declared.ByteStorage.{ByteStorage}
use Rattle.lir.specs.declared.ByteOperand.{ByteOperand}
use Rattle.lir.specs.declared.Bytes.{Bytes}
use Rattle.lir.specs.declared.Destinations.{Destinations}
use Rattle.lir.specs.declared.InstructionKind.{InstructionKind}
use Rattle.emission.specs.declared.operands.Operands.{Operands}
use Rattle.emission.specs.declared.emitter.Emitter.{Emitter}
use Rattle.emission.specs.Emits.{Emits}
use Rattle.emission.specs.Loops.{carried}

-- of two values, with a carry from each byte to the next
pub record EmitsCarried (post : ByteStorage → ByteOperand → ByteOperand → Option StorageId → Option StorageId → InstructionKind → Type 0) (o : Operands) (c : ℕ) (e e' : Emitter) : Type 0 where
  pub emits : (f : lir.ByteStorage → lir.ByteOperand → lir.ByteOperand → Option ℕ → Option ℕ → lir.InstructionKind)
      → ((d : ByteStorage) (x y : ByteOperand) (i u : Option StorageId) (k : InstructionKind) → post d x y i u k
      → kind_of k ≡ f (byte_storage_of d) (byte_operand_of x) (byte_operand_of y) (carry_of i) (carry_of u))
      → Emits e (carried f c (destinations_of o.to) (bytes_of o.left) (bytes_of o.right)) e'

-- of one value
pub record EmitsBytes (post : ByteStorage → ByteOperand → InstructionKind → Type 0) (d : Destinations) (b : Bytes) (e e' : Emitter) : Type 0 where
  pub emits : (f : lir.ByteStorage → lir.ByteOperand → lir.InstructionKind)
      → ((x : ByteStorage) (y : ByteOperand) (k : InstructionKind) → post x y k → kind_of k ≡ f (byte_storage_of x) (byte_operand_of y))
      → Emits e (zip2 (λ i x a. f x a) 0 (destinations_of d) (bytes_of b)) e'
