-- The instruction for each byte of what is done byte by byte, in the definitions' words.
use Rattle.std.specs.Prelude.{◌≡◌, refl, ℕ, zero, suc, ◌+◌, eqb}
use Rattle.std.specs.Prelude.{Option, None, Some}
use Rattle.std.proofs.Common.{arith, eq-eqb, ne_eqb}
use Rattle.spec.specs.Lir as lir
use Rattle.spec.specs.Arithmetic.{carry_in, carry_out}
use Rattle.lir.specs.Abstract.{pick, byte_at, byte_operand_of, bit_operand_of, byte_binary_op_of, rotate_direction_of, kind_of}
use Rattle.lir.specs.Sound.{Sound}
use Rattle.lir.specs.Tab.{spot}
use Rattle.lir.specs.declared.ByteOperand.{ByteOperand}
use Rattle.lir.specs.declared.BitOperand.{BitOperand}
use Rattle.lir.specs.declared.Bytes.{Bytes}
use Rattle.lir.specs.declared.Source.{Source}
use Rattle.lir.specs.declared.Destinations.{Destinations}
use Rattle.lir.specs.declared.ByteBinaryOp.{ByteBinaryOp}
use Rattle.lir.specs.declared.RotateDirection.{RotateDirection}
use Rattle.lir.specs.declared.InstructionKind.{InstructionKind}
use Rattle.emission.specs.Tabs.{bit_byte}

-- an instruction of the code for the definitions' k, that can be printed
pub record Makes (k : lir.InstructionKind) (r : InstructionKind) : Type 0 where
  pub kind : kind_of r ≡ k
  pub sound : Sound r

module _ (d : Destinations) (l r : Bytes) where
  -- with a carry into each byte but the first, and out of each but the last
  abbrev pub carried_kind : (lir.ByteStorage → lir.ByteOperand → lir.ByteOperand → Option ℕ → Option ℕ → lir.InstructionKind) → ℕ → ℕ → lir.InstructionKind
  carried_kind f c i = f (spot d.storage.0 i) (byte_at l i) (byte_at r i) (carry_in c i) (carry_out c d.count i)

  abbrev pub binary_kind : ByteBinaryOp → ℕ → lir.InstructionKind
  binary_kind op i = lir.byte_binary (byte_binary_op_of op) (spot d.storage.0 i) (byte_at l i) (byte_at r i)

module _ (d : Destinations) where
  abbrev pub each_kind : (lir.ByteStorage → lir.ByteOperand → lir.InstructionKind) → Bytes → ℕ → lir.InstructionKind
  each_kind f b i = f (spot d.storage.0 i) (byte_at b i)

  abbrev pub bit_kind : BitOperand → ℕ → lir.InstructionKind
  bit_kind b i = bit_byte (eqb i 0) (spot d.storage.0 i) (bit_operand_of b)

  abbrev pub turn_kind : RotateDirection → ByteOperand → ℕ → lir.InstructionKind
  turn_kind dir x i = lir.rotate (rotate_direction_of dir) (spot d.storage.0 0) (pick (eqb i 0) (byte_operand_of x) (lir.stored (spot d.storage.0 0)))

-- n zero bytes
abbrev pub zero_bytes : ℕ → Bytes
zero_bytes n = record { source = Source.Constant 0; count = 0; total = n }

abbrev pub direction_option : Option RotateDirection → Option lir.RotateDirection
direction_option None = None
direction_option (Some dir) = Some (rotate_direction_of dir)

-- ---------------------------------------------------------------- carries

pub carry_in_some : (c i : ℕ) → (i ≡ 0 → ⊥) → carry_in c i ≡ Some c
carry_in_some c zero h = absurd (h refl)
carry_in_some c (suc i) h = refl

pub carry_out_none : (c n i : ℕ) → i + 1 ≡ n → carry_out c n i ≡ None
carry_out_none c n i h = let e : suc i ≡ n = omega arith in rw (eq-eqb (suc i) n e)

pub carry_out_some : (c n i : ℕ) → (i + 1 ≡ n → ⊥) → carry_out c n i ≡ Some c
carry_out_some c n i h = rw (ne_eqb (suc i) n (λ e. h (omega arith)))
