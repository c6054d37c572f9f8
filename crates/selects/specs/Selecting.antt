-- What a select goes into, and what one piece of it leaves.
use Rattle.std.specs.Prelude.{Bool, true, false, ◌&&◌, List, ℕ, eqb}
use Rattle.spec.specs.Lir.{BitOperand, ValueOperand, InstructionKind, select_byte, ValueStorage, bit_storage, byte_storage, Value}
use Rattle.spec.specs.Ticket.{Tables}
use Rattle.spec.specs.Monad.{Lower, require, ◌>>◌}
use Rattle.spec.specs.Allocation.{Location, location_value_storages}
use Rattle.spec.specs.ReadBytes.{read_location}
use Rattle.spec.specs.Select.{select_pieces}
use Rattle.lir.specs.declared.Bytes.{Bytes}
use Rattle.lir.specs.Abstract.{tab, byte_at}
use Rattle.lir.specs.Tab.{spot}
use Rattle.selects.specs.declared.Targets.{Targets}

-- ---------------------------------------------------------------- where to

-- a bit, or byte i of a storage
abbrev pub target : ℕ → Bool → ℕ → ValueStorage
target s true i = bit_storage s
target s false i = byte_storage (record { storage = s; offset = i })

abbrev pub target_count : Bool → ℕ → ℕ
target_count true n = 1
target_count false n = n

-- those of a temporary of type ty
unfoldable pub targets : ℕ → ℕ → ℕ → List ValueStorage
targets s ty n = tab (target s (eqb ty 0)) 0 (target_count (eqb ty 0) n)

-- the code's
abbrev pub target_of : Targets → ℕ → ValueStorage
target_of (Targets.Bit s) = target s.0 true
target_of (Targets.Bytes d) = target d.storage.0 false

abbrev pub count_of : Targets → ℕ
count_of (Targets.Bit s) = 1
count_of (Targets.Bytes d) = d.count

-- ---------------------------------------------------------------- the steps of a select

-- `select_to_location` over operands
unfoldable pub fills : BitOperand → ℕ → List ValueOperand → ℕ → List ValueOperand → ℕ → List ValueStorage → Lower Unit
fills c tt ts ft fs ty ds = do
  require 22 (eqb tt ft && eqb tt ty)
  select_pieces c ds ts fs

-- behind the temporary
unfoldable pub fills_and_reads : Tables → BitOperand → ℕ → List ValueOperand → ℕ → List ValueOperand → Location → Lower Value
fills_and_reads T c tt ts ft fs l = do
  fills c tt ts ft fs l.ty (location_value_storages T l)
  read_location T l

-- byte i of the storage s gets byte i of t or of f
abbrev pub byte_selected : ℕ → BitOperand → Bytes → Bytes → ℕ → InstructionKind
byte_selected s q t f i = select_byte (spot s i) q (byte_at t i) (byte_at f i)
