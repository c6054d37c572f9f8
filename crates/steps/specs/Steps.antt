-- The values that steps answer, a new storage that may be refused, and narrowing.
use Rattle.std.specs.Prelude.{◌≡◌, Bool, true, false, List, ◌∷◌, [], ℕ, Result}
use Rattle.answers.specs.declared.Refusal.{Refusal}
use Rattle.answers.specs.declared.Refused.{Refused}
use Rattle.spec.specs.Monad.{Outcome}
use Rattle.lir.specs.declared.BitOperand.{BitOperand as Bit}
use Rattle.lir.specs.declared.StorageId.{StorageId}
use Rattle.lir.specs.declared.Source.{Source}
use Rattle.values.specs.declared.Lowering.{Lowering}
use Rattle.values.specs.declared.Value.{Value as Val}
use Rattle.values.specs.declared.Repr.{Repr as Rep}
use Rattle.values.specs.Left.{Shows}

-- ---------------------------------------------------------------- values

abbrev pub constant_of : ℕ → ℕ → ℕ → Val
constant_of ty v n = record { ty = ty; repr = Rep.Bytes (record { source = Source.Constant v; count = n; total = n }) }

-- a bit of type Bool in the storage s
abbrev pub bool_in : StorageId → Val
bool_in s = record { ty = 0; repr = Rep.Bit (Bit.Storage s) }

-- the two bytes of the storage s
abbrev pub pointer_in : StorageId → Val
pointer_in s = record { ty = 1; repr = Rep.Bytes (record { source = Source.Storage (record { storage = s; offset = 0 }); count = 2; total = 2 }) }

-- ---------------------------------------------------------------- a new storage

abbrev pub IsStorage : ℕ → StorageId → Type 0
IsStorage n s = s.0 ≡ n

abbrev pub MeetsStorage : Lowering → Outcome ℕ → Lowering → Result StorageId (Refused Refusal) → Type 0
MeetsStorage = Shows IsStorage (λ _. [])

-- ---------------------------------------------------------------- narrowing

-- the storage s, where it is one of the function's own
abbrev pub narrowed_by : Bool → ℕ → List ℕ
narrowed_by true s = s ∷ []
narrowed_by false s = []
