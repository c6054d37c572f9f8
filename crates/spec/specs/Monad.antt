-- A step of lowering: it appends storages, narrowed storages and instructions, advances two counters, and answers or refuses.
use Rattle.std.specs.Prelude.{ℕ, Bool, true, false, List, [], ◌∷◌, ◌++◌}
use Rattle.std.specs.Prelude.{Option, None, Some}
use Rattle.spec.specs.Hir.{At}
use Rattle.spec.specs.Lir.{Instruction, InstructionKind, Storage}

-- the numbers that the next storage and the next temporary get
pub record Counters : Type 0 where
  pub storage : ℕ
  pub temporary : ℕ

-- what is appended
pub record Out : Type 0 where
  pub storages : List Storage
  pub narrowed : List ℕ
  pub instructions : List Instruction

-- a refusal's number and line, or the answer
pub data Outcome (A : Type 0) : Type 0 where
  refused : ℕ → ℕ → Outcome A
  done : A → Counters → Out → Outcome A

abbrev pub nothing : Out
nothing = record { storages = []; narrowed = []; instructions = [] }

abbrev pub ◌⊕◌ : Out → Out → Out
◌⊕◌ o p =
    record { storages = o.storages ++ p.storages; narrowed = o.narrowed ++ p.narrowed; instructions = o.instructions ++ p.instructions }

-- a step, given the node whose own step it is
abbrev pub Lower : Type 0 → Type 0
Lower A = At → Counters → Outcome A

abbrev pub prepend : {A : Type 0} → Out → Outcome A → Outcome A
prepend o (refused n l) = refused n l
prepend o (done a c p) = done a c (◌⊕◌ o p)

abbrev pub bind_to : {A B : Type 0} → (A → Lower B) → At → Outcome A → Outcome B
bind_to f h (refused n l) = refused n l
bind_to f h (done a c o) = prepend o (f a h c)

infixl 20 ◌>>=◌
infixl 20 ◌>>◌
unfoldable pub ◌>>=◌ : {A B : Type 0} → Lower A → (A → Lower B) → Lower B
◌>>=◌ m f = λ h c. bind_to f h (m h c)

unfoldable pub ◌>>◌ : {A B : Type 0} → Lower A → Lower B → Lower B
◌>>◌ m k = λ h c. bind_to (λ _. k) h (m h c)

abbrev pub pure : {A : Type 0} → A → Lower A
pure a = λ h c. done a c nothing

-- the Rust's `Err`: the line is that of the node whose own step refused
abbrev pub refuse : {A : Type 0} → ℕ → Lower A
refuse n = λ h c. refused n h.line

-- a step of the node h's own
abbrev pub own : {A : Type 0} → At → Lower A → Lower A
own h m = λ _ c. m h c

abbrev pub made : At → InstructionKind → Instruction
made h k = record { kind = k; node = h.node }

abbrev pub made_all : At → List InstructionKind → List Instruction
made_all h [] = []
made_all h (k ∷ ks) = made h k ∷ made_all h ks

abbrev pub emits : List InstructionKind → Lower Unit
emits ks = λ h c. done tt c (record { storages = []; narrowed = []; instructions = made_all h ks })

abbrev pub emit : InstructionKind → Lower Unit
emit k = emits (k ∷ [])

abbrev pub narrow : ℕ → Lower Unit
narrow s = λ h c. done tt c (record { storages = []; narrowed = s ∷ []; instructions = [] })

unfoldable pub or_refuse : {A : Type 0} → ℕ → Option A → Lower A
or_refuse n None = refuse n
or_refuse n (Some a) = pure a

unfoldable pub require : ℕ → Bool → Lower Unit
require n true = pure tt
require n false = refuse n
