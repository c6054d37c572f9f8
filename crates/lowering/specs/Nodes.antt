-- An aggregate's nodes, a lowering in a node's own step, and a value without its parts.
use Rattle.std.specs.Prelude.{List, [], ℕ, Result}
use Rattle.answers.specs.declared.Refusal.{Refusal}
use Rattle.answers.specs.declared.Refused.{Refused}
use Rattle.spec.specs.Hir.{Exprs}
use Rattle.spec.specs.Lir.{Value}
use Rattle.spec.specs.Monad.{Outcome}
use Rattle.spec.specs.Ticket.{Tables, expr_at, exprs_of}
use Rattle.tables.specs.Tables.{run}
use Rattle.values.specs.declared.Lowering.{Lowering}
use Rattle.values.specs.declared.Value.{Value as Val}
use Rattle.values.specs.Left.{Shows, IsValue}

-- the nodes of a run of the lists
abbrev pub kids : Tables → List ℕ → ℕ → ℕ → ℕ → Exprs
kids T lists d a n = exprs_of (λ k. expr_at d T k) (run lists a n)

-- a value of which no part is left
abbrev pub MeetsHead : Lowering → Outcome Value → Lowering → Result Val (Refused Refusal) → Type 0
MeetsHead = Shows IsValue (λ _. [])
