-- The examples' tables meet the premises on a readable ticket; and document 01's printed case, for every number in the variable.
use Prim.Native.Nat.{◌^◌, ◌<◌}
use mathlib.Core.List.{map}
use mathlib.Core.Path.{◌≡◌, refl}
use native.Mathlib.Omega.{arith}
use borrow.Author.Tests.{lt-ltb}
use Rattle.spec.specs.Hir.{Expr, integer, read, integer_binary, variable}
use Rattle.spec.specs.Hir as hir
use Rattle.spec.specs.Text.{text}
use Rattle.spec.specs.Ticket.{nowhere}
use Rattle.spec.specs.Readable.{TypesRight}
use Rattle.spec.specs.Lir.{stored, Value}
use Rattle.spec.specs.Monad.{Counters, Out, done}
use Rattle.spec.specs.Allocation.{bytes_from}
use Rattle.spec.specs.Lower.{lower_expression}
use Rattle.numerics.specs.Numerics.{iadd}
use Rattle.spec.specs.Machine.{Memory, Proper, Given, le, operands}
use Rattle.spec.specs.Eval.{number}
use Rattle.spec.specs.RunNeeds.{NeedsOf}
use Rattle.spec.proofs.RunNeeds.{placed_by_test}
use Rattle.spec.specs.RunCases.{T, ticket, of_type}
use Rattle.spec.proofs.ReadingTicket.{readable}
use Rattle.spec.proofs.RunExamples.{computing, is_read}
use Rattle.spec.specs.RunClaims.{Ran}
use Rattle.spec.proofs.RunFinal.{running}

pub types_right : TypesRight T
types_right = (readable (text ticket) T is_read).types

pub needs : NeedsOf T
needs = record { variables = placed_by_test T T.variables refl; statics = placed_by_test T T.statics refl }

-- ---------------------------------------------------------------- document 01's printed case

-- the variable of 9 bits, plus 12
abbrev plus_12 : Expr
plus_12 = integer_binary (of_type 3) hir.add (read (of_type 3) (variable 2)) (integer (of_type 3) 12)

-- run, whatever number stands in the variable, it leaves that number plus 12, modulo 2 ^ 9
printed_case : (G : Given) (M : Memory) → Proper M → le (operands M (map stored (bytes_from 0 0 2))) < 2 ^ 9
    → (v : Value) (c : Counters) (o : Out) → lower_expression T plus_12 nowhere (record { storage = 2; temporary = 0 }) ≡ done v c o
    → Ran G M 2 v o (number 2 (iadd 9 (le (operands M (map stored (bytes_from 0 0 2)))) 12))
unfolding computing
printed_case G M P h v c o q =
    running T types_right needs plus_12 refl refl G M P (rw (lt-ltb _ _ h) refl) _ refl nowhere (record { storage = 2; temporary = 0 }) (omega arith) v c o q
