-- What is claimed of running: the whole rule, and the bytes left in the buffer.
use Rattle.std.specs.Prelude.{ℕ, ◌≤◌, ◌<◌, true, List, ◌≡◌, length}
use Rattle.std.specs.Prelude.{Some}
use Rattle.spec.specs.Hir.{At, Expr}
use Rattle.spec.specs.Ticket.{Tables}
use Rattle.spec.specs.Readable.{TypesRight}
use Rattle.spec.specs.Read.{read_ticket}
use Rattle.spec.specs.Read as reading
use Rattle.spec.specs.Lir.{Value}
use Rattle.spec.specs.Monad.{Counters, Out, done}
use Rattle.spec.specs.Lower.{lower_expression}
use Rattle.spec.specs.Machine.{Memory, Proper, Given, run}
use Rattle.spec.specs.Typed.{typed}
use Rattle.spec.specs.Eval.{Data, data_of, eval, in_order}
use Rattle.spec.specs.Answer.{answer, accepted}
use Rattle.spec.specs.Demands.{Leaves}
use Rattle.spec.specs.Readable.{root}
use Rattle.spec.specs.RunNeeds.{NeedsOf, bools_in_range}

-- run in M, the instructions leave d in the value's pieces, and the storages below n as they were
pub record Ran (G : Given) (M : Memory) (n : ℕ) (v : Value) (o : Out) (d : Data) : Type 0 where
  pub after : Memory
  pub runs : run G o.instructions M ≡ Some after
  pub holds : data_of after v ≡ d
  pub bytes : (k i : ℕ) → k < n → after.byte k i ≡ M.byte k i
  pub bits : (k : ℕ) → k < n → after.bit k ≡ M.bit k

-- lowered where the next storage is no older one, and run in a proper memory where its reads are in order: what it means
abbrev pub RunsAs : Tables → Expr → Type 0
RunsAs T e =
    (G : Given) (M : Memory) → Proper M → in_order T M e ≡ true → (d : Data) → eval T G M e ≡ Some d
    → (h : At) (c : Counters) → length T.storages ≤ c.storage → (v : Value) (c' : Counters) (o : Out) → lower_expression T e h c ≡ done v c' o
    → Ran G M c.storage v o d

-- every rightly typed expression whose bools are 0 or 1, as those of a ticket are
abbrev pub WholeRule : Type 0
WholeRule = (T : Tables) → TypesRight T → NeedsOf T → (e : Expr) → typed T e ≡ true → bools_in_range e ≡ true → RunsAs T e

-- the bytes left in the buffer, for every rightly typed expression (`RunsRight` of Demands is the same of a single operation)
abbrev pub RunsWhole : Type 0
RunsWhole =
    (ticket buffer s : List ℕ) (T : Tables) → read_ticket ticket ≡ reading.accepted T → answer ticket (length buffer) ≡ accepted s
    → typed T (root T) ≡ true
    → (G : Given) (M : Memory) → Proper M → in_order T M (root T) ≡ true
    → (d : Data) → eval T G M (root T) ≡ Some d
    → Leaves G M (length T.storages) s d
