-- The types of an aggregate's parts, and the room that reading a type wants.
use Rattle.std.specs.Prelude.{◌≡◌, List, ℕ, ◌+◌, ◌*◌, ◌≤◌, length, get_or}
use Rattle.spec.specs.Hir as hir
use Rattle.spec.specs.Ticket.{Tables, type_at, sum}
use Rattle.emission.specs.Appends.{Room}
use Rattle.tables.specs.Tables.{tab}
use Rattle.values.specs.declared.Lowering.{Lowering}
use Rattle.reads.specs.declared.At.{At}
use Rattle.reads.specs.declared.Parts.{Parts}

abbrev pub at_of : At → hir.At
at_of h = record { line = h.line; node = h.node.0; ty = h.ty }

-- the type of part i
abbrev pub part_type : List ℕ → Parts → ℕ → ℕ
part_type lists (Parts.Elements t) i = t
part_type lists (Parts.Fields a) i = get_or lists (a + i) 0

-- the types of n parts from part i on
unfoldable pub part_types : List ℕ → Parts → ℕ → ℕ → List ℕ
part_types lists p i n = tab (part_type lists p) i n

-- ---------------------------------------------------------------- room

module _ (T : Tables) where
  abbrev pub size_of : ℕ → ℕ
  size_of t = (type_at T t).size

  abbrev pub weight_of : ℕ → ℕ
  weight_of t = (type_at T t).weight

-- to read a type from byte o on in a step of node n: a storage and an instruction for each byte, with one to spare as the counters stand between the two,
-- and a record for each value but the first
pub record TypeRoom (T : Tables) (n ty o : ℕ) (l : Lowering) : Type 0 where
  pub node : n ≡ l.out.node.0
  pub room : Room (size_of T ty + 1) l.out
  pub top : l.top + 8 * weight_of T ty ≤ length l.stack.now + 8
  pub reach : o + size_of T ty ≤ 4294967296

-- for node n's own step at the type ty: more of each counter than any step uses, and the records of a value of that type but the first.
-- Asked call by call, as `Room`: what a step uses up is gone for the next.
pub record StepRoom (T : Tables) (n ty : ℕ) (l : Lowering) : Type 0 where
  pub node : n ≡ l.out.node.0
  pub room : Room 4096 l.out
  pub top : l.top + 8 * weight_of T ty ≤ length l.stack.now + 8

-- to read parts of the types ts: a record for each value
pub record PartsRoom (T : Tables) (n : ℕ) (ts : List ℕ) (o : ℕ) (l : Lowering) : Type 0 where
  pub node : n ≡ l.out.node.0
  pub room : Room (sum (size_of T) ts + 1) l.out
  pub top : l.top + 8 * sum (weight_of T) ts ≤ length l.stack.now
  pub reach : o + sum (size_of T) ts ≤ 4294967296
