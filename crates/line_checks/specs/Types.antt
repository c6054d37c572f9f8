-- What is read of the types' rows.
use Rattle.std.specs.Prelude.{ℕ, List}
use Rattle.tables.specs.Tables.{cell}
use Rattle.line_checks.specs.declared.types.Part.{Part}

-- a part of type t of n: of one that there is not, size 0 and weight 1
abbrev pub part_of : List ℕ → ℕ → Part → ℕ → ℕ
part_of ws n Part.Size t = cell ws 0 n t 3 0
part_of ws n Part.Weight t = cell ws 0 n t 4 1
