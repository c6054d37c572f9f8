use Rattle.std.proofs.Common.{◌≡◌, ◌-◌}
use Rattle.tables.specs.Tables.{tab, row_of}
use Rattle.spec.specs.Read.{alike}
use Rattle.line_checks.specs.Rows.{section, type_row, row_at}
use Rattle.line_checks.specs.Words.{word_of}
use Rattle.line_checks.proofs.measures.alike.Given as goal

abbrev pub invariant-loop-k : goal.invariant-loop-k
invariant-loop-k l = alike (word_of l.word) l.numbers (section (type_row l.lists) l.rows 0 l.counts.types)
    ≡ alike (word_of l.word) l.numbers (tab (λ i. type_row l.lists (row_at l.rows (row_of 0 i))) l.k (l.counts.types - l.k))
