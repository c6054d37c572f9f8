-- The tables of a readable ticket, as the definitions have them.
use Rattle.spec.specs.Ticket as spec
use Rattle.tables.specs.Tables.{tables_of}
use Rattle.tables.specs.declared.lookups.Lines.{Lines}

abbrev pub ticket_of : Lines → spec.Tables
ticket_of t = tables_of t.rows.now t.lists.now t.counts
