use Rattle.std.proofs.Common.{rules}
use Rattle.ticket.proofs.ReadLaws.{joined_by, row_marked, row_left}
use Rattle.ticket.proofs.reading.with_row.Goals as goal

pub returns-then-cell-ne0 : goal.returns-then-cell-ne0
returns-then-cell-ne0 c = row_marked _ _ _ _ _ _ c.requires.1 c.cell.ensures c.if-cell-ne0.true

pub returns : goal.returns
returns c =
    row_left _ _ _ _ _ _ _ _ c.requires.1 c.cell.ensures c.if-cell-ne0.false c.cell-line.ensures (joined_by _ _ _ _ c.map_or.ensures (λ y q. search rules))
