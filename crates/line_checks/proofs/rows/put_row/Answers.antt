use Rattle.line_checks.proofs.RowLaws.{put_row}
use Rattle.line_checks.proofs.rows.put_row.Goals as goal

pub returns : goal.returns
returns c = put_row c.args.rows.now _ _ c.args.row c.requires.1 c.copy_from_slice.ensures.after
