use Rattle.std.proofs.Common.{◌≡◌, ◌≤◌, ◌-◌, ◌*◌, length, drop}
use Rattle.spec.specs.Text.{split, line_feed}
use Rattle.spec.specs.Read.{read_lines, start}
use Rattle.line_checks.specs.Rows.{Held, reading_of}
use Rattle.line_checks.specs.Keys.{Keyed}
use Rattle.ticket.specs.Answers.{SameReader}
use Rattle.ticket.proofs.reading.read_lines.Given as goal

abbrev pub invariant-loop-reader : goal.invariant-loop-reader
invariant-loop-reader l = let r = l.reader in
    SameReader l.initial.reader r
    × Held r.rows.now r.counts × Keyed r.rows.now r.lists.now r.counts.types
    × (r.counts.used * 2 ≤ r.at) × (r.counts.lines ≤ r.at) × (r.at ≤ length l.text)
    × (read_lines (split line_feed l.text) start ≡ read_lines (split line_feed (drop r.at l.text)) (reading_of r.rows.now r.lists.now r.counts))

abbrev pub decreases-loop-reader : goal.decreases-loop-reader
decreases-loop-reader l = length l.text - l.reader.at
