use Rattle.std.proofs.Common.{◌≡◌, arith, rules}
use Rattle.ticket.proofs.ReadLaws.{same_reader, reader_then, answered_there, none_read, begun, went, lines_begin, lines_next, lines_left}
use Rattle.ticket.specs.Answers.{Begun}
use Rattle.ticket.proofs.reading.read_lines.Goals as goal

pub loop-reader-init : goal.loop-reader-init
loop-reader-init c =
    let e : c.default.result ≡ none_read = search rules in
    let b : Begun c.default.result = rw e begun in
    (same_reader _, b.held _, b.keyed _ _, omega (arith, b.used), omega (arith, b.lines), omega arith, lines_begin _ _ _ _ b)

pub returns-in_err-map_err : goal.returns-in_err-map_err
returns-in_err-map_err c =
    let i = c.loop-reader.invariant in
    let s = reader_then _ _ _ i.0 c.next_line.ensures.same in
    answered_there _ _ _ _ _ _
    (lines_left _ _ _ _ _ _ i.6 _ _ _ _ c.next_line.result c.map_err.result c.from_residual.result _ _ (rw i.0.text at c.next_line.ensures.line) c.map_err.ensures.cases (λ x z q. search rules) c.in_err-map_err.was c.from_residual.ensures.1)
    (search (rules, s.rows)) (search (rules, s.lists))

pub loop-reader-preserved : goal.loop-reader-preserved
loop-reader-preserved c = let i = c.loop-reader.invariant in
    let e = went c.next_line.result c.map_err.result _ _ c.map_err.ensures.cases c.in_ok-map_err.was in
    let a = rw (i.0.text, e) at c.next_line.ensures.line in
    (reader_then _ _ _ i.0 c.next_line.ensures.same, a.ahead.0, a.ahead.1, a.ahead.2, omega arith, a.ahead.5, lines_next _ _ _ _ _ _ i.6 _ _ _ _ a)
