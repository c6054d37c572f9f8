-- The pieces that are left are looked at one by one.
use Rattle.std.specs.Prelude.{◌≡◌, Ok, Err}
use Rattle.std.proofs.Common.{rules, arith}
use Rattle.selects.proofs.Laws.{rest_none, first_over, second_over, piece_refused, piece_more}
use Rattle.selects.proofs.select_pieces.Goals as goal

pub returns-in_default : goal.returns-in_default
returns-in_default c = first_over c.loop-i.invariant (rw c.count-i-end.ensures at c.loop-i-test.true) c.in_default.ensures.steps.0

pub returns-in_default-next : goal.returns-in_default-next
returns-in_default-next c = second_over c.loop-i.invariant (rw c.count-i-end.ensures at c.loop-i-test.true) c.in-Some.ensures.steps c.in_default-next.ensures.steps.0

pub returns-in_err-select_piece : goal.returns-in_err-select_piece
returns-in_err-select_piece c =
    let x = c.in_err-select_piece.field-0.0 in
    let e : c.select_piece.result ≡ Err x = search rules in
    let f : c.from_residual.result ≡ Err x = search rules in
    rw f (piece_refused c.loop-i.invariant (rw c.count-i-end.ensures at c.loop-i-test.true) c.in-Some.ensures.steps c.in-Some-next.ensures.steps c.select_piece.ensures e)

pub loop-i-preserved : goal.loop-i-preserved
loop-i-preserved c =
    let e : c.select_piece.result ≡ Ok tt = search rules in
    piece_more c.loop-i.invariant (rw c.count-i-end.ensures at c.loop-i-test.true) c.in-Some.ensures.steps c.in-Some-next.ensures.steps c.select_piece.ensures e

pub returns : goal.returns
returns c = rest_none c.loop-i.invariant (omega (arith, c.count-i-end.ensures))
