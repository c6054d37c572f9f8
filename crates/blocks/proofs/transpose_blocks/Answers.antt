use Rattle.std.proofs.Common.{arith}
use Rattle.std.proofs.lemmas.Result.{err_from_is_err_and}
use Rattle.blocks.specs.Shown.{turned as turned_by}
use Rattle.blocks.proofs.Answering.{refused, turned}
use Rattle.blocks.proofs.Squares.{squares_none}
use Rattle.blocks.proofs.Directions.{length_turned, turned_more, turned_all}
use Rattle.blocks.proofs.transpose_blocks.Goals as goal

pub returns-in_err-judge : goal.returns-in_err-judge
returns-in_err-judge c =
    let p = err_from_is_err_and c.from_residual.result c.from_residual.ensures.1 in
    rw (p.1, p.2) (refused (turned_by c.args.way) c.args.input.now c.args.output.now c.in_err-judge.field-0.0 c.in_err-judge.ensures)

pub loop-t-init : goal.loop-t-init
loop-t-init c = squares_none (rw (length_turned c.args.way c.args.input.now) c.in_ok-judge.ensures.fits.1)

pub loop-t-preserved : goal.loop-t-preserved
loop-t-preserved c = turned_more c.args.way c.args.input.now (record { below = λ j. omega (arith, c.type_inv.input j) }) c.in_ok-judge.ensures.fits.0 c.loop-t-test.true _ c.places.ensures c.transpose_word.ensures c.read_word-word.ensures c.loop-t.invariant c.write_word.ensures

pub returns : goal.returns
returns c = turned (turned_by c.args.way) c.args.input.now c.args.output.now c.loop-t.output c.in_ok-judge.ensures (length_turned c.args.way c.args.input.now) (turned_all c.args.way c.args.input.now c.args.output.now c.loop-t.output c.loop-t.t c.loop-t.invariant (omega arith) c.in_ok-judge.ensures.fits.0)
