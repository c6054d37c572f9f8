use Rattle.std.proofs.Common.{sym, ◌∙◌, arith}
use Rattle.std.proofs.lemmas.Result.{err_from_is_err_and}
use Rattle.blocks.specs.Blocks.{all_mirrored}
use Rattle.blocks.proofs.Answering.{refused, turned}
use Rattle.blocks.proofs.Filling.{filled_none, filled_more, filled_all}
use Rattle.blocks.proofs.Mirroring.{table_is, length_mirrored, mirrored_at}
use Rattle.blocks.proofs.mirror.Goals as goal

pub returns-in_err-judge : goal.returns-in_err-judge
returns-in_err-judge c =
    let p = err_from_is_err_and c.from_residual.result c.from_residual.ensures.1 in
    rw (p.1, p.2) (refused all_mirrored c.args.input.now c.args.output.now c.in_err-judge.field-0.0 c.in_err-judge.ensures)

pub loop-k-init : goal.loop-k-init
loop-k-init c = filled_none _ _ (rw (length_mirrored c.args.input.now) c.in_ok-judge.ensures.fits.1)

pub loop-k-preserved : goal.loop-k-preserved
loop-k-preserved c = filled_more c.loop-k.invariant (omega (arith, length_mirrored c.args.input.now)) (table_is.entry c.from.result (omega (arith, c.type_inv.input c.loop-k.k)) ∙ rw c.from.ensures (sym (mirrored_at c.args.input.now c.loop-k.k (omega arith))))

pub returns : goal.returns
returns c = turned all_mirrored c.args.input.now c.args.output.now c.loop-k.output c.in_ok-judge.ensures (length_mirrored c.args.input.now) (filled_all c.loop-k.invariant (omega (arith, length_mirrored c.args.input.now)))
