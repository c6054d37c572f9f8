use mathlib.Core.Path.{refl}
use Rattle.std.proofs.Common.{arith}
use Rattle.line_checks.specs.Steps.{args_in}
use Rattle.line_forms.proofs.RuleLaws.{class_by}
use Rattle.line_checks.proofs.CheckLaws.{first_arg, first_in, rest_arg, rest_in}
use Rattle.line_checks.proofs.MarkLaws.{marks_none, marks_next, marks_stop}
use Rattle.line_checks.proofs.checks.mark_all.Goals as goal

pub loop-i-init : goal.loop-i-init
loop-i-init c = marks_none _ _ _

pub returns-in_err-most : goal.returns-in_err-most
unfolding args_in
returns-in_err-most c =
    let a = first_arg c.args.form.kind c.args.form.word c.args.numbers.now _ _ _ _ c.split_at.ensures.front c.loop-i-test.true (class_by _ _ _ _ _ c.rule_of-rule.ensures c.class.ensures) in
    rw c.from_residual.ensures (marks_stop _ _ _ _ _ _ _ _ c.loop-i.invariant a _ (first_in _ _ _ _ c.split_at.ensures.front c.loop-i-test.true) c.in_err-most.ensures)

pub loop-i-preserved : goal.loop-i-preserved
loop-i-preserved c =
    let a = first_arg c.args.form.kind c.args.form.word c.args.numbers.now _ _ _ _ c.split_at.ensures.front c.loop-i-test.true (class_by _ _ _ _ _ c.rule_of-rule.ensures c.class.ensures) in
    marks_next _ _ _ _ _ _ _ _ c.loop-i.invariant a _ _ refl c.in_ok-most.ensures

pub returns-in_err-most-2 : goal.returns-in_err-most-2
unfolding args_in
returns-in_err-most-2 c =
    let a = rest_arg c.args.form.kind c.args.form.word c.args.numbers.now _ _ _ _ c.split_at.ensures.back c.min.ensures c.loop-x-test.true (class_by _ _ _ _ _ c.rule_of-rule.ensures c.class-class.ensures) in
    rw c.from_residual-in_err-most-2.ensures (marks_stop _ _ _ _ _ _ _ _ c.loop-x.invariant a _ (rest_in _ _ _ _ c.split_at.ensures.back c.min.ensures c.loop-x-test.true) c.in_err-most-2.ensures)

pub loop-x-preserved : goal.loop-x-preserved
loop-x-preserved c =
    let a = rest_arg c.args.form.kind c.args.form.word c.args.numbers.now _ _ _ _ c.split_at.ensures.back c.min.ensures c.loop-x-test.true (class_by _ _ _ _ _ c.rule_of-rule.ensures c.class-class.ensures) in
    marks_next _ _ _ _ _ _ _ _ c.loop-x.invariant a _ _ (omega arith) c.in_ok-most-2.ensures
