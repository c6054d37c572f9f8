use mathlib.Core.Path.{refl}
use Rattle.std.proofs.Common.{arith}
use Rattle.spec.specs.Read.{in_range}
use Rattle.line_checks.specs.Steps.{earlier_arg}
use Rattle.line_forms.proofs.RuleLaws.{class_by}
use Rattle.line_checks.proofs.CheckLaws.{first_arg, rest_arg, all_more}
use Rattle.line_checks.proofs.checks.look_over.Goals as goal

pub loop-i-preserved : goal.loop-i-preserved
loop-i-preserved c =
    let a = first_arg c.args.form.kind c.args.form.word c.args.numbers.now _ _ _ _ c.split_at.ensures.front c.loop-i-test.true (class_by _ _ _ _ _ c.rule_of-rule.ensures c.class.ensures) in
    (rw c.look.ensures.ranged (all_more in_range _ _ _ _ _ _ refl c.loop-i.invariant.0 a refl), rw c.look.ensures.earlier (all_more (earlier_arg c.args.counts.now) _ _ _ _ _ _ refl c.loop-i.invariant.1 a refl))

pub loop-x-preserved : goal.loop-x-preserved
loop-x-preserved c =
    let a = rest_arg c.args.form.kind c.args.form.word c.args.numbers.now _ _ _ _ c.split_at.ensures.back c.min.ensures c.loop-x-test.true (class_by _ _ _ _ _ c.rule_of-rule.ensures c.class-class.ensures) in
    (rw c.look-in-loop-x.ensures.ranged (all_more in_range _ _ _ _ _ _ (omega arith) c.loop-x.invariant.0 a refl), rw c.look-in-loop-x.ensures.earlier (all_more (earlier_arg c.args.counts.now) _ _ _ _ _ _ (omega arith) c.loop-x.invariant.1 a refl))
