use mathlib.Core.Path.{refl}
use native.Mathlib.Omega.{arith}
use Rattle.line_forms.proofs.RuleLaws.{class_here, class_past}
use Rattle.line_forms.proofs.Rule.class.Goals as goal

pub returns-in-Some : goal.returns-in-Some
returns-in-Some c = let at = c.in-Some.ensures.lookup.3 in class_here c.args.self.now _ _ at.0 at.1

pub returns-in-None : goal.returns-in-None
returns-in-None c = class_past c.args.self.now _ _ _ (omega (arith, c.in-None.ensures.lookup)) c.unwrap_or.ensures refl
