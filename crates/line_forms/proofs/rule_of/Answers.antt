use mathlib.Core.Path.{refl}
use Rattle.line_forms.proofs.RuleLaws.{types_rule, places_rule, nodes_rule}
use Rattle.line_forms.proofs.rule_of.Goals as goal

pub returns-in-Types : goal.returns-in-Types
returns-in-Types c = types_rule _ _ _ _ _ c.in-Types.is c.rule_in.ensures refl refl

pub returns-in-Places : goal.returns-in-Places
returns-in-Places c = places_rule _ _ _ _ _ c.in-Places.is c.rule_in-in-Places.ensures refl refl

pub returns-in-Nodes : goal.returns-in-Nodes
returns-in-Nodes c = nodes_rule _ _ _ _ _ c.in-Nodes.is c.rule_in-in-Nodes.ensures refl refl
