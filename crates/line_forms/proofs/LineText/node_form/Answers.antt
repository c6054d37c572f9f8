use mathlib.Core.Path.{refl}
use native.Mathlib.Omega.{arith}
use Rattle.spec.specs.Text.{split, same}
use Rattle.fields.specs.Fields.{position}
use Rattle.line_forms.proofs.LineForms.{node_formed}
use Rattle.line_forms.proofs.Tries.{is_place, spans_right, all_tried}
use Rattle.line_forms.proofs.LineText.node_form.Goals as goal

pub word-requires : goal.word-requires
unfolding spans_right is_place position split same
word-requires c = all_tried _ refl

pub returns-clause-form : goal.returns-clause-form
returns-clause-form c = node_formed _ _ _ _ _ _ _ _ _ _ c.in_ok-ty.ensures c.in_ok-w.ensures (omega (arith, c.in_ok-ty.ensures.ahead, c.in_ok-w.ensures.ahead)) c.numbered.ensures.form
