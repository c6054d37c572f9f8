use mathlib.Core.Path.{refl}
use Rattle.spec.specs.Text.{split, same}
use Rattle.fields.specs.Fields.{position}
use Rattle.line_forms.proofs.LineForms.{type_not, place_not}
use Rattle.line_forms.proofs.Tries.{is_place, spans_right, all_tried}
use Rattle.line_forms.proofs.LineText.form_of.Goals as goal

pub word-requires : goal.word-requires
unfolding spans_right is_place position split same
word-requires c = all_tried _ refl

pub word-requires-in-Places : goal.word-requires-in-Places
unfolding spans_right is_place position split same
word-requires-in-Places c = all_tried _ refl

pub returns-in_err-w-in-Types-clause-form : goal.returns-in_err-w-in-Types-clause-form
returns-in_err-w-in-Types-clause-form c = rw c.from_residual.ensures (type_not _ _ _ _ _ c.in-Types.is c.in_err-w-in-Types.ensures)

pub returns-in_err-w-in-Places-clause-form : goal.returns-in_err-w-in-Places-clause-form
returns-in_err-w-in-Places-clause-form c = rw c.from_residual-in_err-w-in-Places.ensures (place_not _ _ _ _ _ c.in-Places.is c.in_err-w-in-Places.ensures)
