use mathlib.Core.Path.{◌∙◌}
use native.Mathlib.Omega.{arith}
use Rattle.line_forms.proofs.KindLaws.{byte_none, byte_first}
use Rattle.line_forms.proofs.first_byte.Goals.{else-line-gt1-via-then-line-gt1+else-line-ne44, else-line-gt1-via-else-line-gt1}
use Rattle.line_forms.proofs.first_byte.Goals as goal

pub returns-then-line-ne44 : goal.returns-then-line-ne44
returns-then-line-ne44 c = byte_none _ c.if-line-gt1.true c.if-line-ne44.true

pub returns : goal.returns
returns c =
    byte_first _ _ (c.copied.ensures ∙ c.first.ensures.value)
    (elim c.else-line-gt1.branch [
      | else-line-gt1-via-then-line-gt1+else-line-ne44 w ↦ λ h. w.if-line-ne44.false
      | else-line-gt1-via-else-line-gt1 w ↦ λ h. absurd (omega arith)
    ])
