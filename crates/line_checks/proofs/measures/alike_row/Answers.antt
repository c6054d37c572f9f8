use Rattle.std.proofs.Common.{arith, sym, ap, ◌∙◌, rules}
use denote.Enum.Bare.{differs_true, differs_false}
use Rattle.spec.specs.Read.{type_number}
use Rattle.line_checks.specs.Words.{word_of}
use Rattle.line_checks.specs.contracts.words.TypeWord.{the_type}
use Rattle.line_checks.proofs.WordLaws.{word_one}
use Rattle.line_checks.proofs.MeasureLaws.{row_other, row_same, row_ends}
use Rattle.line_checks.proofs.measures.alike_row.Goals as goal

pub returns-then-ne : goal.returns-then-ne
returns-then-ne c =
    row_other _ _ _ _ _ _ c.cell.result c.requires.2 c.cell.ensures
    (λ e. differs_true the_type _ _ (sym c.if-ne.ensures) (sym (word_one c.args.word c.from.result (e ∙ sym (ap type_number c.from.ensures)))))

pub returns : goal.returns
returns c = let e = row_ends _ _ _ _ _ c.requires.0 c.requires.2 c.cell-start.ensures c.cell-n.ensures in
    c.eq.ensures
    ∙ row_same _ _ _ _ _ _ c.cell.result c.requires.2 c.cell.ensures (sym (ap word_of (differs_false the_type (search rules) _ _ (sym c.if-ne.ensures))) ∙ c.from.ensures)
    _ _ c.cell-start.ensures c.cell-n.ensures (omega arith)
