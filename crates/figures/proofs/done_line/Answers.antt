-- The word, three numbers, and the line's end: each call takes one field off the list of fields.
use native.Mathlib.Omega.{arith}
use mathlib.Core.Path.{refl, sym, ◌∙◌}
use Rattle.fields.proofs.Marks.{fields_none, fields_some}
use mathlib.Core.Path.{◌≡◌}
use Rattle.spec.specs.Text.{split, comma}
use Rattle.figures.specs.Lines.{counts, bounded, done_of}
use Rattle.figures.proofs.Lines.{behind_one, behind_two, line_no_word, line_word, line_no_number, line_number, no_fourth, three, bounded_in, bounded_first, bounded_second}
use Rattle.figures.proofs.done_line.Goals.{Else-end-line, then-instructions-gt65535-via-then-instructions-gt65535 as first, then-instructions-gt65535-via-else-instructions-gt65535+then-storages-gt65535 as second}
use Rattle.figures.proofs.done_line.Goals as goal

pub returns-in_err-first : goal.returns-in_err-first
returns-in_err-first c = rw c.from_residual.ensures (line_no_word c.args.line.now c.in_err-first.ensures)

pub returns-in_err-instructions : goal.returns-in_err-instructions
unfolding counts
returns-in_err-instructions c =
    let s = c.args.line.now in
    let w = line_word s _ _ c.in_ok-first.ensures in
    rw c.from_residual-in_err-instructions.ensures (line_no_number s _ counts w refl refl c.in_err-instructions.ensures)

pub returns-in_err-storages : goal.returns-in_err-storages
unfolding counts
returns-in_err-storages c =
    let s = c.args.line.now in
    let w = line_word s _ _ c.in_ok-first.ensures in
    let a = line_number s _ counts w _ _ c.in_ok-instructions.ensures in
    rw c.from_residual-in_err-storages.ensures (line_no_number s _ (behind_one c.in_ok-instructions.instructions) a refl refl c.in_err-storages.ensures)

pub returns-in_err-end : goal.returns-in_err-end
unfolding counts
returns-in_err-end c =
    let s = c.args.line.now in
    let w = line_word s _ _ c.in_ok-first.ensures in
    let i = c.in_ok-instructions.instructions in
    let a = line_number s _ counts w _ _ c.in_ok-instructions.ensures in
    let b = line_number s _ (behind_one i) a _ _ c.in_ok-storages.ensures in
    rw c.from_residual-in_err-end.ensures (line_no_number s _ (behind_two i c.in_ok-storages.storages) b refl refl c.in_err-end.ensures)

pub returns-then-end-line : goal.returns-then-end-line
unfolding counts
returns-then-end-line c =
    let s = c.args.line.now in
    let w = line_word s _ _ c.in_ok-first.ensures in
    let i = c.in_ok-instructions.instructions in
    let a = line_number s _ counts w _ _ c.in_ok-instructions.ensures in
    let n = c.in_ok-storages.storages in
    let b = line_number s _ (behind_one i) a _ _ c.in_ok-storages.ensures in
    let d = line_number s _ (behind_two i n) b _ _ c.in_ok-end.ensures in
    no_fourth i n _ _ (fields_some s c.in_ok-end.end (omega (arith, c.if-end-line.true))) ∙ sym d

-- a line of three numbers
counted : (c : Else-end-line) → bounded c.in_ok-instructions.instructions c.in_ok-storages.storages ≡ done_of (split comma c.args.line.now)
unfolding counts
counted c =
    let s = c.args.line.now in
    let w = line_word s _ _ c.in_ok-first.ensures in
    let i = c.in_ok-instructions.instructions in
    let a = line_number s _ counts w _ _ c.in_ok-instructions.ensures in
    let n = c.in_ok-storages.storages in
    let b = line_number s _ (behind_one i) a _ _ c.in_ok-storages.ensures in
    let d = line_number s _ (behind_two i n) b _ _ c.in_ok-end.ensures in
    three i n _ _ (fields_none s c.in_ok-end.end (omega (arith, c.if-end-line.false))) ∙ sym d

pub returns-then-instructions-gt65535 : goal.returns-then-instructions-gt65535
returns-then-instructions-gt65535 c =
    elim c.then-instructions-gt65535.branch [
      | first w ↦ bounded_first _ _ (omega (arith, w.if-instructions-gt65535.true))
      | second w ↦ bounded_second _ _ (omega (arith, w.if-instructions-gt65535.false)) (omega (arith, w.if-storages-gt65535.true))
    ]
    ∙ counted (goal.at.returns-then-instructions-gt65535 c).Else-end-line

pub returns : goal.returns
returns c = bounded_in _ _ (omega (arith, c.if-instructions-gt65535.false)) (omega (arith, c.if-storages-gt65535.false)) ∙ counted (goal.at.returns c).Else-end-line
