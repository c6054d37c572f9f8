use borrow.Author.Rules.{rules}
use lib.Dec.{eqb}
use mathlib.Core.Path.{◌≡◌, sym, ◌∙◌}
use Rattle.std.specs.List.{slice_split, position as place}
use Rattle.spec.specs.Text.{same, comma}
use Rattle.std.proofs.lemmas.Iterator.Search.{position_from_yields_List}
use Rattle.std.proofs.lemmas.Iterator.Splits.{YieldsList-from_slice_split}
use Rattle.fields.proofs.Tests.{tests}
use Rattle.fields.proofs.Lines.{place_among}
use Rattle.fields.proofs.word_place.Goals as goal
use Rattle.fields.proofs.word_place.Goals.{After-position}

found : (c : After-position) → c.position.result ≡ place (λ v. same v c.args.field.now) (slice_split (λ x. eqb x comma) c.args.words.now)
found c =
    position_from_yields_List (λ v. same v c.args.field.now) _ _ _ c.position.ensures.ran
    (YieldsList-from_slice_split _ (λ x. eqb x comma) c.args.words.now c.split.ensures.rest c.split.ensures.done c.split.ensures.closure (λ x b q k. search (rules, tests)))
    (λ x b q k. search (rules, tests))

pub returns-in_err-place : goal.returns-in_err-place
returns-in_err-place c = rw (← place_among) (c.from_residual.ensures ∙ sym c.in_err-place.was ∙ found (goal.at.returns-in_err-place c).After-position)

pub returns : goal.returns
returns c = rw (← place_among) (sym c.in_ok-place.was ∙ found (goal.at.returns c).After-position)
