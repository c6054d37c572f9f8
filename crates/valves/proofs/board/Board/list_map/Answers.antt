-- The invariant: the fields passed make the number so far, and what is left goes on from the last valve.
use borrow.Author.Rules.{rules}
use mathlib.Core.List.{map, ◌∷◌, []}
use Rattle.spec.specs.Text.{split, comma}
use Rattle.std.proofs.lemmas.List.{map-append}
use Rattle.fields.proofs.Tests.{tests}
use Rattle.valves.proofs.Fields.{At, here, ended}
use Rattle.valves.proofs.Lists.{list_is, passed_none, passed_all, passed_bad, passed_wrong, passed_more}
use Rattle.valves.proofs.board.Board.list_map.Goals.{In-Some}
use Rattle.valves.proofs.board.Board.list_map.Goals as goal

pub loop-field-init : goal.loop-field-init
loop-field-init c = passed_none _

turn : (c : In-Some) → At (split comma c.args.list.now) (map (λ x. x.now) c.loop-field.yielded) c.in-Some.field.now
turn c = here _ _ _ _ c.loop-field.yielded_by c.args.list.now (search rules) (search rules) (search rules) (λ x b q k. search (rules, tests)) _ _ _ c.in-Some.is c.next.ensures.steps

pub returns-in_err-v : goal.returns-in_err-v
returns-in_err-v c =
    rw (c.from_residual.ensures, list_is c.args.list.now (search rules)) (passed_bad _ _ _ _ c.loop-field.invariant _ _ (turn (goal.at.returns-in_err-v c).In-Some) c.in_err-v.ensures)

pub returns-then-v-last : goal.returns-then-v-last
returns-then-v-last c =
    rw (list_is c.args.list.now (search rules)) (passed_wrong _ _ _ _ c.loop-field.invariant _ _ (turn (goal.at.returns-then-v-last c).In-Some) _ c.in_ok-v.ensures c.then-v-last.either)

pub loop-field-preserved : goal.loop-field-preserved
loop-field-preserved c = rw (map-append (λ x. x.now) c.loop-field.yielded (c.in-Some.field ∷ [])) (passed_more _ _ _ _ c.loop-field.invariant _ _ c.in_ok-v.ensures c.if-v-last.false c.if-self-v.false c.args.self.fits)

pub returns : goal.returns
returns c =
    let e = ended _ _ _ _ c.loop-field.yielded_by c.args.list.now (search rules) (search rules) (search rules) (λ x b q k. search (rules, tests)) _ _ c.in-None.is c.next.ensures.steps in
    rw (list_is c.args.list.now (search rules), e) (passed_all _ _ _ _ c.loop-field.invariant)
