-- A comma, then a number.
use mathlib.Core.Path.{sym}
use Rattle.std.proofs.lemmas.Option.{cond_some}
use borrow.Author.Rules.{rules}
use Rattle.text.specs.Field.{byte_at, next_number_at}
use Rattle.text.proofs.next_number.Goals as goal

pub returns-in_err-expect : goal.returns-in_err-expect
unfolding byte_at next_number_at
returns-in_err-expect c = search rules

pub returns : goal.returns
unfolding byte_at next_number_at
returns c = let at = cond_some _ _ _ (sym c.in_ok-expect.ensures) in rw at.0 (rw (← at.1) at c.number.ensures)
