-- A text that is too long is refused unread; then the lists are enough to begin, or too few.
use mathlib.Core.Logic.{⊎_elim}
use native.Mathlib.Omega.{arith}
use Rattle.compiler.proofs.Laws.{answer_unread, text_too_long, unread_few}
use Rattle.compiler.proofs.lower_in.Goals as goal

pub returns-then-ticket-gt-TEXT_LIMIT : goal.returns-then-ticket-gt-TEXT_LIMIT
returns-then-ticket-gt-TEXT_LIMIT c = let a = c.args in let e = text_too_long a.ticket.now c.if-ticket-gt-TEXT_LIMIT.true in record { shown = ((λ w. ⊎_elim (λ x. omega (arith, x.0, c.if-ticket-gt-TEXT_LIMIT.true)) (unread_few e) w), answer_unread a.ticket.now _ _ _ e) }
