-- The entry that a case asks, by its kind: 0 is a mask.
use Rattle.std.specs.Prelude.{ℕ, List, eqb}
use Rattle.spec.specs.Answer.{Answer}
use Rattle.tables.specs.Tables.{pick}
use Rattle.valves.specs.Tickets.{mask_answer, list_answer}

abbrev pub asked : ℕ → ℕ → List ℕ → ℕ → Answer
asked kind n map room = pick (eqb kind 0) (mask_answer n map room) (list_answer n map room)
