-- Worked tickets with their answers, and what it is that all of a list hold.
use Prim.Native.Nat.{ℕ}
use Prim.Native.String.{String}
use mathlib.Core.List.{List, map}
use mathlib.Core.Path.{◌≡◌}
use Rattle.spec.specs.Text.{text}
use Rattle.spec.specs.Answer.{answer, Answer, refused, accepted}

pub record Case : Type 0 where
  pub ticket : List String
  pub room : ℕ
  pub answered : Answer

abbrev pub gives : List String → List String → Case
gives t o = record { ticket = t; room = 65536; answered = accepted (text o) }

abbrev pub refuses : List String → ℕ → ℕ → Case
refuses t n l = record { ticket = t; room = 65536; answered = refused n l }

abbrev pub answer_to : Case → Answer
answer_to c = answer (text c.ticket) c.room

abbrev pub expected : Case → Answer
expected c = c.answered

abbrev pub Hold : List Case → Type 0
Hold cs = map answer_to cs ≡ map expected cs
