-- The code's answers as the definitions': where a line lies, and the part of a text that is handed back.
use Rattle.std.specs.Prelude.{ℕ, ◌+◌, ◌≤◌, ◌≡◌, List, [], length, take, drop}
use Rattle.std.specs.Prelude.{Option, None, Some, option_map, Result, Ok, Err, IfOk, IfErr}
use Rattle.std.specs.Borrow.{Bor}
use Rattle.answers.specs.declared.Refused.{Refused}
use Rattle.lines.specs.Lines.{Line, Answer, of_ticket, of_listing, missing, number}
use Rattle.lines.specs.declared.Place.{Place}
use Rattle.lines.specs.declared.Refusal.{Refusal}

abbrev pub refusal_number : Refusal → ℕ
refusal_number Refusal.NoLine = 34

-- from its first byte to the one behind its last, its line feed
abbrev pub span_of : Option Line → Option (ℕ × ℕ)
span_of = option_map (λ l. (l.from, l.from + length l.bytes))

abbrev pub place_of : Answer → Option Place
place_of (of_ticket l) = Some (Place.Ticket l.from (l.from + length l.bytes))
place_of (of_listing l) = Some (Place.Listing l.from (l.from + length l.bytes))
place_of missing = None

-- r is a part of the text s, in the same memory: the bytes of the line l, at its place
pub record Part (s r : Bor (List ℕ)) (l : Line) : Type 0 where
  pub bytes : r.now ≡ l.bytes
  pub within : l.from + length l.bytes ≤ length s.now
  pub there : r.now ≡ take (length l.bytes) (drop l.from s.now)
  pub block : r.ref_ptr.0 ≡ s.ref_ptr.0
  pub offset : r.ref_ptr.1 ≡ s.ref_ptr.1 + l.from

-- where no line is found, the part is the empty one in front of the ticket
abbrev pub part_of : Bor (List ℕ) → Bor (List ℕ) → Bor (List ℕ) → Answer → Type 0
part_of ticket listing r (of_ticket l) = Part ticket r l
part_of ticket listing r (of_listing l) = Part listing r l
part_of ticket listing r missing = Part ticket r (record { from = 0; bytes = [] })

-- the refusal's number; 0 where a part is handed back
abbrev pub told : Result (Bor (List ℕ)) (Refused Refusal) → ℕ
told (Ok r) = 0
told (Err e) = refusal_number e.refusal

-- no buffer is filled, and so this is no `AnswersBy` (crates/answers): the answer a: its part, or the refusal's number for line 0
pub record Handed (a : Answer) (ticket listing : Bor (List ℕ)) (r : Result (Bor (List ℕ)) (Refused Refusal)) : Type 0 where
  pub part : IfOk r (λ x. part_of ticket listing x a)
  pub number : told r ≡ number a
  pub line : IfErr r (λ e. e.line ≡ 0)
