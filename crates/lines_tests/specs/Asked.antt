-- What a case expects: where the line stands, and the part that is handed back. Text 0 is the ticket, 1 the listing, any other neither.
use Rattle.std.specs.Prelude.{ℕ, ◌-◌, ◌≡◌, Bool, true, ◌&&◌, List, [], eqb, take, drop, if◌then◌else◌, Option, None, Some, Result, Ok, Err}
use Rattle.lines.specs.Lines.{Answer, of_ticket, of_listing, missing, number, storage_line}
use Rattle.lines.specs.Handed.{place_of}
use Rattle.lines.specs.declared.Place.{Place}
use Rattle.cases.specs.declared.Broken.{Broken}

abbrev pub stands : ℕ → ℕ → ℕ → Option Place → Bool
stands text from to (Some (Place.Ticket a b)) = eqb text 0 && (eqb a from && eqb b to)
stands text from to (Some (Place.Listing a b)) = eqb text 1 && (eqb a from && eqb b to)
stands text from to None = eqb text 2

abbrev pub between : ℕ → ℕ → List ℕ → List ℕ
between from to s = take (to - from) (drop from s)

abbrev pub part : List ℕ → List ℕ → ℕ → ℕ → ℕ → List ℕ
part ticket listing text from to = if eqb text 0 then between from to ticket else (if eqb text 1 then between from to listing else [])

abbrev pub refusal : ℕ → ℕ
refusal text = if eqb text 0 then 0 else (if eqb text 1 then 0 else 34)

-- the same, of the place that a head's numbers name, if they name one
abbrev pub place_at : ℕ → ℕ → ℕ → Result (Option Place) Broken
place_at text from to =
    if eqb text 0 then Ok (Some (Place.Ticket from to)) else (if eqb text 1 then Ok (Some (Place.Listing from to)) else (if eqb text 2 then Ok None else Err (record {})))

abbrev pub part_at : List ℕ → List ℕ → Option Place → List ℕ
part_at ticket listing (Some (Place.Ticket from to)) = between from to ticket
part_at ticket listing (Some (Place.Listing from to)) = between from to listing
part_at ticket listing None = []

abbrev pub refusal_at : Option Place → ℕ
refusal_at (Some p) = 0
refusal_at None = 34

abbrev pub bytes_of : Answer → List ℕ
bytes_of (of_ticket l) = l.bytes
bytes_of (of_listing l) = l.bytes
bytes_of missing = []

-- a part that is as expected says what the definition's answer is
pub record Gives (a : Answer) (bytes : List ℕ) (refusal : ℕ) (r : Bool) : Type 0 where
  pub bytes_are : r ≡ true → bytes_of a ≡ bytes
  pub number_is : r ≡ true → number a ≡ refusal

-- and a case that holds says where its line stands, too
pub record Holds (ticket listing : List ℕ) (k text from to : ℕ) (r : Bool) : Type 0 where
  pub place : r ≡ true → stands text from to (place_of (storage_line ticket listing k)) ≡ true
  pub given : Gives (storage_line ticket listing k) (part ticket listing text from to) (refusal text) r
