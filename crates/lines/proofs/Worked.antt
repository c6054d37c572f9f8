-- Document 01's printed case, and what sets a line apart from those that look like it: one list with one claim that is computed.
use mathlib.Core.List.{List, ◌∷◌, map, []}
use mathlib.Core.Path.{◌≡◌, refl}
use Prim.Native.Nat.{ℕ}
use Prim.Native.String.{String}
use Rattle.spec.specs.Text.{bytes, text, split, same, digits, digits_in}
use Rattle.lines.specs.Lines.{Answer, of_ticket, of_listing, missing, placed, lines, begins, beginning, nth_line, storage_start, storage_line}

-- a ticket, a listing, a storage and its line
pub record Case : Type 0 where
  pub ticket : List ℕ
  pub listing : List ℕ
  pub storage : ℕ
  pub line : Answer

abbrev in_ticket : ℕ → String → Answer
in_ticket p s = of_ticket (record { from = p; bytes = bytes s })

abbrev in_listing : ℕ → String → Answer
in_listing p s = of_listing (record { from = p; bytes = bytes s })

-- the printed case
abbrev printed : ℕ → Answer → Case
printed k a =
    record {
      ticket = text ("f,0,0" ∷ "t,bool" ∷ "t,pointer" ∷ "t,bits,9" ∷ "s,2,2,1,36" ∷ "v,0,0,2,0" ∷ "p,variable,0" ∷ "n,2,read,0" ∷ "n,2,int,12" ∷ "n,2,binary,0,0,1" ∷ []);
      listing = text ("storage,1,2,2,0,0,36" ∷ "storage,2,3,0,1,1,2" ∷ "i,add,1.0,0.0,#12,-,2" ∷ "i,add,1.1,0.1,#0,2,-" ∷ "i,and,1.1,1.1,#1" ∷ "value,2,bytes,2,1.0,1.1" ∷ "done,3,2,2" ∷ []);
      storage = k;
      line = a;
    }

unfoldable pub worked : List Case
worked =
    printed 0 (in_ticket 32 "s,2,2,1,36") ∷
    printed 1 (in_listing 0 "storage,1,2,2,0,0,36") ∷
    printed 2 (in_listing 21 "storage,2,3,0,1,1,2") ∷
    printed 3 missing ∷
    -- storage 1 beside storage 12, and twice: the first line of its own
    record { ticket = []; listing = text ("storage,12,1,0,0,0,36" ∷ "storage,1,1,0,0,0,36" ∷ "storage,1,2,2,0,0,36" ∷ []); storage = 1; line = in_listing 22 "storage,1,1,0,0,0,36" } ∷
    -- no comma behind the number
    record { ticket = []; listing = text ("storage,1" ∷ []); storage = 1; line = missing } ∷
    -- the ticket before the listing, and lines that begin otherwise between its own
    record { ticket = text ("s,1" ∷ "t,s," ∷ "s,2" ∷ []); listing = text ("storage,1,9" ∷ []); storage = 1; line = in_ticket 9 "s,2" } ∷
    -- no line feed behind the last
    record { ticket = bytes "s,1"; listing = bytes "storage,0,1"; storage = 0; line = missing } ∷
    -- nothing at all
    record { ticket = []; listing = []; storage = 0; line = missing } ∷
    []

pub the_worked_hold : map (λ c. storage_line c.ticket c.listing c.storage) worked ≡ map (λ c. c.line) worked
unfolding split same digits digits_in placed lines begins beginning nth_line storage_start storage_line worked
the_worked_hold = refl
