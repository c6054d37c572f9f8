-- The line of storage k: the ticket's k-th that begins `s,`, else the listing's first that begins `storage,k,` (change request E13).
use Rattle.std.specs.Prelude.{ℕ, ◌+◌, Bool, true, false, List, ◌∷◌, ◌++◌, [], length, take, slice_get}
use Rattle.std.specs.Prelude.{Option, None, Some}
use Rattle.spec.specs.Text as text

-- a line of a text: where it starts, and its bytes without the line feed
pub record Line : Type 0 where
  pub from : ℕ
  pub bytes : List ℕ

-- the pieces that a line feed ends, the first at p: the last piece has none, and is no line
unfoldable pub placed : ℕ → List (List ℕ) → List Line
placed p [] = []
placed p (w ∷ []) = []
placed p (w ∷ v ∷ ws) = record { from = p; bytes = w } ∷ placed (p + length w + 1) (v ∷ ws)

-- all lines of a text
unfoldable pub lines : List ℕ → List Line
lines s = placed 0 (text.split text.line_feed s)

-- the bytes w stand in front
unfoldable pub begins : List ℕ → List ℕ → Bool
begins w s = text.same (take (length w) s) w

-- those that begin with w
unfoldable pub beginning : List ℕ → List Line → List Line
beginning w [] = []
beginning w (l ∷ ls) = elim (begins w l.bytes) [ true ↦ l ∷ beginning w ls | false ↦ beginning w ls ]

-- the k-th line that begins with w, counted from 0
unfoldable pub nth_line : List ℕ → List ℕ → ℕ → Option Line
nth_line s w k = slice_get (beginning w (lines s)) k

-- `storage,k,`
unfoldable pub storage_start : ℕ → List ℕ
storage_start k = text.bytes "storage," ++ text.digits k ++ text.comma ∷ []

-- a line of the ticket, a line of the listing, or none
pub data Answer : Type 0 where
  of_ticket : Line → Answer
  of_listing : Line → Answer
  missing : Answer

-- the ticket is asked first
abbrev pub chosen : Option Line → Option Line → Answer
chosen (Some l) o = of_ticket l
chosen None (Some l) = of_listing l
chosen None None = missing

unfoldable pub storage_line : List ℕ → List ℕ → ℕ → Answer
storage_line ticket listing k = chosen (nth_line ticket (text.bytes "s,") k) (nth_line listing (storage_start k) 0)

-- the refusal's number; 0 where a line was found
abbrev pub number : Answer → ℕ
number (of_ticket l) = 0
number (of_listing l) = 0
number missing = 34
