-- Fields at positions of a text, and the numbers and words in them.
use Rattle.std.specs.Prelude.{ℕ, ◌+◌, Bool, true, false, ◌&&◌, cond, ◌||◌, List, ◌∷◌, [], eqb, ltb, length, drop, get_or}
use Rattle.std.specs.Prelude.{Option, None, Some}
use Rattle.spec.specs.Text.{comma, line_feed, split, number}

-- a comma or a line feed
abbrev pub ends_field : ℕ → Bool
ends_field b = eqb b comma || eqb b line_feed

-- the bytes in front of the first comma or line feed
unfoldable pub front : List ℕ → List ℕ
front [] = []
front (b ∷ s) = elim (ends_field b) [ true ↦ [] | false ↦ b ∷ front s ]

-- the field that starts at a position
unfoldable pub field_at : List ℕ → ℕ → List ℕ
field_at s at = front (drop at s)

-- the position of the byte that ends it, or the text's end
unfoldable pub field_end : List ℕ → ℕ → ℕ
field_end s at = at + length (field_at s at)

-- ---------------------------------------------------------------- a line and its fields

unfoldable pub front_line : List ℕ → List ℕ
front_line [] = []
front_line (b ∷ s) = elim (eqb b line_feed) [ true ↦ [] | false ↦ b ∷ front_line s ]

-- what is left of a line from a position on, without its line feed
unfoldable pub line_at : List ℕ → ℕ → List ℕ
line_at s at = front_line (drop at s)

-- the position of the line feed that ends it, or the text's end
unfoldable pub line_end : List ℕ → ℕ → ℕ
line_end s at = at + length (line_at s at)

-- its fields
unfoldable pub parts_at : List ℕ → ℕ → List (List ℕ)
parts_at s at = split comma (line_at s at)

-- ---------------------------------------------------------------- what the readers answer

-- a value and the position behind it
abbrev pub with_next : Option ℕ → ℕ → Option (ℕ × ℕ)
with_next None next = None
with_next (Some v) next = Some (v, next)

-- the number that the field at a position is
unfoldable pub number_at : List ℕ → ℕ → Option (ℕ × ℕ)
number_at s at = with_next (number (field_at s at)) (field_end s at)

-- the byte b at a position
abbrev pub stands : List ℕ → ℕ → ℕ → Bool
stands s at b = ltb at (length s) && eqb (get_or s at 0) b

unfoldable pub byte_at : List ℕ → ℕ → ℕ → Option ℕ
byte_at s at b = cond (stands s at b) (Some (at + 1)) None

-- a comma at a position, and a number behind it
unfoldable pub next_number_at : List ℕ → ℕ → Option (ℕ × ℕ)
next_number_at s at = cond (stands s at comma) (number_at s (at + 1)) None
