-- Keys of types: a number from a type's word and its numbers, the same for types that are alike. Of each 40 words 36 are rows, and the
-- 4 behind all rows, as far as types may be, say which keys the types have, so that a type of a new key need not be compared with the others.
use Rattle.std.specs.Prelude.{ℕ, ◌+◌, ◌*◌, ◌/◌, ◌%◌, ◌<◌, ◌≡◌, Bool, true, ◌||◌, List, ◌∷◌, [], eqb, leb, length, get_or, set}
use Rattle.tables.specs.Tables.{pick, row_of, type_word_by}
use Rattle.spec.specs.Limits.{type_lines}
use Rattle.spec.specs.Read.{type_number}
use Rattle.line_checks.specs.Rows.{row_at, numbers}
use Rattle.line_checks.specs.declared.rows.Row.{Row}

-- numbers taken into a key
unfoldable pub key_from : ℕ → List ℕ → ℕ
key_from h [] = h
key_from h (x ∷ xs) = key_from ((h * 31 + x % 4294967296) % 4294967296) xs

unfoldable pub key_of : ℕ → List ℕ → ℕ
key_of w xs = key_from (w % 4294967296) xs

-- for how many lines n words have words for keys: as many as they have rows for, but no more than types may be
unfoldable pub key_lines : ℕ → ℕ
key_lines n = pick (leb (n / 40) type_lines) (n / 40) type_lines

-- the row of n words in which a key's word stands, behind the rows of lines
unfoldable pub key_row : ℕ → ℕ → ℕ
key_row n h = n / 40 * 6 + h % (key_lines n * 3) / 5

-- and its place in this row: not the last, where marks are
unfoldable pub key_place : ℕ → ℕ → ℕ
key_place n h = h % (key_lines n * 3) % 5

abbrev pub slot_of : ℕ → ℕ → ℕ
slot_of n h = key_row n h * 6 + key_place n h

-- whether a key's word speaks of the key: it is 0 for no key, 1 for several, and 2 more than the key for one
abbrev pub stands : ℕ → ℕ → Bool
stands f h = eqb f 1 || eqb f (h + 2)

-- a key's word with one key more
abbrev pub with_key : ℕ → ℕ → ℕ
with_key f h = pick (eqb f 0) (h + 2) 1

unfoldable pub has_key : List ℕ → ℕ → Bool
has_key ws h = stands (get_or ws (slot_of (length ws) h) 0) h

unfoldable pub noted : List ℕ → ℕ → List ℕ
noted ws h = set ws (slot_of (length ws) h) (with_key (get_or ws (slot_of (length ws) h) 0) h)

-- the key of a type's row
abbrev pub row_key : List ℕ → Row → ℕ
row_key ls r = key_of (type_number (type_word_by r.word)) (numbers ls r)

-- the keys of n types are there
pub record Keyed (ws ls : List ℕ) (n : ℕ) : Type 0 where
  pub each : (k : ℕ) → k < n → has_key ws (row_key ls (row_at ws (row_of 0 k))) ≡ true
