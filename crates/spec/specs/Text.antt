-- Texts as lists of bytes: literals, lines and fields, decimal numbers (document 01, 'Ticket').
use Rattle.std.specs.Prelude.{ℕ, zero, suc, ◌+◌, ◌-◌, ◌*◌, ◌/◌, ◌%◌, ◌^◌, Bool, true, false, ◌&&◌, not, List, [], ◌∷◌, ◌++◌, eqb, leb, ltb}
use Prim.Native.Char.{code}
use Prim.Native.String.{String, [] as []ˢ, ◌∷◌ as ◌∷ˢ◌}
use Rattle.std.specs.Prelude.{Option, None, Some}

abbrev pub line_feed : ℕ
line_feed = 10

abbrev pub comma : ℕ
comma = 44

-- the bytes of a text of ASCII
abbrev pub bytes : String → List ℕ
bytes []ˢ = []
bytes (c ∷ˢ s) = code c ∷ bytes s

-- lines, each ended by a line feed
abbrev pub text : List String → List ℕ
text [] = []
text (l ∷ ls) = bytes l ++ line_feed ∷ text ls

unfoldable pub same : List ℕ → List ℕ → Bool
same [] [] = true
same [] (y ∷ ys) = false
same (x ∷ xs) [] = false
same (x ∷ xs) (y ∷ ys) = eqb x y && same xs ys

-- ---------------------------------------------------------------- parts

abbrev cons_head : ℕ → List (List ℕ) → List (List ℕ)
cons_head x [] = (x ∷ []) ∷ []
cons_head x (f ∷ fs) = (x ∷ f) ∷ fs

-- the parts of a text between the bytes b: always at least one
unfoldable pub split : ℕ → List ℕ → List (List ℕ)
split b [] = [] ∷ []
split b (x ∷ xs) = elim (eqb x b) [ true ↦ [] ∷ split b xs | false ↦ cons_head x (split b xs) ]

-- fields, each behind its comma
unfoldable pub fields : List (List ℕ) → List ℕ
fields [] = []
fields (f ∷ fs) = comma ∷ f ++ fields fs

-- a line: a word, the fields behind it, a line feed
unfoldable pub line : List ℕ → List (List ℕ) → List ℕ
line w fs = w ++ fields fs ++ line_feed ∷ []

-- ---------------------------------------------------------------- decimal numbers

-- the digits of a number, of which the fuel allows as many as it counts
unfoldable pub digits_in : ℕ → ℕ → List ℕ
digits_in zero n = []
digits_in (suc k) n = elim (ltb n 10) [ true ↦ (48 + n) ∷ [] | false ↦ digits_in k (n / 10) ++ ((48 + n % 10) ∷ []) ]

-- n has fewer than n + 1 digits, or one
unfoldable pub digits : ℕ → List ℕ
digits n = digits_in (suc n) n

-- the number whose digits these are, those of a standing before them
unfoldable pub horner : ℕ → List ℕ → ℕ
horner a [] = a
horner a (d ∷ ds) = horner (a * 10 + (d - 48)) ds

abbrev pub is_digit : ℕ → Bool
is_digit d = leb 48 d && leb d 57

unfoldable pub all_digits : List ℕ → Bool
all_digits [] = true
all_digits (d ∷ ds) = is_digit d && all_digits ds

-- no number is empty, and 0 begins only 0 itself
unfoldable pub good_start : List ℕ → Bool
good_start [] = false
good_start (d ∷ []) = true
good_start (d ∷ e ∷ ds) = not (eqb d 48)

-- a decimal number without leading zeros
unfoldable pub numeral : List ℕ → Option ℕ
numeral f = elim (good_start f && all_digits f) [ true ↦ Some (horner 0 f) | false ↦ None ]

abbrev pub below-2^64 : Option ℕ → Option ℕ
below-2^64 None = None
below-2^64 (Some n) = elim (ltb n (2 ^ 64)) [ true ↦ Some n | false ↦ None ]

-- a number in a ticket's form
unfoldable pub number : List ℕ → Option ℕ
number f = below-2^64 (numeral f)
