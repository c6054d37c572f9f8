-- What is left of a line at a position: the code's answers as the fields that they stand for.
use Rattle.std.specs.Prelude.{ℕ, suc, ◌+◌, ◌*◌, ◌≤◌, ◌<◌, ◌^◌, ◌-◌, ◌≡◌, Bool, true, false, List, ◌∷◌, ◌++◌, [], eqb, leb, ltb, length, get_or, drop, take}
use Rattle.std.specs.Prelude.{Option, None, Some, IfSome, MatchOption, option_map}
use Rattle.spec.specs.Text.{split, comma, number, same, horner, all_digits}
use Rattle.tables.specs.Tables.{pick, run}

-- ---------------------------------------------------------------- marks

-- how many elements stand before the first b
unfoldable pub index : ℕ → List ℕ → ℕ
index b [] = 0
index b (x ∷ xs) = elim (eqb x b) [ true ↦ 0 | false ↦ suc (index b xs) ]

pub record Found (s : List ℕ) (from b r : ℕ) : Type 0 where
  pub low : from ≤ r
  pub high : r ≤ length s
  pub here : r ≡ from + index b (drop from s)

-- the field at a position ends at r; past the line's end there is none
pub record EndAt (s : List ℕ) (p : ℕ) (r : Option ℕ) : Type 0 where
  pub right : MatchOption r (length s < p) (λ e. (p ≤ length s) × Found s p comma e)

-- the fields from a position on; none behind the last
unfoldable pub fields_from : List ℕ → ℕ → List (List ℕ)
fields_from s p = pick (leb p (length s)) (split comma (drop p s)) []

-- ---------------------------------------------------------------- numbers

abbrev pub small : ℕ → Option ℕ
small n = pick (ltb n (2 ^ 64)) (Some n) None

-- digits behind others whose number is v, as a number below 2 ^ 64
unfoldable pub digits_from : ℕ → List ℕ → Option ℕ
digits_from v ds = pick (all_digits ds) (small (horner v ds)) None

-- a first field's value, and the fields behind it
pub record Taken : Type 0 where
  pub value : ℕ
  pub rest : List (List ℕ)

abbrev pub taken : Option ℕ → List (List ℕ) → Option Taken
taken None ws = None
taken (Some v) ws = Some (record { value = v; rest = ws })

unfoldable pub first_number : List (List ℕ) → Option Taken
first_number [] = None
first_number (w ∷ ws) = taken (number w) ws

-- a value and the position of the field behind it, as the fields that they stand for
abbrev pub taken_at : List ℕ → Option (ℕ × ℕ) → Option Taken
taken_at s = option_map (λ r. record { value = r.0; rest = fields_from s r.1 })

-- a number takes two bytes, its comma among them
pub record NumberAt (s : List ℕ) (p : ℕ) (r : Option (ℕ × ℕ)) : Type 0 where
  pub answer : taken_at s r ≡ first_number (fields_from s p)
  pub ahead : IfSome r (λ x. (p + 2 ≤ x.1) × (x.1 ≤ length s + 1))

-- from p to i stand the digits of v, and no comma
pub record Digits (s : List ℕ) (p i v : ℕ) : Type 0 where
  pub low : p ≤ i
  pub high : i ≤ length s
  pub bound : v < 2 ^ 64
  pub mark : p + index comma (drop p s) ≡ i + index comma (drop i s)
  pub digits : all_digits (take (i - p) (drop p s)) ≡ true
  pub value : horner 0 (take (i - p) (drop p s)) ≡ v

-- a number that is read is the one that stands there
pub record QuickAt (s : List ℕ) (p : ℕ) (r : Option (ℕ × ℕ)) : Type 0 where
  pub right : IfSome r (λ x. NumberAt s p (Some x))

-- a digit that is read is the whole field that stands there
pub record LoneAt (s : List ℕ) (p : ℕ) (r : Option ℕ) : Type 0 where
  pub right : IfSome r (λ d. NumberAt s p (Some (d, p + 2)))

abbrev pub cons_number : Option ℕ → Option (List ℕ) → Option (List ℕ)
cons_number None xs = None
cons_number (Some x) None = None
cons_number (Some x) (Some xs) = Some (x ∷ xs)

unfoldable pub numbers_of : List (List ℕ) → Option (List ℕ)
numbers_of [] = Some []
numbers_of (w ∷ ws) = cons_number (number w) (numbers_of ws)

-- numbers behind others
unfoldable pub onto : List ℕ → Option (List ℕ) → Option (List ℕ)
onto xs None = None
onto xs (Some ys) = Some (xs ++ ys)

-- below an index, two lists are the same
pub record Kept (n : ℕ) (u t : List ℕ) : Type 0 where
  pub same : (i : ℕ) → i < n → get_or t i 0 ≡ get_or u i 0

-- the numbers to the line's end stand in t behind the first `used`, as many as r says
pub record Listing (s : List ℕ) (p : ℕ) (u t : List ℕ) (used : ℕ) (r : Option ℕ) : Type 0 where
  pub answer : option_map (λ n. run t used n) r ≡ numbers_of (fields_from s p)
  pub fewer : IfSome r (λ n. n * 2 ≤ length s + 1 - p)
  pub kept : Kept used u t

-- ---------------------------------------------------------------- keywords

abbrev after : Option ℕ → Option ℕ
after None = None
after (Some k) = Some (suc k)

-- the place of a word in a list
unfoldable pub position : List ℕ → List (List ℕ) → Option ℕ
position w [] = None
position w (v ∷ vs) = elim (same v w) [ true ↦ Some 0 | false ↦ after (position w vs) ]

abbrev pub first_word : List (List ℕ) → List (List ℕ) → Option Taken
first_word vs [] = None
first_word vs (w ∷ ws) = taken (position w vs) ws

pub record WordAt (s vs : List ℕ) (p : ℕ) (r : Option (ℕ × ℕ)) : Type 0 where
  pub answer : taken_at s r ≡ first_word (split comma vs) (fields_from s p)
  pub ahead : IfSome r (λ x. (p + 1 ≤ x.1) × (x.1 ≤ length s + 1))

-- what stands from s to e of the words is the k-th of them
pub record Tried (vs : List ℕ) (k s e : ℕ) : Type 0 where
  pub place : s ≤ e → e ≤ length vs → position (take (e - s) (drop s vs)) (split comma vs) ≡ Some k

pub record Same (vs w : List ℕ) (s e : ℕ) (r : Bool) : Type 0 where
  pub low : r ≡ true → s ≤ e
  pub high : r ≡ true → e ≤ length vs
  pub word : r ≡ true → same (take (e - s) (drop s vs)) w ≡ true
