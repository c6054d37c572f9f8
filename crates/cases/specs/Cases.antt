-- What test programs hold an answer to: the bytes expected, in a buffer that is otherwise as it was filled.
use Rattle.std.specs.Prelude.{ℕ, ◌+◌, ◌*◌, ◌%◌, ◌≤◌, ◌<◌, ◌≡◌, Bool, true, ◌&&◌, List, [], ◌∷◌, ◌++◌, map, if◌then◌else◌, ◌==◌, leb, length, take, drop, get_or}
use Rattle.std.specs.Prelude.{Option, None, Some, IfSome, IsNone, MatchOption, Result, Ok, Err, IfOk, OnOk, OnErr}
use Rattle.std.specs.Fn.{Once, FnOnceReturnsAtMut}
use Rattle.std.specs.Borrow.{MutBor}
use Rattle.std.specs.Io.KnownBytes.{Consumes}
use Rattle.spec.specs.Text.{bytes, line, digits, same, split, comma, line_feed}
use Rattle.spec.specs.Answer.{Answer, refused, accepted}
use Rattle.std.specs.List.{range_with_len}
use Rattle.fields.specs.Fields.{numbers_of, index, Found}
use Rattle.answers.specs.declared.Refused.{Refused}
use Rattle.cases.specs.declared.Broken.{Broken}

-- ---------------------------------------------------------------- a case's head

-- a list of that length, or none
abbrev pub exactly : ℕ → Option (List ℕ) → Option (List ℕ)
exactly n None = None
exactly n (Some xs) = if length xs == n then Some xs else None

-- n bytes are lent that the reader gave, in front of a slice of that length
pub record Gives (known known' : Option (List ℕ)) (room n : ℕ) (bytes : List ℕ) : Type 0 where
  pub long : n ≤ room
  pub all : length bytes ≡ n
  pub given : Consumes known known' bytes

-- the reader gave a byte, or nothing
abbrev pub GivesByte : Option (List ℕ) → Option (List ℕ) → Option ℕ → Type 0
GivesByte known known' r = MatchOption r (Consumes known known' []) (λ b. Consumes known known' (b ∷ []))

-- the reader gave what stands in front of a slice, and no more
pub record GivesFirst (known known' : Option (List ℕ)) (bytes : List ℕ) (n : ℕ) : Type 0 where
  pub long : n ≤ length bytes
  pub given : Consumes known known' (take n bytes)

-- no line feed stands among the first n bytes
abbrev pub Unended : List ℕ → ℕ → Type 0
Unended s n = (k : ℕ) → k < n → get_or s k 0 ≡ line_feed → ⊥

-- what the reader gave is no line: bytes with no line feed, one at least where there was room for one
pub record CutLine (known known' : Option (List ℕ)) (line : List ℕ) (n : ℕ) : Type 0 where
  pub some : 0 < length line → 0 < n
  pub long : n ≤ length line
  pub unended : Unended line n
  pub given : Consumes known known' (take n line)

-- a line that is read stands in front of a slice, and the reader gave it with its line feed, the first; where none is, it gave nothing
pub record GivesLine (known known' : Option (List ℕ)) (line : List ℕ) (r : Option (Result ℕ Broken)) : Type 0 where
  pub long : IfSome r (λ l. IfOk l (λ n. n ≤ length line))
  pub unended : IfSome r (λ l. IfOk l (λ n. Unended line n))
  pub given : IfSome r (λ l. IfOk l (λ n. Consumes known known' (take n line ++ line_feed ∷ [])))
  pub over : IsNone r → Consumes known known' []
  pub broken : IfSome r (λ l. OnErr l ((n : ℕ) × CutLine known known' line n))

-- what the reader gave is no block: some bytes, and too few
pub record CutBlock (known known' : Option (List ℕ)) (block : List ℕ) (n : ℕ) : Type 0 where
  pub some : 0 < n
  pub short : n < length block
  pub given : Consumes known known' (take n block)

-- a line that is read stands in front of a block, up to the first line feed, and the reader gave the block; where none is, it gave nothing
pub record GivesBlock (known known' : Option (List ℕ)) (block : List ℕ) (r : Option (Result ℕ Broken)) : Type 0 where
  pub long : IfSome r (λ l. IfOk l (λ n. Found block 0 line_feed n))
  pub given : IfSome r (λ l. OnOk l (Consumes known known' block))
  pub over : IsNone r → Consumes known known' []
  pub broken : IfSome r (λ l. OnErr l ((n : ℕ) × CutBlock known known' block n))

-- no head: a line that is not as many numbers, or bytes with no line feed
pub data BadLine (known known' : Option (List ℕ)) (count : ℕ) : Type 0 where
  other : (line : List ℕ) → Consumes known known' (line ++ line_feed ∷ []) → exactly count (numbers_of (split comma line)) ≡ None → BadLine known known' count
  cut : (bs : List ℕ) → Consumes known known' bs → 0 < length bs → Unended bs (length bs) → BadLine known known' count

-- a head is the numbers of a line that the reader gave with its line feed; where none is, it gave nothing
pub record LineHead (known known' : Option (List ℕ)) (count : ℕ) (r : Option (Result (List ℕ) Broken)) : Type 0 where
  pub given : IfSome r (λ h. IfOk h (λ ns. (line : List ℕ) × Consumes known known' (line ++ line_feed ∷ []) × (exactly count (numbers_of (split comma line)) ≡ Some ns)))
  pub over : IsNone r → Consumes known known' []
  pub broken : IfSome r (λ h. OnErr h (BadLine known known' count))

-- no head: a block whose line is not as many numbers, or too few bytes; a size that no block has is asked of no reader
pub data BadBlock (known known' : Option (List ℕ)) (size count : ℕ) : Type 0 where
  other : (block : List ℕ) → length block ≡ size → Consumes known known' block → exactly count (numbers_of (split comma (take (index line_feed block) block))) ≡ None → BadBlock known known' size count
  cut : (bs : List ℕ) → Consumes known known' bs → 0 < length bs → length bs < size → BadBlock known known' size count
  large : 128 < size → known' ≡ known → BadBlock known known' size count

-- a head is the numbers of what stands before the first line feed of a block that the reader gave; where none is, it gave nothing
pub record BlockHead (known known' : Option (List ℕ)) (size count : ℕ) (r : Option (Result (List ℕ) Broken)) : Type 0 where
  pub given : IfSome r (λ h. IfOk h (λ ns. (block : List ℕ) × (length block ≡ size) × Consumes known known' block × (exactly count (numbers_of (split comma (take (index line_feed block) block))) ≡ Some ns)))
  pub over : IsNone r → Consumes known known' []
  pub broken : IfSome r (λ h. OnErr h (BadBlock known known' size count))

-- ---------------------------------------------------------------- a buffer

-- what byte i is filled with: no two neighbours alike
unfoldable pub mark : ℕ → ℕ
mark i = (i % 256 * 31 + 7) % 256

unfoldable pub filling : ℕ → List ℕ
filling n = map mark (range_with_len 0 n)

-- from a position on, the bytes are as they were filled
unfoldable pub kept : List ℕ → ℕ → Bool
kept l k = same (drop k l) (drop k (filling (length l)))

-- ---------------------------------------------------------------- an answer

-- the line of a refusal
unfoldable pub refusal : ℕ → ℕ → List ℕ
refusal n l = line (bytes "refused") (digits n ∷ digits l ∷ [])

-- it stands in front
pub record Printed (n l : ℕ) (s : List ℕ) (r : ℕ) : Type 0 where
  pub here : take r s ≡ refusal n l
  pub within : r ≤ length s
  pub short : r ≤ 64

-- an answer's bytes
abbrev pub shown : Answer → List ℕ
shown (refused n l) = refusal n l
shown (accepted s) = s

-- a case that holds says that the answer's bytes are those expected
pub record Right (a : Answer) (expected : List ℕ) (r : Bool) : Type 0 where
  pub so : r ≡ true → shown a ≡ expected

-- a refusal is the one expected, and nothing is written
pub record Refuses (number line : ℕ) (expected buffer : List ℕ) (r : Bool) : Type 0 where
  pub is : r ≡ (same (refusal number line) expected && kept buffer 0)

-- the first n bytes are those expected, and the others as they were filled
pub record Accepts (n : ℕ) (expected buffer : List ℕ) (r : Bool) : Type 0 where
  pub is : r ≡ (leb n (length buffer) && same (take n buffer) expected && kept buffer n)

-- an answer is the one expected, as of a refusal's number
abbrev pub Judges : {R : Type 0} → (R → ℕ) → Result ℕ (Refused R) → List ℕ → List ℕ → Bool → Type 0
Judges number_of (Ok n) expected buffer r = Accepts n expected buffer r
Judges number_of (Err e) expected buffer r = Refuses (number_of e.refusal) e.line expected buffer r

-- a case that is lent a part of that length holds, and a part is lent to it
pub record HoldsWithin {F : Type 0} (g : Once F (MutBor (List ℕ) × Unit {0}) (Bool × (MutBor (List ℕ) × Unit {0}))) (f : F) (room : ℕ) (r : Bool) : Type 0 where
  pub so : r ≡ true → (part : List ℕ) × (part' : List ℕ) × (length part ≡ room) × FnOnceReturnsAtMut g f part true part'
