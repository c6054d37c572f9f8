-- The code's answers at the text's end and from line to line, as those of `Read`.
use Rattle.std.specs.Prelude.{ℕ, zero, suc, ◌+◌, ◌*◌, ◌≤◌, ◌<◌, min, ◌≡◌, List, eqb, length, drop}
use Rattle.std.specs.Prelude.{Option, None, Some, Result, Ok, Err, IfOk}
use Rattle.spec.specs.Text.{split, line_feed}
use Rattle.tables.specs.Tables.{pick, row_of, places_from, tables_of}
use Rattle.spec.specs.Read.{Read, refused, accepted, read_lines, start}
use Rattle.answers.specs.Refusals.{refusal_number}
use Rattle.answers.specs.declared.Refusal.{Refusal}
use Rattle.line_checks.specs.Rows.{word_at, reading_of, Held, nodes_from, rows_length}
use Rattle.line_checks.specs.Keys.{Keyed}
use Rattle.tables.specs.declared.Counts.{Counts}
use Rattle.ticket.specs.Judged.{Open}
use Rattle.ticket.specs.declared.ReadError.{ReadError}
use Rattle.ticket.specs.declared.reading.Reader.{Reader}

abbrev pub joined : ℕ → Option ℕ → Option ℕ
joined x None = Some x
joined x (Some y) = Some (min x y)

-- with the line of row q, where nothing refers to it
unfoldable pub with_left : List ℕ → ℕ → Option ℕ → Option ℕ
with_left ws q o = pick (eqb (word_at ws q 5) 0) (joined (word_at ws q 3) o) o

-- with those of n rows of a kind, from its row i on
unfoldable pub least_rows : List ℕ → ℕ → ℕ → ℕ → Option ℕ → Option ℕ
least_rows ws base i zero o = o
least_rows ws base i (suc n) o = with_left ws (row_of base i) (least_rows ws base (suc i) n o)

abbrev pub but_last : ℕ → ℕ
but_last zero = zero
but_last (suc n) = n

-- the root is referred to by nothing
abbrev pub left_of : List ℕ → Counts → Option ℕ
left_of ws c = least_rows ws places_from 0 c.places (least_rows ws nodes_from 0 (but_last c.nodes) None)

-- behind a line that ends at p
unfoldable pub advance_of : List ℕ → List ℕ → List ℕ → ℕ → ℕ → Result Counts Refusal → Read
advance_of s ws ls line p (Ok c) = read_lines (split line_feed (drop p s)) (reading_of ws ls c)
advance_of s ws ls line p (Err e) = refused (refusal_number e) line

-- what holds behind that line; where reading stopped, it is where it was
abbrev pub Ahead : List ℕ → List ℕ → List ℕ → Counts → ℕ → ℕ → Result Counts Refusal → Type 0
Ahead s t ls c at p (Ok r) = Held t r × Keyed t ls r.types × (r.used * 2 ≤ p) × (r.lines ≡ c.lines + 1) × (at < p) × (p ≤ length s)
Ahead s t ls c at p (Err e) = p ≡ at

-- one line on, from at to p
pub record Advance (s u v t ls : List ℕ) (c : Counts) (at p : ℕ) (r : Result Counts Refusal) : Type 0 where
  pub answer : advance_of s t ls (c.lines + 1) p r ≡ read_lines (split line_feed (drop at s)) (reading_of u v c)
  pub ahead : Ahead s t ls c at p r

-- what reading a line at a position asks
abbrev pub Ready : List ℕ → List ℕ → List ℕ → Counts → ℕ → Type 0
Ready s ws ls c at = Open ws ls c × (length s ≤ length ls * 2) × (c.used * 2 ≤ at) × (at < length s)

-- the counts, where reading goes on
abbrev pub counts_by : {A : Type 0} → Counts → Result A Refusal → Result Counts Refusal
counts_by c (Ok a) = Ok c
counts_by c (Err e) = Err e

-- a reader of the same text into the same slices
pub record SameReader (r r' : Reader) : Type 0 where
  pub text : r'.text ≡ r.text
  pub rows : r'.rows.ghost_name ≡ r.rows.ghost_name
  pub lists : r'.lists.ghost_name ≡ r.lists.ghost_name
  pub long : length r'.lists.now ≡ length r.lists.now

-- no line read: the state at the start, whatever the words are
pub record Begun (c : Counts) : Type 0 where
  pub reading : (ws ls : List ℕ) → reading_of ws ls c ≡ start
  pub held : (ws : List ℕ) → Held ws c
  pub keyed : (ws ls : List ℕ) → Keyed ws ls c.types
  pub used : c.used ≡ 0
  pub lines : c.lines ≡ 0

-- the answer is o, or the words t are too few; the nodes' rows begin at word 30
abbrev pub AnswerIs : Read → List ℕ → List ℕ → Result Counts ReadError → Type 0
AnswerIs o t ls (Ok c) = accepted (tables_of t ls c) ≡ o
AnswerIs o t ls (Err (ReadError.Refused e)) = refused (refusal_number e.refusal) e.line ≡ o
AnswerIs o t ls (Err ReadError.NoRoom) = length t < rows_length

-- and the tables that are answered can be looked into
pub record Answered (o : Read) (t ls : List ℕ) (r : Result Counts ReadError) : Type 0 where
  pub answer : AnswerIs o t ls r
  pub held : IfOk r (λ c. Held t c × (c.used ≤ length ls))
