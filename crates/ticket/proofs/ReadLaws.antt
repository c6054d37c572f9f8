-- From line to line, and the text's end.
use mathlib.Core.Path.{◌≡◌, refl, sym, ◌∙◌}
use mathlib.Core.Bool.{Bool, true, false, not}
use mathlib.Core.List.{List, ◌∷◌, ◌++◌, []}
use Rattle.std.specs.Prelude.{Option, None, Some, MatchOption, Result, Ok, Err, MatchResult, IsErrAnd}
use Rattle.std.proofs.lemmas.Result.{err_from_is_err_and}
use Prim.Native.Nat.{ℕ, zero, suc, ◌+◌, ◌-◌, ◌*◌, ◌≤◌, ◌<◌, min}
use native.Mathlib.Omega.{arith}
use native.Mathlib.Numerals.{add-one}
use lib.Dec.{eqb, leb, lit≤}
use lib.ListN.{length, take, drop, length-drop, drop_of_length-le}
use lib.Seq.{length-take-le, drop-cons}
use borrow.Author.Tests.{le-leb, lt-leb, eq-eqb, ne_eqb, lt-ltb}
use Rattle.spec.specs.Text.{split, line_feed}
use Rattle.tables.specs.Tables.{tab, pick, row_of, places_from, cell, tables_of}
use Rattle.fields.specs.Fields.{Found}
use Rattle.fields.proofs.Marks.{split_from, split_some}
use Rattle.spec.specs.Limits.{text_limit}
use Rattle.spec.specs.Forms.{line_of}
use Rattle.spec.specs.Read.{Reading, stop, go, step, Read, refused, accepted, left_places, left_nodes, least, left_over, at_end, at_tail, read_lines, start, read_ticket}
use Rattle.answers.specs.declared.Refusal.{Refusal}
use Rattle.answers.specs.Refusals.{refusal_number}
use Rattle.line_checks.specs.Rows.{row_at, word_at, section, place_row, node_row, marked, tables_by_counts, used_in, reading_of, Held, nodes_from}
use Rattle.ticket.specs.Judged.{StepAt}
use Rattle.ticket.specs.Answers.{joined, with_left, least_rows, but_last, left_of, Answered, advance_of, Advance, counts_by, SameReader, Begun}
use Rattle.ticket.specs.declared.reading.Reader.{Reader}
use Rattle.tables.specs.declared.Counts.{Counts}
use Rattle.ticket.specs.declared.ReadError.{ReadError}
use Rattle.line_checks.proofs.RowLaws.{length_section}
use Rattle.ticket.proofs.TableLaws.{tables_are}

-- ---------------------------------------------------------------- lines left over

onto : List ℕ → Option ℕ → Option ℕ
onto [] o = o
onto (x ∷ xs) o = joined x (onto xs o)

least_is : (xs : List ℕ) → least xs ≡ onto xs None
unfolding least onto
least_is [] = refl
least_is (x ∷ xs) = rw (least_is xs) (by (onto xs None))
  where
    by : (o : Option ℕ) → elim o as (λ y. Option ℕ) [ None ↦ Some x | Some y ↦ Some (min x y) ] ≡ joined x o
    by None = refl
    by (Some y) = refl

onto_both : (xs ys : List ℕ) (o : Option ℕ) → onto (xs ++ ys) o ≡ onto xs (onto ys o)
unfolding onto
onto_both [] ys o = refl
onto_both (x ∷ xs) ys o = rw (onto_both xs ys o)

left_out : (ws : List ℕ) (q : ℕ) (o p : Option ℕ) → o ≡ p → pick (marked (row_at ws q)) o (joined (row_at ws q).third o) ≡ with_left ws q p
unfolding with_left row_at
left_out ws q o p e = by (eqb (word_at ws q 5) 0)
  where
    by : (t : Bool) → pick (not t) o (joined (word_at ws q 3) o) ≡ pick t (joined (word_at ws q 3) p) p
    by true = rw e
    by false = e

module _ (ws ls : List ℕ) (base : ℕ) where
  places_left : (o : Option ℕ) (i n : ℕ)
      → onto (left_places (tab (λ k. place_row ls (row_at ws (row_of base k))) i n) (tab (λ k. marked (row_at ws (row_of base k))) i n)) o ≡ least_rows ws base i n o
  unfolding tab left_places onto least_rows
  places_left o i zero = refl
  places_left o i (suc n) = by (marked (row_at ws (row_of base i))) ∙ left_out ws (row_of base i) _ _ (places_left o (suc i) n)
    where
      xs : List ℕ
      xs = left_places (tab (λ k. place_row ls (row_at ws (row_of base k))) (suc i) n) (tab (λ k. marked (row_at ws (row_of base k))) (suc i) n)

      by : (t : Bool) → onto (elim t as (λ x. List ℕ) [ true ↦ xs | false ↦ (row_at ws (row_of base i)).third ∷ xs ]) o ≡ pick t (onto xs o) (joined (row_at ws (row_of base i)).third (onto xs o))
      by true = refl
      by false = refl

  nodes_left : (i n : ℕ)
      → onto (left_nodes (tab (λ k. node_row ls (row_at ws (row_of base k))) i n) (tab (λ k. marked (row_at ws (row_of base k))) i n)) None ≡ least_rows ws base i (but_last n) None
  unfolding tab left_nodes onto least_rows
  nodes_left i zero = refl
  nodes_left i (suc zero) = refl
  nodes_left i (suc (suc n)) = by (marked (row_at ws (row_of base i))) ∙ left_out ws (row_of base i) _ _ (nodes_left (suc i) (suc n))
    where
      xs : List ℕ
      xs = left_nodes (tab (λ k. node_row ls (row_at ws (row_of base k))) (suc i) (suc n)) (tab (λ k. marked (row_at ws (row_of base k))) (suc i) (suc n))

      by : (t : Bool) → onto (elim t as (λ x. List ℕ) [ true ↦ xs | false ↦ (row_at ws (row_of base i)).third ∷ xs ]) None ≡ pick t (onto xs None) (joined (row_at ws (row_of base i)).third (onto xs None))
      by true = refl
      by false = refl

left_is : (ws ls : List ℕ) (c : Counts) → left_over (reading_of ws ls c) ≡ left_of ws c
unfolding left_over reading_of tables_by_counts used_in section
left_is ws ls c =
    least_is _
    ∙ onto_both (left_places (tab (λ k. place_row ls (row_at ws (row_of places_from k))) 0 c.places) (tab (λ k. marked (row_at ws (row_of places_from k))) 0 c.places))
    (left_nodes (tab (λ k. node_row ls (row_at ws (row_of nodes_from k))) 0 c.nodes) (tab (λ k. marked (row_at ws (row_of nodes_from k))) 0 c.nodes)) None
    ∙ rw (nodes_left ws ls nodes_from 0 c.nodes) (places_left ws ls places_from (least_rows ws nodes_from 0 (but_last c.nodes) None) 0 c.places)

nodes_length : (ws ls : List ℕ) (c : Counts) → length (reading_of ws ls c).tables.nodes ≡ c.nodes
unfolding reading_of tables_by_counts
nodes_length ws ls c = length_section (node_row ls) ws nodes_from c.nodes

lines_suc : (ws ls : List ℕ) (c : Counts) → refused 2 (c.lines + 1) ≡ refused 2 (suc (reading_of ws ls c).lines)
unfolding reading_of
lines_suc ws ls c = rw add-one

tables_in : (ws ls : List ℕ) (c : Counts) → accepted (tables_of ws ls c) ≡ accepted (reading_of ws ls c).tables
unfolding reading_of
tables_in ws ls c = rw (tables_are ws ls c)

-- a refusal for a line
abbrev pub refusing : Refusal → ℕ → Result Counts ReadError
refusing r n = Err (ReadError.Refused (record { refusal = r; line = n }))

module _ (ws ls : List ℕ) (c : Counts) where
  pub end_left : (n : ℕ) → Some n ≡ left_of ws c → Answered (at_end (reading_of ws ls c)) ws ls (refusing Refusal.NotOnce n)
  unfolding at_end
  end_left n p = record { answer = rw (left_is ws ls c, ← p); held = tt }

  pub end_none : None ≡ left_of ws c → c.nodes ≡ 0 → Answered (at_end (reading_of ws ls c)) ws ls (refusing Refusal.BadForm (c.lines + 1))
  unfolding at_end
  end_none p h = record { answer = rw (left_is ws ls c, ← p, nodes_length ws ls c, eq-eqb c.nodes 0 h) (lines_suc ws ls c); held = tt }

  pub end_accepted : None ≡ left_of ws c → (c.nodes ≡ 0 → ⊥) → Held ws c → c.used ≤ length ls → Answered (at_end (reading_of ws ls c)) ws ls (Ok c)
  unfolding at_end
  end_accepted p h g l = record { answer = rw (left_is ws ls c, ← p, nodes_length ws ls c, ne_eqb c.nodes 0 h) (tables_in ws ls c); held = (g, l) }

pub ruleset ending = (end_left, end_none, end_accepted)

-- ---------------------------------------------------------------- rows left over, one by one

pub joined_by : (x r : ℕ) (o : Option ℕ) (Q : ℕ → Type 0) → MatchOption o (r ≡ x) Q → ((y : ℕ) → Q y → r ≡ min x y) → Some r ≡ joined x o
joined_by x r None Q e f = rw e
joined_by x r (Some y) Q e f = rw (f y e)

pub row_marked : (ws : List ℕ) (base n k v : ℕ) (o : Option ℕ) → k < n → v ≡ cell ws base n k 5 0 → (v ≡ 0 → ⊥) → o ≡ with_left ws (row_of base k) o
unfolding with_left cell word_at
row_marked ws base n k v o h e g =
    let z : v ≡ word_at ws (row_of base k) 5 = e ∙ rw (lt-ltb k n h) in rw (← z, ne_eqb v 0 g)

pub row_left : (ws : List ℕ) (base n k v x : ℕ) (o p : Option ℕ) → k < n → v ≡ cell ws base n k 5 0 → v ≡ 0 → x ≡ cell ws base n k 3 0 → p ≡ joined x o → p ≡ with_left ws (row_of base k) o
unfolding with_left cell word_at
row_left ws base n k v x o p h e g e' q =
    let z : v ≡ word_at ws (row_of base k) 5 = e ∙ rw (lt-ltb k n h) in
    let y : x ≡ word_at ws (row_of base k) 3 = e' ∙ rw (lt-ltb k n h) in
    rw (← z, eq-eqb v 0 g, ← y) q

pub rows_start : (ws : List ℕ) (base n : ℕ) (o : Option ℕ) → o ≡ least_rows ws base n (n - n) o
unfolding least_rows
rows_start ws base n o = let z : n - n ≡ 0 = omega arith in rw z

pub rows_end : (ws : List ℕ) (base n k : ℕ) (o p : Option ℕ) → p ≡ least_rows ws base k (n - k) o → k ≤ 0 → p ≡ least_rows ws base 0 n o
rows_end ws base n k o p q h = let z : k ≡ 0 = omega arith in let y : n - k ≡ n = omega arith in q ∙ rw (y, z)

pub rows_next : (ws : List ℕ) (base n k : ℕ) (o p r : Option ℕ) → p ≡ least_rows ws base k (n - k) o → 0 < k → k ≤ n → r ≡ with_left ws (row_of base (k - 1)) p → r ≡ least_rows ws base (k - 1) (n - (k - 1)) o
unfolding least_rows
rows_next ws base n k o p r q h l e =
    let z : n - (k - 1) ≡ suc (n - k) = omega arith in
    let y : suc (k - 1) ≡ k = omega arith in
    e ∙ rw (z, least_rows, y, q)

pub ruleset leaving = (rows_start, rows_end, rows_next)

pub last_less : (n : ℕ) → n - 1 ≡ but_last n
last_less zero = refl
last_less (suc n) = omega arith

-- ---------------------------------------------------------------- from line to line

lines_stop : (l : List ℕ) (b : ℕ) (s : List ℕ) (R : Reading) (n : ℕ) → step R (line_of l) ≡ stop n → read_lines (l ∷ split b s) R ≡ refused n (suc R.lines)
unfolding read_lines
lines_stop l b s R n e = rw (split_some b s, read_lines, e)

lines_go : (l : List ℕ) (b : ℕ) (s : List ℕ) (R R' : Reading) → step R (line_of l) ≡ go R' → read_lines (l ∷ split b s) R ≡ read_lines (split b s) R'
unfolding read_lines
lines_go l b s R R' e = rw (split_some b s, read_lines, e)

lines_are : (ws ls : List ℕ) (c : Counts) → suc (reading_of ws ls c).lines ≡ c.lines + 1
unfolding reading_of
lines_are ws ls c = rw add-one

tail_some : (s : List ℕ) (at e : ℕ) (R : Reading) → at < length s → e ≡ length s → at_tail R (take (e - at) (drop at s)) ≡ refused 2 (suc R.lines)
tail_some s at e R h g = let z : e - at ≡ suc (e - at - 1) = omega arith in rw (drop-cons s at 0 h, z)

module _ (s u v : List ℕ) (c : Counts) (at e : ℕ) (h : at < length s) (f : Found s at line_feed e) where
  pub advance_tail : e ≡ length s → Advance s u v u v c at at (Err Refusal.BadForm)
  unfolding advance_of read_lines
  advance_tail g =
      record {
        answer = sym (rw (split_from line_feed s at e f, lt-leb (e + 1) (length s) (omega arith)) (tail_some s at e (reading_of u v c) h g ∙ rw (lines_are u v c)));
        ahead = refl;
      }

  module _ (g : e ≡ length s → ⊥) (t ls : List ℕ) where
    inner : e < length s
    inner = omega (arith, g, f.high)

    first : split line_feed (drop at s) ≡ take (e - at) (drop at s) ∷ split line_feed (drop (e + 1) s)
    first = let l = inner in split_from line_feed s at e f ∙ rw (le-leb (e + 1) (length s) (omega arith))

    pub advance_stop : (x : Refusal) → StepAt (step (reading_of u v c) (line_of (take (e - at) (drop at s)))) (take (e - at) (drop at s)) t ls c (Err x) → Advance s u v t ls c at at (Err x)
    unfolding advance_of
    advance_stop x a =
        record {
          answer = sym (rw first (lines_stop (take (e - at) (drop at s)) line_feed (drop (e + 1) s) (reading_of u v c) (refusal_number x) (sym a.answer) ∙ rw (lines_are u v c)));
          ahead = refl;
        }

    part : length (take (e - at) (drop at s)) ≡ e - at
    part = length-take-le (e - at) (drop at s) (rw (length-drop at s) (omega (arith, f.high)))

    pub advance_go : (k : Counts) → StepAt (step (reading_of u v c) (line_of (take (e - at) (drop at s)))) (take (e - at) (drop at s)) t ls c (Ok k) → c.used * 2 ≤ at
        → Advance s u v t ls c at (e + 1) (Ok k)
    unfolding advance_of
    advance_go k a w =
        let y = a.goes in
        let l = inner in
        record {
          answer = sym (rw first (lines_go (take (e - at) (drop at s)) line_feed (drop (e + 1) s) (reading_of u v c) (reading_of t ls k) (sym a.answer)));
          ahead = (y.0, y.1, omega (arith, y.2, part, f.low), y.3, omega (arith, f.low), omega arith);
        }

pub ruleset advancing = (advance_tail, advance_stop, advance_go)

-- ---------------------------------------------------------------- the loop

pub same_reader : (r : Reader) → SameReader r r
same_reader r = record { text = refl; rows = refl; lists = refl; long = refl }

pub reader_then : (r s t : Reader) → SameReader r s → SameReader s t → SameReader r t
reader_then r s t a b = record { text = b.text ∙ a.text; rows = b.rows ∙ a.rows; lists = b.lists ∙ a.lists; long = b.long ∙ a.long }

answered_as : {o p : Read} {t ls : List ℕ} {r : Result Counts ReadError} → o ≡ p → Answered p t ls r → Answered o t ls r
answered_as e a = rw e a

pub answered_there : (o : Read) (t ls t' ls' : List ℕ) (r : Result Counts ReadError) → Answered o t ls r → t' ≡ t → ls' ≡ ls → Answered o t' ls' r
answered_there o t ls t' ls' r a e f = rw (e, f) a

module _ (o : Read) (s u v : List ℕ) (c : Counts) (at : ℕ) (q : o ≡ read_lines (split line_feed (drop at s)) (reading_of u v c)) where
  pub lines_next : (t ls : List ℕ) (k : Counts) (p : ℕ) → Advance s u v t ls c at p (Ok k) → o ≡ read_lines (split line_feed (drop p s)) (reading_of t ls k)
  unfolding advance_of
  lines_next t ls k p a = q ∙ sym a.answer

  pub lines_stopped : (t ls : List ℕ) (x : Refusal) (p : ℕ) → Advance s u v t ls c at p (Err x) → Answered o t ls (refusing x (c.lines + 1))
  unfolding advance_of
  lines_stopped t ls x p a = record { answer = sym (q ∙ sym a.answer); held = tt }

  -- where the reader's answer is told with the line's number
  pub lines_left : (t ls : List ℕ) (p : ℕ) (d : Counts) (r : Result (Unit {0}) Refusal) (m : Result (Unit {0}) ReadError) (n : Result Counts ReadError) (y : ReadError) (Q : Refusal → ReadError → Type 0) → Advance s u v t ls c at p (counts_by d r)
      → MatchResult r (λ k. m ≡ Ok k) (λ x. IsErrAnd m (Q x)) → ((x : Refusal) (z : ReadError) → Q x z → z ≡ ReadError.Refused (record { refusal = x; line = c.lines + 1 })) → m ≡ Err y
      → IsErrAnd n (λ z. z ≡ y) → Answered o t ls n
  lines_left t ls p d (Ok k) m n y Q a g w e h = cc
  lines_left t ls p d (Err x) m n y Q a g w e h =
      let o = err_from_is_err_and m g in
      let f = err_from_is_err_and n h in
      let i = w x o.0 o.2 in
      let b : n ≡ refusing x (c.lines + 1) = cc in
      rw b (lines_stopped t ls x p a)

  pub lines_over : (r : Result Counts ReadError) → length s ≤ at → Answered (at_end (reading_of u v c)) u v r → Answered o u v r
  unfolding split read_lines
  lines_over r h a = answered_as (q ∙ rw (drop_of_length-le s h)) a

pub went : (r : Result (Unit {0}) Refusal) (m : Result (Unit {0}) ReadError) (k : Unit {0}) (Q : Refusal → ReadError → Type 0) → MatchResult r (λ k. m ≡ Ok k) (λ x. IsErrAnd m (Q x)) → m ≡ Ok k → r ≡ Ok k
went (Ok k') m k Q g e = cc
went (Err x) m k Q g e = let d = err_from_is_err_and m g in cc

pub lines_begin : (s u v : List ℕ) (c : Counts) → Begun c → read_lines (split line_feed s) start ≡ read_lines (split line_feed (drop 0 s)) (reading_of u v c)
lines_begin s u v c b = rw (b.reading u v)

-- the counts as they are at first
abbrev pub none_read : Counts
none_read = record { function = 0; next = 0; types = 0; storages = 0; variables = 0; statics = 0; places = 0; nodes = 0; used = 0; stage = 0; lines = 0; sizes = 0; weights = 0 }

pub begun : Begun none_read
unfolding reading_of tables_by_counts used_in section tab
begun =
    record {
      reading = λ ws ls. refl;
      held = λ ws.
          record {
            few = record { types = lit≤ tt; storages = lit≤ tt; variables = lit≤ tt; statics = lit≤ tt; places = lit≤ tt; nodes = lit≤ tt };
            types = record { ends = λ k h. absurd (omega arith) };
            storages = record { ends = λ k h. absurd (omega arith) };
            variables = record { ends = λ k h. absurd (omega arith) };
            statics = record { ends = λ k h. absurd (omega arith) };
            places = record { ends = λ k h. absurd (omega arith) };
            nodes = record { ends = λ k h. absurd (omega arith) };
          };
      keyed = λ ws ls. record { each = λ k h. absurd (omega arith) };
      used = refl;
      lines = refl;
    }

pub ticket_long : (s ws ls : List ℕ) → text_limit < length s → Answered (read_ticket s) ws ls (refusing Refusal.LongText 0)
unfolding read_ticket
ticket_long s ws ls h = record { answer = by (leb (length s) text_limit) (lt-leb (length s) text_limit h); held = tt }
  where
    by : (t : Bool) → t ≡ false → refused 1 0 ≡ elim t as (λ x. Read) [ true ↦ read_lines (split line_feed s) start | false ↦ refused 1 0 ]
    by true e = cc
    by false e = refl

lines_of : (s : List ℕ) → length s ≤ text_limit → read_ticket s ≡ read_lines (split line_feed s) start
unfolding read_ticket
lines_of s h = by (leb (length s) text_limit) (le-leb (length s) text_limit h)
  where
    by : (t : Bool) → t ≡ true → elim t as (λ x. Read) [ true ↦ read_lines (split line_feed s) start | false ↦ refused 1 0 ] ≡ read_lines (split line_feed s) start
    by true q = refl
    by false q = cc

pub ticket_lines : (s ws ls : List ℕ) (r : Result Counts ReadError) → length s ≤ text_limit → Answered (read_lines (split line_feed s) start) ws ls r → Answered (read_ticket s) ws ls r
ticket_lines s ws ls r h a = answered_as (lines_of s h) a
