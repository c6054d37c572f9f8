-- A map's ticket is read: its lines, the form of each, and no refusal at any of them.
use Prim.Native.Nat.{ℕ, ◌+◌, ◌^◌, ◌≤◌, ◌<◌}
use mathlib.Core.Path.{◌≡◌, refl, ap, ◌∙◌}
use mathlib.Core.Bool.{Bool, true, ◌&&◌}
use mathlib.Core.List.{List, ◌∷◌, ◌++◌, append_assoc, []}
use Rattle.std.specs.Prelude.{None, Some}
use native.Mathlib.Omega.{arith}
use lib.Dec.{leb}
use borrow.Author.Tests.{le-leb}
use lib.ListN.{length}
use Rattle.spec.specs.Text.{bytes, text, split, fields, line, line_feed, digits, numeral, horner, all_digits, good_start}
use Rattle.spec.specs.Text as texts
use Rattle.spec.specs.Limits.{greatest_16, all_regions, size_sum_limit}
use Rattle.spec.specs.Ticket.{t_bool, t_pointer, t_bits, p_variable, n_read, n_int, n_binary}
use Rattle.spec.specs.Forms.{Arg, Line, Field, between, up_to, any, type, storage, place, node, f_line, t_line, s_line, v_line, p_line, n_line, find, args_of, rest_args, form_of, type_form, node_form, form_of_fields, line_of, values}
use Rattle.spec.specs.Read.{Reading, test, first_failed, refusal_of, add, start, step, read_lines, at_end, read_ticket, accepted, all, in_order, rank, few_enough, in_range, fields_fit, earlier, types_right, small_enough, once, depth_of, depth_allowed, sums_fit}
use Rattle.spec.specs.Answer.{computing}
use Rattle.spec.proofs.Bools.{and_true}
use Rattle.spec.proofs.Split.{free, free_append, split_front, split_fields, Clean, Cleans, no_fields, field}
use Rattle.spec.proofs.Digits.{digits_free, digits_clean, number_digits}
use Rattle.valves.specs.Tickets.{bytes_for, types_text, storage_text, nodes_text, ticket_text}
use Rattle.valves.specs.Opening.{tables}
use Rattle.valves.proofs.Printed.{ticket_short}

-- ---------------------------------------------------------------- the lines

abbrev joined : List (List ℕ) → List ℕ
joined [] = []
joined (l ∷ ls) = l ++ line_feed ∷ joined ls

abbrev Frees : List (List ℕ) → Type 0
Frees [] = Unit {0}
Frees (l ∷ ls) = (free line_feed l ≡ true) × Frees ls

split_joined : (ls : List (List ℕ)) → Frees ls → split line_feed (joined ls) ≡ ls ++ ([] ∷ [])
unfolding split
split_joined [] h = refl
split_joined (l ∷ ls) h = split_front line_feed l (joined ls) h.0 ∙ ap (λ (z : List (List ℕ)). l ∷ z) (split_joined ls h.1)

abbrev type_line : ℕ → List ℕ
type_line N = bytes "t" ++ fields (bytes "bits" ∷ digits N ∷ [])

abbrev storage_line : ℕ → List ℕ
storage_line L = bytes "s" ++ fields (bytes "2" ∷ digits L ∷ bytes "1" ∷ bytes "36" ∷ [])

abbrev constant_line : ℕ → List ℕ
constant_line m = bytes "n" ++ fields (bytes "2" ∷ bytes "int" ∷ digits m ∷ [])

abbrev lines : ℕ → ℕ → ℕ → List (List ℕ)
lines N L m =
    bytes "f,0,0" ∷ bytes "t,bool" ∷ bytes "t,pointer" ∷ type_line N ∷ storage_line L ∷ bytes "v,0,0,2,0" ∷ bytes "p,variable,0" ∷ bytes "n,2,read,0" ∷
    constant_line m ∷ bytes "n,2,binary,8,0,1" ∷ []

text_lines : (N m : ℕ) → ticket_text N m ≡ joined (lines N (bytes_for N) m)
unfolding ticket_text types_text storage_text nodes_text line
text_lines N m =
    ap (λ (z : List ℕ). text ("f,0,0" ∷ "t,bool" ∷ "t,pointer" ∷ []) ++ bytes "t" ++ z)
    (by (fields (bytes "bits" ∷ digits N ∷ [])) (fields (bytes "2" ∷ digits (bytes_for N) ∷ bytes "1" ∷ bytes "36" ∷ []))
    (fields (bytes "2" ∷ bytes "int" ∷ digits m ∷ [])) (text ("v,0,0,2,0" ∷ "p,variable,0" ∷ "n,2,read,0" ∷ [])) (text ("n,2,binary,8,0,1" ∷ [])))
  where
    by : (x y z a b : List ℕ)
        → x ++ line_feed ∷ [] ++ (bytes "s" ++ y ++ line_feed ∷ []) ++ (a ++ (bytes "n" ++ z ++ line_feed ∷ []) ++ b)
        ≡ x ++ (line_feed ∷ (bytes "s" ++ (y ++ (line_feed ∷ (a ++ (bytes "n" ++ (z ++ (line_feed ∷ b))))))))
    by x y z a b =
        let c : List ℕ = a ++ (bytes "n" ++ z ++ line_feed ∷ []) ++ b in
        rw (
          append_assoc x (line_feed ∷ []) (bytes "s" ++ y ++ line_feed ∷ []),
          append_assoc x (line_feed ∷ bytes "s" ++ y ++ line_feed ∷ []) c,
          append_assoc y (line_feed ∷ []) c,
          append_assoc a (bytes "n" ++ z ++ line_feed ∷ []) b,
          append_assoc z (line_feed ∷ []) b,
        )

lines_free : (N L m : ℕ) → Frees (lines N L m)
unfolding fields
lines_free N L m = (
  refl,
  (
    refl,
    (
      refl,
      (
        free_append line_feed (digits N) [] (digits_free line_feed refl N) refl,
        (
          free_append line_feed (digits L) (bytes ",1,36") (digits_free line_feed refl L) refl,
          (
            refl,
            (
              refl,
              (
                refl,
                (free_append line_feed (digits m) [] (digits_free line_feed refl m) refl, (refl, tt)),
              ),
            ),
          ),
        ),
      ),
    ),
  ),
)

-- ---------------------------------------------------------------- their forms

abbrev plain : Field → ℕ → Arg
plain f n = record { class = f; value = n }

line_is : {w : List ℕ} {fs : List (List ℕ)} → Clean w → Cleans fs → line_of (w ++ fields fs) ≡ form_of_fields (w ∷ fs)
unfolding line_of
line_is c cs = rw (split_fields c cs)

word : {w : List ℕ} → free 44 w ≡ true → free 10 w ≡ true → Clean w
word a b = record { no_comma = a; no_feed = b }

two : texts.number (bytes "2") ≡ Some 2
unfolding texts.number numeral horner all_digits good_start
two = refl

one : texts.number (bytes "1") ≡ Some 1
unfolding texts.number numeral horner all_digits good_start
one = refl

thirty_six : texts.number (bytes "36") ≡ Some 36
unfolding texts.number numeral horner all_digits good_start
thirty_six = refl

abbrev type_form_of : ℕ → Line
type_form_of N = record { head = t_line t_bits; args = plain (between 1 64) N ∷ [] }

type_is : (N : ℕ) → N < 2 ^ 64 → line_of (type_line N) ≡ Some (type_form_of N)
unfolding find texts.same form_of type_form args_of rest_args
type_is N h = line_is {w = bytes "t"} (word refl refl) (field {f = bytes "bits"} (word refl refl) (field (digits_clean N) no_fields)) ∙ rw (number_digits N h)

abbrev storage_form_of : ℕ → Line
storage_form_of L = record { head = s_line; args = plain (up_to 3) 2 ∷ plain (up_to greatest_16) L ∷ plain (up_to 1) 1 ∷ plain (up_to all_regions) 36 ∷ [] }

storage_is : (L : ℕ) → L < 2 ^ 64 → line_of (storage_line L) ≡ Some (storage_form_of L)
unfolding find texts.same form_of args_of rest_args
storage_is L h =
    line_is {w = bytes "s"} (word refl refl)
    (field {f = bytes "2"} (word refl refl) (field (digits_clean L) (field {f = bytes "1"} (word refl refl) (field {f = bytes "36"} (word refl refl) no_fields))))
    ∙ rw (two, number_digits L h, one, thirty_six)

abbrev constant_form_of : ℕ → Line
constant_form_of m = record { head = n_line n_int; args = plain type 2 ∷ plain any m ∷ [] }

constant_is : (m : ℕ) → m < 2 ^ 64 → line_of (constant_line m) ≡ Some (constant_form_of m)
unfolding find texts.same form_of node_form args_of rest_args
constant_is m h =
    line_is {w = bytes "n"} (word refl refl) (field {f = bytes "2"} (word refl refl) (field {f = bytes "int"} (word refl refl) (field (digits_clean m) no_fields)))
    ∙ rw (two, number_digits m h)

-- ---------------------------------------------------------------- the tests of a line

nine : (a b c d e f g h i : Bool) → a ≡ true → b ≡ true → c ≡ true → d ≡ true → e ≡ true → f ≡ true → g ≡ true → h ≡ true → i ≡ true
    → first_failed (test 2 a ∷ test 8 b ∷ test 3 c ∷ test 4 d ∷ test 5 e ∷ test 6 f ∷ test 7 g ∷ test 9 h ∷ test 10 i ∷ []) ≡ None
unfolding first_failed
nine a b c d e f g h i p q r s t u v w x = rw (p, q, r, s, t, u, v, w, x)

passes : (R : Reading) (x : Line) → in_order R.stage (rank x.head) ≡ true → few_enough R.tables x.head ≡ true
    → (all in_range x.args && fields_fit x.head (values x.args)) ≡ true → all (λ a. earlier R.tables a) x.args ≡ true
    → types_right R.tables x.head (values x.args) ≡ true → small_enough R.tables x.head (values x.args) ≡ true
    → once x.args R.used ≡ true → leb (depth_of R.tables x.args) (depth_allowed x.head) ≡ true
    → sums_fit R x.head (values x.args) ≡ true → refusal_of R x ≡ None
unfolding refusal_of
passes R x a b c d e f g h i = nine _ _ _ _ _ _ _ _ _ a b c d e f g h i

-- a line that has a form and passes every test is taken
takes : (R : Reading) (l k : List ℕ) (ls : List (List ℕ)) (x : Line) → line_of l ≡ Some x → refusal_of R x ≡ None → read_lines (l ∷ k ∷ ls) R ≡ read_lines (k ∷ ls) (add R x)
unfolding read_lines step
takes R l k ls x e f = rw (e, f, read_lines)

-- from one state to another, line by line
data Taken : List (List ℕ) → Reading → Reading → Type 0 where
  end : {R : Reading} → Taken [] R R
  next : {l : List ℕ} {ls : List (List ℕ)} {R R' : Reading} {x : Line} → line_of l ≡ Some x → refusal_of R x ≡ None → Taken ls (add R x) R' → Taken (l ∷ ls) R R'

-- the empty line behind the last line feed is there, so a line is never the last
taken_on : (R : Reading) (l : List ℕ) (ls : List (List ℕ)) (x : Line) → line_of l ≡ Some x → refusal_of R x ≡ None
    → read_lines (l ∷ (ls ++ ([] ∷ []))) R ≡ read_lines (ls ++ ([] ∷ [])) (add R x)
taken_on R l [] x e f = takes R l [] [] x e f
taken_on R l (k ∷ ls) x e f = takes R l k (ls ++ ([] ∷ [])) x e f

all_taken : {ls : List (List ℕ)} {R R' : Reading} → Taken ls R R' → read_lines (ls ++ ([] ∷ [])) R ≡ at_end R'
unfolding read_lines
all_taken end = refl
all_taken (next {l} {ls} {R} {R'} {x} e f t) = taken_on R l ls x e f ∙ all_taken t

-- ---------------------------------------------------------------- line by line

abbrev head_form : Line
head_form = record { head = f_line; args = plain (up_to greatest_16) 0 ∷ plain (up_to greatest_16) 0 ∷ [] }

abbrev bool_form : Line
bool_form = record { head = t_line t_bool; args = [] }

abbrev pointer_form : Line
pointer_form = record { head = t_line t_pointer; args = [] }

abbrev variable_form : Line
variable_form = record { head = v_line; args = plain storage 0 ∷ plain (up_to greatest_16) 0 ∷ plain type 2 ∷ plain (up_to 1) 0 ∷ [] }

abbrev place_form : Line
place_form = record { head = p_line p_variable; args = plain any 0 ∷ [] }

abbrev read_form : Line
read_form = record { head = n_line n_read; args = plain type 2 ∷ plain place 0 ∷ [] }

abbrev or_form : Line
or_form = record { head = n_line n_binary; args = plain type 2 ∷ plain (up_to 18) 8 ∷ plain node 0 ∷ plain node 1 ∷ [] }

-- the state behind the first three lines, and behind each of the others
abbrev R3 : Reading
R3 = add (add (add start head_form) bool_form) pointer_form

abbrev R4 : ℕ → Reading
R4 N = add R3 (type_form_of N)

abbrev R5 : ℕ → Reading
R5 N = add (R4 N) (storage_form_of (bytes_for N))

abbrev R7 : ℕ → Reading
R7 N = add (add (R5 N) variable_form) place_form

abbrev R8 : ℕ → Reading
R8 N = add (R7 N) read_form

abbrev R9 : ℕ → ℕ → Reading
R9 N m = add (R8 N) (constant_form_of m)

form_1 : line_of (bytes "f,0,0") ≡ Some head_form
unfolding computing
form_1 = refl

form_2 : line_of (bytes "t,bool") ≡ Some bool_form
unfolding computing
form_2 = refl

form_3 : line_of (bytes "t,pointer") ≡ Some pointer_form
unfolding computing
form_3 = refl

form_6 : line_of (bytes "v,0,0,2,0") ≡ Some variable_form
unfolding computing
form_6 = refl

form_7 : line_of (bytes "p,variable,0") ≡ Some place_form
unfolding computing
form_7 = refl

form_8 : line_of (bytes "n,2,read,0") ≡ Some read_form
unfolding computing
form_8 = refl

form_10 : line_of (bytes "n,2,binary,8,0,1") ≡ Some or_form
unfolding computing
form_10 = refl

passes_1 : refusal_of start head_form ≡ None
unfolding computing
passes_1 = refl

passes_2 : refusal_of (add start head_form) bool_form ≡ None
unfolding computing
passes_2 = refl

passes_3 : refusal_of (add (add start head_form) bool_form) pointer_form ≡ None
unfolding computing
passes_3 = refl

module _ (N m : ℕ) (low : 1 ≤ N) (high : N ≤ 64) (small : m < 2 ^ 64) where
  passes_4 : refusal_of R3 (type_form_of N) ≡ None
  unfolding computing
  passes_4 =
      passes R3 (type_form_of N) refl refl (and_true (and_true (and_true (le-leb 1 N low) (le-leb N 64 high)) refl) refl) refl refl
      (and_true (le-leb (bytes_for N) 1024 (omega arith)) refl) refl refl refl

  passes_5 : refusal_of (R4 N) (storage_form_of (bytes_for N)) ≡ None
  unfolding computing
  passes_5 =
      let r = and_true (le-leb 0 (bytes_for N) (omega arith)) (le-leb (bytes_for N) 65535 (omega arith)) in
      passes (R4 N) (storage_form_of (bytes_for N)) refl refl (and_true (and_true r refl) (le-leb 1 (bytes_for N) (omega arith))) refl refl refl refl refl refl

  passes_6 : refusal_of (R5 N) variable_form ≡ None
  unfolding computing
  passes_6 = refl

  passes_7 : refusal_of (add (R5 N) variable_form) place_form ≡ None
  unfolding computing
  passes_7 = refl

  passes_8 : refusal_of (R7 N) read_form ≡ None
  unfolding computing
  passes_8 = passes (R7 N) read_form refl refl refl refl refl refl refl refl (and_true (le-leb (0 + bytes_for N) size_sum_limit (omega arith)) refl)

  passes_9 : refusal_of (R8 N) (constant_form_of m) ≡ None
  unfolding computing
  passes_9 =
      let r = and_true (le-leb 0 m (omega arith)) (le-leb m 18446744073709551615 (omega arith)) in
      passes (R8 N) (constant_form_of m) refl refl (and_true (and_true r refl) refl) refl refl refl refl refl (and_true (le-leb (0 + bytes_for N + bytes_for N) size_sum_limit (omega arith)) refl)

  passes_10 : refusal_of (R9 N m) or_form ≡ None
  unfolding computing
  passes_10 = passes (R9 N m) or_form refl refl refl refl refl refl refl refl (and_true (le-leb (0 + bytes_for N + bytes_for N + bytes_for N) size_sum_limit (omega arith)) refl)

  lines_taken : Taken (lines N (bytes_for N) m) start (add (R9 N m) or_form)
  lines_taken =
      next form_1 passes_1 (next form_2 passes_2 (next form_3 passes_3 (next (type_is N (omega arith)) passes_4
      (next (storage_is (bytes_for N) (omega arith)) passes_5 (next form_6 passes_6 (next form_7 passes_7 (next form_8 passes_8
      (next (constant_is m small) passes_9 (next form_10 passes_10 end)))))))))

  ends : at_end (add (R9 N m) or_form) ≡ accepted (tables N m)
  unfolding computing tables
  ends = refl

  -- the ticket of a map reads as the tables written out
  pub reads : read_ticket (ticket_text N m) ≡ accepted (tables N m)
  unfolding read_ticket
  reads =
      rw (le-leb (length (ticket_text N m)) 65536 (omega (arith, ticket_short N m high small)), read_ticket)
      (rw (text_lines N m, split_joined (lines N (bytes_for N) m) (lines_free N (bytes_for N) m)) (all_taken lines_taken ∙ ends))
