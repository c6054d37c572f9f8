-- Run, the listing of a map's ticket opens exactly the valves named and those already open. The premises are that the public function accepted
-- the map, that the ticket's lowering is accepted, and that the variable's number is one of N bits.
use Prim.Native.Nat.{ℕ, ◌+◌, ◌^◌, ◌≤◌, ◌<◌}
use mathlib.Core.Path.{◌≡◌, refl, sym}
use mathlib.Core.Bool.{Bool, true, false}
use mathlib.Core.List.{List}
use Rattle.std.specs.Prelude.{Option, None, Some, Ok}
use native.Mathlib.Omega.{arith}
use lib.Dec.{eqb, leb}
use lib.ListN.{length, take}
use lib.Bits.{or_lt}
use lib.Pow.{pow_mono}
use borrow.Author.Tests.{leb-true, le-leb, lt-ltb}
use Rattle.numerics.specs.Numerics.{ior}
use Rattle.spec.specs.Ticket.{expr_at}
use Rattle.spec.specs.Readable.{root}
use Rattle.spec.specs.Read.{read_ticket}
use Rattle.spec.specs.Read as reading
use Rattle.spec.specs.Machine.{Memory, Proper, Given}
use Rattle.spec.specs.Typed.{typed, single_operation, is_leaf, is_bits}
use Rattle.spec.specs.Eval.{number, eval, in_order, read_inside, read_data, located, stored_data, word_data, plain_data, fits, binary_numeric, storage_bytes}
use Rattle.spec.specs.Answer.{refused, accepted, answer, computing, fitted}
use Rattle.spec.specs.Answer as spec-answer
use Rattle.spec.proofs.Bools.{and_true}
use Rattle.spec.proofs.Demand2.{demand_2}
use Rattle.valves.specs.Maps.{mask_valves, list_valves, rising, map_number, when, board_map}
use Rattle.valves.specs.Tickets.{bytes_for, ticket_text, on_board, eight_bytes, of_map, mask_answer, list_answer}
use Rattle.valves.specs.Shown.{Answers}
use Rattle.valves.specs.Opening.{tables, held, Opens}
use Rattle.valves.proofs.Reading.{reads}
use Rattle.valves.proofs.Bits.{map_small, or_opens}

-- ---------------------------------------------------------------- the expression

module _ (N m : ℕ) where
  single : single_operation (root (tables N m)) ≡ true
  unfolding root expr_at tables single_operation is_leaf
  single = refl

  right : typed (tables N m) (root (tables N m)) ≡ true
  unfolding root expr_at tables typed is_bits
  right = refl

  module _ (G : Given) (M : Memory) where
    means : eval (tables N m) G M (root (tables N m)) ≡ Some (number (bytes_for N) (ior N (held M N) m))
    unfolding computing tables eval read_data located stored_data word_data plain_data binary_numeric held
    means = refl

    ordered : held M N < 2 ^ N → m < 2 ^ N → in_order (tables N m) M (root (tables N m)) ≡ true
    unfolding computing tables in_order read_inside read_data located stored_data word_data plain_data fits storage_bytes held
    ordered a b = and_true (and_true (le-leb (0 + bytes_for N) (bytes_for N) (omega arith)) (lt-ltb (held M N) (2 ^ N) a)) (lt-ltb m (2 ^ N) b)

-- ---------------------------------------------------------------- what is accepted

never : (n l : ℕ) (t : List ℕ) → refused n l ≡ accepted t → ⊥
never n l t e = let z : ◌≡◌ {A = ℕ} 0 1 = cc in omega arith

-- the text t is the ticket of a map of N valves, those named by o
pub record Made (N : ℕ) (o : Option (List ℕ)) (t : List ℕ) : Type 0 where
  pub low : 1 ≤ N
  pub high : N ≤ 64
  pub valves : List ℕ
  pub named : o ≡ Some valves
  pub rises : rising N 0 valves ≡ true
  pub is : t ≡ ticket_text N (map_number valves)

by_board : (N : ℕ) (a : spec-answer.Answer) (t : List ℕ) → on_board N a ≡ accepted t → (1 ≤ N) × (N ≤ 64) × (a ≡ accepted t)
unfolding on_board
by_board N a t e = by (leb 1 N) refl (leb N 64) refl e
  where
    by : (x : Bool) → leb 1 N ≡ x → (y : Bool) → leb N 64 ≡ y → on_board N a ≡ accepted t → (1 ≤ N) × (N ≤ 64) × (a ≡ accepted t)
    by true f true g e = (leb-true 1 N f, leb-true N 64 g, rw (f, g, on_board) at e)
    by true f false g e = absurd (never 35 0 t (rw (f, g, on_board) at e))
    by false f y g e = absurd (never 35 0 t (rw (f, on_board) at e))

by_eight : (mask : List ℕ) (a : spec-answer.Answer) (t : List ℕ) → eight_bytes mask a ≡ accepted t → a ≡ accepted t
unfolding eight_bytes
by_eight mask a t e = by (eqb (length mask) 8) refl e
  where
    by : (x : Bool) → eqb (length mask) 8 ≡ x → eight_bytes mask a ≡ accepted t → a ≡ accepted t
    by true f e = rw (f, eight_bytes) at e
    by false f e = absurd (never 36 0 t (rw (f, eight_bytes) at e))

by_room : (room : ℕ) (x t : List ℕ) → fitted room x ≡ accepted t → t ≡ x
unfolding fitted
by_room room x t e = by (leb (length x) room) refl e
  where
    by : (y : Bool) → leb (length x) room ≡ y → fitted room x ≡ accepted t → t ≡ x
    by true f e = let g : accepted x ≡ accepted t = rw (f, fitted) at e in cc
    by false f e = absurd (never 28 0 t (rw (f, fitted) at e))

by_map : (N room : ℕ) (o : Option (List ℕ)) (t : List ℕ) → 1 ≤ N → N ≤ 64 → of_map N room (board_map N o) ≡ accepted t → Made N o t
unfolding of_map board_map
by_map N room None t g h e = absurd (never 35 0 t e)
by_map N room (Some vs) t g h e = by (rising N 0 vs) refl e
  where
    by : (x : Bool) → rising N 0 vs ≡ x → of_map N room (when x (map_number vs)) ≡ accepted t → Made N (Some vs) t
    by true f e = record { low = g; high = h; valves = vs; named = refl; rises = f; is = by_room room (ticket_text N (map_number vs)) t e }
    by false f e = absurd (never 35 0 t e)

module _ (N : ℕ) (map : List ℕ) (room : ℕ) (t : List ℕ) where
  pub mask_made : mask_answer N map room ≡ accepted t → Made N (Some (mask_valves map)) t
  unfolding mask_answer
  mask_made e =
      let b = by_board N (eight_bytes map (of_map N room (board_map N (Some (mask_valves map))))) t e in
      by_map N room (Some (mask_valves map)) t b.0 b.1 (by_eight map (of_map N room (board_map N (Some (mask_valves map)))) t b.2)

  pub list_made : list_answer N map room ≡ accepted t → Made N (list_valves map) t
  unfolding list_answer
  list_made e =
      let b = by_board N (of_map N room (board_map N (list_valves map))) t e in
      by_map N room (list_valves map) t b.0 b.1 b.2

-- ---------------------------------------------------------------- what is run

module _ (N : ℕ) (o : Option (List ℕ)) (t : List ℕ) (d : Made N o t) where
  small : map_number d.valves < 2 ^ N
  small = map_small N d.valves d.rises

  map_64 : map_number d.valves < 2 ^ 64
  map_64 = omega (arith, small, pow_mono d.high)

  pub made_reads : read_ticket t ≡ reading.accepted (tables N (map_number d.valves))
  made_reads = rw d.is (reads N (map_number d.valves) d.low d.high map_64)

  -- the value is the OR, and its valves are those named and those that were open
  pub opens : (buffer s : List ℕ) → answer t (length buffer) ≡ accepted s → (G : Given) (M : Memory) → Proper M → held M N < 2 ^ N → Opens N d.valves G M s
  unfolding tables ior
  opens buffer s e G M p h =
      let m = map_number d.valves in
      let l = demand_2 t buffer s (tables N m) made_reads e (single N m) (right N m) G M p (ordered N m G M h small)
      (number (bytes_for N) (ior N (held M N) m)) (means N m G M) in
      record {
        listing = l.listing;
        reads = l.reads;
        after = l.after;
        runs = l.runs;
        result = ior N (held M N) m;
        value = l.value;
        bound = or_lt N (held M N) m h small;
        opens = λ v a b. or_opens N 0 v (held M N) d.valves d.rises a;
        bytes = λ k. l.bytes 0 k (omega arith);
      }

-- ---------------------------------------------------------------- the public functions

-- the ticket is the first k bytes of the buffer: the premise is what each function ensures where it accepts
module _ (N : ℕ) (map buffer buffer' : List ℕ) (k : ℕ) where
  pub mask_opens : Answers (mask_answer N map (length buffer)) buffer buffer' (Ok k)
      → (room s : List ℕ) → answer (take k buffer') (length room) ≡ accepted s → (G : Given) (M : Memory) → Proper M → held M N < 2 ^ N → Opens N (mask_valves map) G M s
  mask_opens a room s e G M p h =
      let d = mask_made N map (length buffer) (take k buffer') (sym a.answer) in
      let q : d.valves ≡ mask_valves map = cc d.named in
      rw q at (opens N (Some (mask_valves map)) (take k buffer') d room s e G M p h)

  pub list_opens : Answers (list_answer N map (length buffer)) buffer buffer' (Ok k) → (vs : List ℕ) → list_valves map ≡ Some vs
      → (room s : List ℕ) → answer (take k buffer') (length room) ≡ accepted s → (G : Given) (M : Memory) → Proper M → held M N < 2 ^ N → Opens N vs G M s
  list_opens a vs n room s e G M p h =
      let d = list_made N map (length buffer) (take k buffer') (sym a.answer) in
      let q : d.valves ≡ vs = cc (d.named, n) in
      rw q at (opens N (list_valves map) (take k buffer') d room s e G M p h)
