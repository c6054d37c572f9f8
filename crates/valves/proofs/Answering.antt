-- The public functions' answers, by what they tested before.
use Prim.Native.Nat.{ℕ}
use mathlib.Core.Path.{◌≡◌, ap, ◌∙◌}
use mathlib.Core.Bool.{false, ◌&&◌}
use mathlib.Core.List.{List}
use Rattle.std.specs.Prelude.{Option, None, Some, Result, Ok, Err, IsErrAnd, MatchResult, ◌≢◌, nat_le}
use Rattle.std.specs.Option.{ok_or}
use Rattle.std.specs.Array.{IsWholeChunk}
use Rattle.std.proofs.lemmas.Result.{err_from_is_err_and}
use borrow.Author.Tests.{le-leb, lt-leb, eq-eqb, ne_eqb}
use lib.ListN.{length}
use Rattle.spec.specs.Answer.{refused, fitted}
use Rattle.spec.specs.Answer as spec-answer
use Rattle.answers.specs.declared.Refused.{Refused}
use Rattle.answers.proofs.Laws.{refused_by, accepted_by}
use Rattle.valves.specs.Maps.{mask_valves, list_valves, board_map}
use Rattle.valves.specs.Tickets.{ticket_text, on_board, eight_bytes, of_map, mask_answer, list_answer}
use Rattle.valves.specs.Refusals.{refusal_number}
use Rattle.valves.specs.Shown.{Answers, Written}
use Rattle.valves.specs.declared.board.Board.{Board}
use Rattle.valves.specs.declared.refusal.Refusal.{Refusal}

-- ---------------------------------------------------------------- refused, or written

-- the reason that was given where there is nothing
pub because : {X : Type 0} (o : Option X) (e b : Refusal) → Err e ≡ ok_or o b → o ≡ None → e ≡ b
because {X} o e b v n = let f : ◌≡◌ {A = Result X Refusal} (Err e) (Err b) = rw n at v in cc

module _ (a : spec-answer.Answer) (l : List ℕ) where
  module _ (r : Result ℕ (Refused Refusal)) (e : Refusal) (p : IsErrAnd r (λ x. x ≡ record { refusal = e; line = 0 })) where
    told : r ≡ Err (record { refusal = e; line = 0 })
    told = let q = err_from_is_err_and r p in q.1 ∙ ap Err q.2

    pub refuses : (b : Refusal) → e ≡ b → a ≡ refused (refusal_number b) 0 → Answers a l l r
    refuses b g q = rw (told, g) (refused_by _ a l (record { refusal = b; line = 0 }) q)

    pub too_long : (x l' : List ℕ) → Written x l l' (Err e) → a ≡ fitted (length l) x → Answers a l l' r
    unfolding fitted
    too_long x l' w q = rw w.2 (refuses Refusal.LongTicket w.0 (q ∙ rw (lt-leb (length x) (length l) w.1, fitted)))

  pub fits : (x l' : List ℕ) (k : ℕ) → Written x l l' (Ok k) → a ≡ fitted (length l) x → Answers a l l' (Ok k)
  unfolding fitted
  fits x l' k w q = accepted_by _ a l x l' k (q ∙ rw (le-leb (length x) (length l) w.1, fitted)) w.0 w.2

-- ---------------------------------------------------------------- the tests

module _ (a : spec-answer.Answer) where
  no_board : (N : ℕ) → (nat_le 1 N && nat_le N 64) ≡ false → on_board N a ≡ refused 35 0
  unfolding on_board
  no_board N h = rw (h, on_board)

  a_board : (b : Board) → on_board b.valves a ≡ a
  unfolding on_board
  a_board b = rw (le-leb 1 b.valves b.positive, le-leb b.valves 64 b.fits, on_board)

  other_bytes : (mask : List ℕ) → (length mask ≡ 8 → ⊥) → eight_bytes mask a ≡ refused 36 0
  unfolding eight_bytes
  other_bytes mask h = rw (ne_eqb (length mask) 8 h, eight_bytes)

  eight : (mask : List ℕ) → length mask ≡ 8 → eight_bytes mask a ≡ a
  unfolding eight_bytes
  eight mask h = rw (eq-eqb (length mask) 8 h, eight_bytes)

module _ (N room : ℕ) (o : Option ℕ) where
  no_map : None ≡ o → of_map N room o ≡ refused 35 0
  unfolding of_map
  no_map e = rw (← e)

  some_map : (m : ℕ) → Some m ≡ o → of_map N room o ≡ fitted room (ticket_text N m)
  unfolding of_map
  some_map m e = rw (← e)

-- ---------------------------------------------------------------- a mask

module _ (mask : List ℕ) (room : ℕ) where
  pub mask_board : (N : ℕ) → (nat_le 1 N && nat_le N 64) ≡ false → mask_answer N mask room ≡ refused 35 0
  unfolding mask_answer
  mask_board N h = no_board _ N h

  module _ (b : Board) where
    pub mask_other : (length mask ≡ 8 → ⊥) → mask_answer b.valves mask room ≡ refused 36 0
    unfolding mask_answer
    mask_other k = a_board _ b ∙ other_bytes _ mask k

    module _ (k : length mask ≡ 8) where
      pub mask_faulty : None ≡ board_map b.valves (Some (mask_valves mask)) → mask_answer b.valves mask room ≡ refused 35 0
      unfolding mask_answer
      mask_faulty e = a_board _ b ∙ eight _ mask k ∙ no_map b.valves room _ e

      pub mask_is : (m : ℕ) → Some m ≡ board_map b.valves (Some (mask_valves mask)) → mask_answer b.valves mask room ≡ fitted room (ticket_text b.valves m)
      unfolding mask_answer
      mask_is m e = a_board _ b ∙ eight _ mask k ∙ some_map b.valves room _ m e

-- eight bytes as an array
module _ {E : Type 0} (s : List ℕ) where
  pub not_eight : (r : Result (List ℕ) E) (e : Refusal) (K : E → Type 0) → MatchResult r (λ y. IsWholeChunk s y 8) (λ _. length s ≢ 8)
      → MatchResult r (λ x. ◌≡◌ {A = Result (List ℕ) Refusal} (Err e) (Ok x)) K → (x : E) × K x × (length s ≢ 8)
  not_eight (Ok y) e K h k = cc
  not_eight (Err x) e K h k = (x, k, h)

  pub is_eight : (r : Result (List ℕ) E) (y : List ℕ) → MatchResult r (λ y. IsWholeChunk s y 8) (λ _. length s ≢ 8)
      → MatchResult r (λ x. ◌≡◌ {A = Result (List ℕ) Refusal} (Ok y) (Ok x)) (λ _. ⊥) → IsWholeChunk s y 8
  is_eight (Ok z) y h k = let f : y ≡ z = cc in rw f h
  is_eight (Err x) y h k = absurd k

-- ---------------------------------------------------------------- a list

module _ (list : List ℕ) (room : ℕ) where
  pub list_board : (N : ℕ) → (nat_le 1 N && nat_le N 64) ≡ false → list_answer N list room ≡ refused 35 0
  unfolding list_answer
  list_board N h = no_board _ N h

  module _ (b : Board) where
    pub list_faulty : None ≡ board_map b.valves (list_valves list) → list_answer b.valves list room ≡ refused 35 0
    unfolding list_answer
    list_faulty e = a_board _ b ∙ no_map b.valves room _ e

    pub list_is : (m : ℕ) → Some m ≡ board_map b.valves (list_valves list) → list_answer b.valves list room ≡ fitted room (ticket_text b.valves m)
    unfolding list_answer
    list_is m e = a_board _ b ∙ some_map b.valves room _ m e
