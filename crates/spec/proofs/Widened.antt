-- Two bits for a byte: only a ticket that was refused 24 has another answer.
use Prim.Native.Nat.{ℕ}
use mathlib.Core.List.{List, [], ◌∷◌}
use Rattle.std.specs.Prelude.{None, Some}
use mathlib.Core.Path.{◌≡◌, refl}
use native.Mathlib.Omega.{arith}
use Rattle.spec.specs.Text.{text}
use Rattle.spec.specs.Hir.{Expr, boolean, integer, float32, float64, null_pointer, static_address, function_address, read, integer_unary, integer_binary, float_unary, float_binary, compare, convert, select, address_of, pointer_offset, aggregate, extract_element, insert_element, Exprs, no_exprs, ◌∷ᵉ◌}
use Rattle.spec.specs.Ticket.{Tables, nowhere}
use Rattle.spec.specs.Read as reading
use Rattle.spec.specs.Readable.{root}
use Rattle.spec.specs.Lir.{BitOperand, ValueOperand, bit_operand, byte_operand, ValueStorage, bit_storage, byte_storage, InstructionKind, Value}
use Rattle.spec.specs.Monad.{Outcome, Lower, ◌>>=◌, ◌>>◌, emit, or_refuse}
use Rattle.spec.specs.Allocation.{Location}
use Rattle.spec.specs.Select as select
use Rattle.spec.specs.Lower as lower
use Rattle.spec.specs.Answer as answers
use Rattle.spec.specs.Answer.{Answer, of_lowering}
use Rattle.spec.specs.BeforeSelect as before
use Rattle.spec.proofs.Unless.{Unless, alike, refuses, Does, unchanged, ◌then◌, ◌next◌, owned, as_bit_does, at_once}

abbrev Widens : {A : Type 0} → Lower A → Lower A → Type 0
Widens m m' = Does 24 (Unit {0}) m m'

-- ---------------------------------------------------------------- select

one_emitted : (i : InstructionKind) {k k' : Lower Unit} → Widens k k' → Widens (or_refuse 24 (Some i) >>= λ j. emit j >> k) (emit i >> k')
unfolding or_refuse ◌>>=◌
one_emitted i {k} {k'} d = record { ends = λ h c. rw (at_once ((emit i >> k) h c)) ((◌next◌ {m = emit i} unchanged d).ends h c) }

not_chosen : {A B : Type 0} (f : A → Lower B) {m : Lower B} → Widens (or_refuse 24 None >>= f) m
unfolding or_refuse ◌>>=◌
not_chosen f = record { ends = λ h c. refuses tt }

pieces_widen : (c : BitOperand) (ds : List ValueStorage) (ts fs : List ValueOperand) → Widens (before.select_pieces c ds ts fs) (select.select_pieces c ds ts fs)
unfolding before.select_pieces before.select_piece select.select_pieces select.select_piece
pieces_widen c [] ts fs = unchanged
pieces_widen c (d ∷ ds) [] fs = unchanged
pieces_widen c (d ∷ ds) (t ∷ ts) [] = unchanged
pieces_widen c (bit_storage d ∷ ds) (bit_operand t ∷ ts) (bit_operand f ∷ fs) = one_emitted _ (pieces_widen c ds ts fs)
pieces_widen c (bit_storage d ∷ ds) (bit_operand t ∷ ts) (byte_operand f ∷ fs) = not_chosen _
pieces_widen c (bit_storage d ∷ ds) (byte_operand t ∷ ts) (f ∷ fs) = not_chosen _
pieces_widen c (byte_storage d ∷ ds) (byte_operand t ∷ ts) (byte_operand f ∷ fs) = one_emitted _ (pieces_widen c ds ts fs)
pieces_widen c (byte_storage d ∷ ds) (byte_operand t ∷ ts) (bit_operand f ∷ fs) = not_chosen _
pieces_widen c (byte_storage d ∷ ds) (bit_operand t ∷ ts) (f ∷ fs) = not_chosen _

module _ (T : Tables) where
  location_widens : (l : Location) (c : BitOperand) (t f : Value) → Widens (before.select_to_location T l c t f) (select.select_to_location T l c t f)
  unfolding before.select_to_location select.select_to_location
  location_widens l c t f = unchanged next pieces_widen c _ _ _

  -- a select that was not refused 24 is what it was
  pub select_widens : (c : BitOperand) (t f : Value) (ty : ℕ) → Widens (before.lower_select T c t f ty) (select.lower_select T c t f ty)
  unfolding before.lower_select select.lower_select
  select_widens c t f ty = unchanged then λ l. location_widens l c t f next unchanged

  -- ------------------------------------------------------------ the tree

  mutual
    unfolding before.lower_expression lower.lower_expression

    widens : (e : Expr) → Widens (before.lower_expression T e) (lower.lower_expression T e)
    widens (boolean h b) = unchanged
    widens (integer h v) = unchanged
    widens (float32 h v) = unchanged
    widens (float64 h v) = unchanged
    widens (null_pointer h) = unchanged
    widens (static_address h k o) = unchanged
    widens (function_address h f) = unchanged
    widens (read h p) = unchanged
    widens (integer_unary h op e) = widens e then λ v. unchanged
    widens (integer_binary h op l r) = widens l then λ v. widens r then λ w. unchanged
    widens (float_unary h e) = unchanged
    widens (float_binary h l r) = unchanged
    widens (compare h op l r) = widens l then λ v. widens r then λ w. unchanged
    widens (convert h op e) = widens e then λ v. unchanged
    widens (select h t f c) = widens t then λ v. widens f then λ w. as_bit_does T h (widens c) then λ b. owned h (select_widens b v w h.ty)
    widens (address_of h p) = unchanged
    widens (pointer_offset h b o) = widens b then λ v. widens o then λ w. unchanged
    widens (aggregate h es) = all_widen es then λ vs. unchanged
    widens (extract_element h e i) = widens e then λ v. unchanged
    widens (insert_element h e i w) = widens e then λ v. widens w then λ x. unchanged

    all_widen : (es : Exprs) → Widens (before.lower_expressions T es) (lower.lower_expressions T es)
    all_widen no_exprs = unchanged
    all_widen (e ∷ᵉ es) = widens e then λ v. all_widen es then λ vs. unchanged

-- ---------------------------------------------------------------- the answer

-- the same answer, or 24 before
pub data AnswerBut24 : Answer → Answer → Type 0 where
  answered_as_before : {a : Answer} → AnswerBut24 a a
  answered_24 : {l : ℕ} {a : Answer} → AnswerBut24 (answers.refused 24 l) a

-- only tickets once refused 24 may change their answer: listings accepted before keep every byte
pub only_24 : (ticket : List ℕ) (room : ℕ) → AnswerBut24 (before.answer ticket room) (answers.answer ticket room)
unfolding before.answer before.of_reading before.lowered answers.answer answers.of_reading lower.lowered of_lowering
only_24 ticket room = by (reading.read_ticket ticket)
  where
    lowers : (T : Tables) {x y : Outcome Value} → Unless 24 (Unit {0}) x y → AnswerBut24 (of_lowering T room x) (of_lowering T room y)
    lowers T alike = answered_as_before
    lowers T (refuses p) = answered_24

    by : (r : reading.Read) → AnswerBut24 (before.of_reading room r) (answers.of_reading room r)
    by (reading.refused n l) = answered_as_before
    by (reading.accepted T) = lowers T ((widens T (root T)).ends nowhere _)

-- listings accepted before keep every byte
pub accepted_alike : (ticket s : List ℕ) (room : ℕ) → before.answer ticket room ≡ answers.accepted s → answers.answer ticket room ≡ answers.accepted s
accepted_alike ticket s room e = by (only_24 ticket room) e
  where
    by : {a b : Answer} → AnswerBut24 a b → a ≡ answers.accepted s → b ≡ answers.accepted s
    by answered_as_before p = p
    by (answered_24 {l = l}) p = absurd (no p)
      where
        no : answers.refused 24 l ≡ answers.accepted s → ⊥
        no q = let z : ◌≡◌ {A = ℕ} 0 1 = cc in omega arith

-- D9 of docs/DIFFERENCES.md before
pub bits_for_a_byte_refused :
    before.answer (text ("f,0,0" ∷ "t,bool" ∷ "t,pointer" ∷ "n,1,bool,1" ∷ "n,1,bool,0" ∷ "n,1,bool,1" ∷ "n,1,select,0,1,2" ∷ [])) 65536 ≡ answers.refused 24 7
unfolding answers.computing before.select_piece before.select_pieces before.select_to_location before.lower_select before.lower_expression before.lowered before.of_reading before.answer
bits_for_a_byte_refused = refl
