-- Demands 2 and 3 of the bytes that the entry leaves in the buffer. The premise is what `compiler::lower` ensures, whatever the text and the
-- buffer: so each holds of every call. An accepted listing is the buffer's first k bytes; s stands for them in `Costs` and `Leaves`.
use Prim.Native.Nat.{ℕ}
use mathlib.Core.Path.{◌≡◌, refl, sym, ap, ◌∙◌}
use mathlib.Core.Bool.{true}
use mathlib.Core.List.{List, ◌++◌}
use Rattle.std.specs.Prelude.{Some, Ok, Err}
use native.Mathlib.Omega.{arith}
use lib.ListN.{length, take, drop}
use lib.Seq.{length-take-le, drop_at}
use Rattle.spec.specs.Ticket.{Tables}
use Rattle.spec.specs.Readable.{root}
use Rattle.spec.specs.Read.{read_ticket}
use Rattle.spec.specs.Read as reading
use Rattle.spec.specs.Machine.{Memory, Proper, Given}
use Rattle.spec.specs.Typed.{typed, single_operation}
use Rattle.spec.specs.Eval.{Data, eval, in_order}
use Rattle.spec.specs.Demands.{total_size, Costs, Leaves}
use Rattle.spec.specs.Answer.{accepted, of_reading, answer, left_in}
use Rattle.spec.specs.Answer as spec-answer
use Rattle.spec.proofs.Demand2.{demand_2, whole_expression}
use Rattle.spec.proofs.Demand3.{demand_3}
use Rattle.answers.specs.declared.Refusal.{Refusal}
use Rattle.answers.specs.declared.Refused.{Refused}
use Rattle.answers.specs.Answers.{Answers}

-- the tables of a ticket that is accepted
pub record Read (ticket : List ℕ) : Type 0 where
  pub tables : Tables
  pub is : read_ticket ticket ≡ reading.accepted tables

read_of : (ticket s : List ℕ) (room : ℕ) → answer ticket room ≡ accepted s → Read ticket
unfolding answer of_reading
read_of ticket s room e = by (read_ticket ticket) refl e
  where
    by : (o : reading.Read) → read_ticket ticket ≡ o → of_reading room o ≡ accepted s → Read ticket
    by (reading.refused n l) f g = absurd (let z : ◌≡◌ {A = ℕ} 0 1 = cc in omega arith)
    by (reading.accepted T) f g = record { tables = T; is = f }

module _ (ticket buffer buffer' : List ℕ) where
  -- a refusal writes nothing
  pub refusal_of_buffer : (x : Refused Refusal) → Answers (answer ticket (length buffer)) buffer buffer' (Err x) → buffer' ≡ buffer
  unfolding left_in
  refusal_of_buffer x a = a.left ∙ ap (λ (z : spec-answer.Answer). left_in z buffer) (sym a.answer)

  module _ (k : ℕ) (a : Answers (answer ticket (length buffer)) buffer buffer' (Ok k)) where
    -- bytes behind the listing keep their content
    pub rest_of_buffer : drop k buffer' ≡ drop k buffer
    unfolding left_in
    rest_of_buffer =
        let n : length (take k buffer') ≡ k = length-take-le k buffer' a.within in
        let e : buffer' ≡ take k buffer' ++ drop (length (take k buffer')) buffer = a.left ∙ ap (λ (z : spec-answer.Answer). left_in z buffer) (sym a.answer) in
        ap (λ (z : List ℕ). drop k z) e ∙ drop_at (take k buffer') (drop (length (take k buffer')) buffer) k n ∙ ap (λ (z : ℕ). drop z buffer) n

    -- what is accepted was read
    pub read_of_buffer : Read ticket
    read_of_buffer = read_of ticket (take k buffer') (length buffer) (sym a.answer)

    -- DEMAND 3: the first k bytes of the buffer read back as a listing that costs no more than the ticket shows
    pub demand_3_of_buffer : (T : Tables) → read_ticket ticket ≡ reading.accepted T → Costs (total_size T) (length T.nodes) (length T.storages) (take k buffer')
    demand_3_of_buffer T e = demand_3 ticket buffer (take k buffer') T e (sym a.answer)

    -- DEMAND 2: run, they leave the number of the WebAssembly specification
    pub demand_2_of_buffer : (T : Tables) → read_ticket ticket ≡ reading.accepted T → single_operation (root T) ≡ true → typed T (root T) ≡ true
        → (G : Given) (M : Memory) → Proper M → in_order T M (root T) ≡ true → (d : Data) → eval T G M (root T) ≡ Some d
        → Leaves G M (length T.storages) (take k buffer') d
    demand_2_of_buffer T e = demand_2 ticket buffer (take k buffer') T e (sym a.answer)

    -- the same of a whole expression
    pub whole_expression_of_buffer : (T : Tables) → read_ticket ticket ≡ reading.accepted T → typed T (root T) ≡ true
        → (G : Given) (M : Memory) → Proper M → in_order T M (root T) ≡ true → (d : Data) → eval T G M (root T) ≡ Some d
        → Leaves G M (length T.storages) (take k buffer') d
    whole_expression_of_buffer T e = whole_expression ticket buffer (take k buffer') T e (sym a.answer)
