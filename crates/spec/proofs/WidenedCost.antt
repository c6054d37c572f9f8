-- Lowering with the Rust's select chooses no bit for a byte: a ticket that it accepts keeps the bounds that it had.
use Prim.Native.Nat.{ℕ, ◌+◌, ◌*◌, ◌≤◌}
use mathlib.Core.Bool.{Bool, true, false}
use mathlib.Core.List.{List, [], ◌∷◌}
use Rattle.std.specs.Prelude.{Some}
use Rattle.std.proofs.lemmas.Option.{same_Some}
use mathlib.Core.Path.{◌≡◌, refl, sym, ap, ◌∙◌}
use native.Mathlib.Omega.{arith}
use lib.ListN.{length}
use Rattle.spec.specs.Hir.{At, Expr, boolean, integer, float32, float64, null_pointer, static_address, function_address, read, integer_unary, integer_binary, float_unary, float_binary, compare, convert, select, address_of, pointer_offset, aggregate, extract_element, insert_element, Exprs, no_exprs, ◌∷ᵉ◌}
use Rattle.spec.specs.Ticket.{Tables, nowhere}
use Rattle.spec.specs.Read.{read_ticket}
use Rattle.spec.specs.Read as reading
use Rattle.spec.specs.Readable.{TypesRight, root}
use Rattle.spec.specs.Lir.{Storage, BitOperand, ValueOperand, bit_operand, byte_operand, ValueStorage, bit_storage, byte_storage, InstructionKind, Value, Listing}
use Rattle.spec.specs.Monad.{Counters, Out, Outcome, refused, done, Lower, prepend, bind_to, ◌>>=◌, ◌>>◌, pure, refuse, own, emit, or_refuse, require}
use Rattle.spec.specs.Allocation.{Location}
use Rattle.spec.specs.ReadBack.{read_listing}
use Rattle.spec.specs.Lower.{as_bit}
use Rattle.spec.specs.Answer as answers
use Rattle.spec.specs.Answer.{accepted, listing_of, of_lowering}
use Rattle.spec.specs.Demands.{chosen_bits, total_size, Costs}
use Rattle.spec.specs.BeforeSelect as before
use Rattle.spec.proofs.Answers.{kept}
use Rattle.spec.proofs.RoundTrip.{round_trip}
use Rattle.spec.proofs.ReadingTicket.{readable}
use Rattle.spec.proofs.CostLogic.{Cost, Ok, Does, chosen_append}
use Rattle.spec.proofs.CostReads.{read_location_does}
use Rattle.spec.proofs.CostTemporary.{temporary_does}
use Rattle.spec.proofs.CostArithmetic.{lower_integer_unary_does, lower_integer_binary_does}
use Rattle.spec.proofs.CostConversions.{lower_compare_does, value_as_bit_does, lower_conversion_does}
use Rattle.spec.proofs.CostPlaces.{lower_read_does}
use Rattle.spec.proofs.CostSelect.{lower_address_of_does, lower_static_address_does, lower_function_address_does, lower_pointer_offset_does}
use Rattle.spec.proofs.CostLocal.{integer_does, extract_does, insert_does}
use Rattle.spec.proofs.CostClosed.{all_here}
use Rattle.spec.proofs.Demand3.{demand_3_plain}

-- ---------------------------------------------------------------- steps that choose no such bit

abbrev PlainOutcome : {A : Type 0} → Outcome A → Type 0
PlainOutcome (refused n l) = Unit {0}
PlainOutcome (done a c o) = chosen_bits o.storages ≡ 0

record Plain {A : Type 0} (m : Lower A) : Type 0 where
  runs : (h : At) (c : Counters) → PlainOutcome (m h c)

-- by its cost
by_cost : {A : Type 0} {m : Lower A} {Q : List Storage → A → Type 0} (k : Cost) → ((L : List Storage) → Does L (Unit {0}) m k (Q L)) → k.chosen ≡ 0 → Plain m
by_cost {A} {m} {Q} k f e = record { runs = λ h c. go c (m h c) (λ L. (f L).run h c) }
  where
    go : (c : Counters) (x : Outcome A) → ((L : List Storage) → Ok L (Unit {0}) k (Q L) c x) → PlainOutcome x
    go c (refused n l) g = tt
    go c (done a d o) g = let r = g o.storages in omega (arith, (r.1 tt (all_here c.storage o.storages r.0.ids)).cost.chosen)

plain_prepend : {A : Type 0} (o : Out) (x : Outcome A) → chosen_bits o.storages ≡ 0 → PlainOutcome x → PlainOutcome (prepend o x)
plain_prepend o (refused n l) e p = tt
plain_prepend o (done a c q) e p = omega (arith, chosen_append o.storages q.storages)

plain_bind : {A B : Type 0} (f : A → Lower B) (h : At) (x : Outcome A) → PlainOutcome x → ((a : A) → Plain (f a)) → PlainOutcome (bind_to f h x)
plain_bind f h (refused n l) p g = tt
plain_bind f h (done a c o) p g = plain_prepend o (f a h c) p ((g a).runs h c)

infixr 20 ◌then◌
◌then◌ : {A B : Type 0} {m : Lower A} {f : A → Lower B} → Plain m → ((a : A) → Plain (f a)) → Plain (m >>= f)
unfolding ◌>>=◌
◌then◌ {m = m} {f} p g = record { runs = λ h c. plain_bind f h (m h c) (p.runs h c) g }

infixr 20 ◌next◌
◌next◌ : {A B : Type 0} {m : Lower A} {k : Lower B} → Plain m → Plain k → Plain (m >> k)
unfolding ◌>>◌
◌next◌ {m = m} {k} p g = record { runs = λ h c. plain_bind (λ _. k) h (m h c) (p.runs h c) (λ _. g) }

plain_pure : {A : Type 0} {a : A} → Plain (pure a)
unfolding chosen_bits
plain_pure = record { runs = λ h c. refl }

plain_refuse : {A : Type 0} {n : ℕ} → Plain (refuse {A = A} n)
plain_refuse = record { runs = λ h c. tt }

plain_own : {A : Type 0} {m : Lower A} (h : At) → Plain m → Plain (own h m)
plain_own h p = record { runs = λ _ c. p.runs h c }

plain_emit : (k : InstructionKind) → Plain (emit k)
unfolding chosen_bits
plain_emit k = record { runs = λ h c. refl }

plain_require : (n : ℕ) (b : Bool) → Plain (require n b)
unfolding require
plain_require n true = plain_pure
plain_require n false = plain_refuse

-- ---------------------------------------------------------------- the Rust's select

plain_pieces : (c : BitOperand) (ds : List ValueStorage) (ts fs : List ValueOperand) → Plain (before.select_pieces c ds ts fs)
unfolding before.select_pieces before.select_piece or_refuse
plain_pieces c [] ts fs = plain_pure
plain_pieces c (d ∷ ds) [] fs = plain_pure
plain_pieces c (d ∷ ds) (t ∷ ts) [] = plain_pure
plain_pieces c (bit_storage d ∷ ds) (bit_operand t ∷ ts) (bit_operand f ∷ fs) = plain_pure then λ i. plain_emit i next plain_pieces c ds ts fs
plain_pieces c (bit_storage d ∷ ds) (bit_operand t ∷ ts) (byte_operand f ∷ fs) = plain_refuse then λ i. plain_emit i next plain_pieces c ds ts fs
plain_pieces c (bit_storage d ∷ ds) (byte_operand t ∷ ts) (f ∷ fs) = plain_refuse then λ i. plain_emit i next plain_pieces c ds ts fs
plain_pieces c (byte_storage d ∷ ds) (byte_operand t ∷ ts) (byte_operand f ∷ fs) = plain_pure then λ i. plain_emit i next plain_pieces c ds ts fs
plain_pieces c (byte_storage d ∷ ds) (byte_operand t ∷ ts) (bit_operand f ∷ fs) = plain_refuse then λ i. plain_emit i next plain_pieces c ds ts fs
plain_pieces c (byte_storage d ∷ ds) (bit_operand t ∷ ts) (f ∷ fs) = plain_refuse then λ i. plain_emit i next plain_pieces c ds ts fs

module _ (T : Tables) (R : TypesRight T) where
  plain_location : (l : Location) (c : BitOperand) (t f : Value) → Plain (before.select_to_location T l c t f)
  unfolding before.select_to_location
  plain_location l c t f = plain_require _ _ next plain_pieces c _ _ _

  plain_select : (c : BitOperand) (t f : Value) (ty : ℕ) → Plain (before.lower_select T c t f ty)
  unfolding before.lower_select
  plain_select c t f ty =
      by_cost _ (λ L. temporary_does T ty) refl then λ l.
      plain_location l c t f next by_cost _ (λ L. read_location_does T R L l) refl

  plain_condition : (h : At) {m : Lower Value} → Plain m → Plain (as_bit T h m)
  unfolding as_bit
  plain_condition h p = p then λ v. plain_own h (by_cost _ (λ L. value_as_bit_does T v) refl)

  -- ------------------------------------------------------------ the tree

  mutual
    unfolding before.lower_expression

    plain : (e : Expr) → Plain (before.lower_expression T e)
    plain (boolean h b) = plain_pure
    plain (integer h v) = plain_own h (by_cost _ (λ L. integer_does T v h.ty) refl)
    plain (float32 h v) = plain_own h plain_refuse
    plain (float64 h v) = plain_own h plain_refuse
    plain (null_pointer h) = plain_pure
    plain (static_address h k o) = plain_own h (by_cost _ (λ L. lower_static_address_does T R k o) refl)
    plain (function_address h f) = plain_own h (by_cost _ (λ L. lower_function_address_does T R f) refl)
    plain (read h p) = plain_own h (by_cost _ (λ L. lower_read_does T R p h.ty) refl)
    plain (integer_unary h op e) = plain e then λ v. plain_own h (by_cost _ (λ L. lower_integer_unary_does T R op v h.ty) refl)
    plain (integer_binary h op l r) = plain l then λ v. plain r then λ w. plain_own h (by_cost _ (λ L. lower_integer_binary_does T R op v w h.ty) refl)
    plain (float_unary h e) = plain_own h plain_refuse
    plain (float_binary h l r) = plain_own h plain_refuse
    plain (compare h op l r) = plain l then λ v. plain r then λ w. plain_own h (by_cost _ (λ L. lower_compare_does T op v w) refl)
    plain (convert h op e) = plain e then λ v. plain_own h (by_cost _ (λ L. lower_conversion_does T R op v h.ty) refl)
    plain (select h t f c) = plain t then λ v. plain f then λ w. plain_condition h (plain c) then λ b. plain_own h (plain_select b v w h.ty)
    plain (address_of h p) = plain_own h (by_cost _ (λ L. lower_address_of_does T R p) refl)
    plain (pointer_offset h b o) = plain b then λ v. plain o then λ w. plain_own h (by_cost _ (λ L. lower_pointer_offset_does T R v w) refl)
    plain (aggregate h es) = all_plain es then λ vs. plain_pure
    plain (extract_element h e i) = plain e then λ v. plain_own h (by_cost _ (λ L. extract_does T v i) refl)
    plain (insert_element h e i w) = plain e then λ v. plain w then λ x. plain_own h (by_cost _ (λ L. insert_does T v i x h.ty) refl)

    all_plain : (es : Exprs) → Plain (before.lower_expressions T es)
    all_plain no_exprs = plain_pure
    all_plain (e ∷ᵉ es) = plain e then λ v. all_plain es then λ vs. plain_pure

-- ---------------------------------------------------------------- the listing

-- what is accepted so has chosen no bit for a byte
none_chosen : (ticket s : List ℕ) (room : ℕ) (T : Tables) → read_ticket ticket ≡ reading.accepted T → before.answer ticket room ≡ accepted s
    → (l : Listing) → read_listing s ≡ Some l → chosen_bits l.storages ≡ 0
unfolding before.answer before.of_reading before.lowered of_lowering listing_of
none_chosen ticket s room T r a l b = go (before.lowered T) ((plain T (readable ticket T r).types (root T)).runs nowhere _) (rw r at a)
  where
    go : (x : Outcome Value) → PlainOutcome x → of_lowering T room x ≡ accepted s → chosen_bits l.storages ≡ 0
    go (refused n k) p q = absurd (no q)
      where
        no : answers.refused n k ≡ accepted s → ⊥
        no e = let z : ◌≡◌ {A = ℕ} 0 1 = cc in omega arith
    go (done v c o) p q =
        let e : listing_of T v c o ≡ l = same_Some _ _ (sym (round_trip (listing_of T v c o)) ∙ ap read_listing (sym (kept room _ s q)) ∙ b) in
        ap (λ (x : Listing). chosen_bits x.storages) (sym e) ∙ p

-- of a ticket that is accepted with the Rust's select: at most 2S + 2n instructions and S + 2n storages, as before
pub demand_3_before : (ticket buffer s : List ℕ) (T : Tables) → read_ticket ticket ≡ reading.accepted T → before.answer ticket (length buffer) ≡ accepted s
    → (c : Costs (total_size T) (length T.nodes) (length T.storages) s)
    → (length c.listing.instructions ≤ 2 * total_size T + 2 * length T.nodes) × (length c.listing.storages ≤ total_size T + 2 * length T.nodes)
demand_3_before ticket buffer s T r a c = demand_3_plain c (none_chosen ticket s (length buffer) T r a c.listing c.reads)
