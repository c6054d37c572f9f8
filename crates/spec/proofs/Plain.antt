-- Nodes in a listing: without them its text is document 01's listing, and nothing else of an answer changes but what the buffer must hold.
use Prim.Native.Nat.{ℕ, ◌≤◌}
use mathlib.Core.Bool.{Bool, true, false}
use mathlib.Core.List.{List, [], ◌∷◌, ◌++◌, map, append-nil, append_assoc}
use mathlib.Core.Path.{◌≡◌, refl, ap}
use native.Mathlib.Omega.{arith}
use lib.Dec.{leb}
use lib.ListN.{length, length-append}
use borrow.Author.Tests.{leb-true, le-leb}
use Rattle.spec.specs.Text.{digits, bytes, same, line}
use Rattle.spec.specs.Text as text
use Rattle.spec.specs.Lir
use Rattle.spec.specs.Lir.{◌∷ᵛ◌}
use Rattle.spec.specs.Print as print
use Rattle.spec.specs.Print.{each, print_listing, print_plain_listing}
use Rattle.spec.specs.ReadBack.{Field, Line, but_last, plain_line, plain_lines, without_nodes}
use Rattle.spec.specs.Ticket.{Tables}
use Rattle.spec.specs.Read as reading
use Rattle.spec.specs.Read.{read_ticket}
use Rattle.spec.specs.Monad as monad
use Rattle.spec.specs.Monad.{Outcome}
use Rattle.spec.specs.Lower.{lowered}
use Rattle.spec.specs.Answer.{refused, accepted, listing_of, fitted, of_lowering, of_reading, answer, plain_lowering, plain_reading, plain_answer}
use Rattle.spec.proofs.ListingLines.{lines_whole}
use Rattle.spec.proofs.ListingValues.{shape_fields, value_lines, part_lines, values_lines, own_line}
use Rattle.spec.proofs.RoundTrip.{listing_cut, listing_lines, behind_storages, behind_narrowed, behind_instructions, storage_line, storage_fields, narrowed_line, instruction_line, done_line}

but_last_append : {A : Type 0} (xs : List A) (x : A) → but_last (xs ++ x ∷ []) ≡ xs
unfolding but_last
but_last_append [] x = refl
but_last_append (y ∷ []) x = refl
but_last_append (y ∷ z ∷ zs) x = ap (λ (l : List _). y ∷ l) (but_last_append (z ∷ zs) x)

plain_append : (ls ms : List Line) → plain_lines (ls ++ ms) ≡ plain_lines ls ++ plain_lines ms
unfolding plain_lines
plain_append [] ms = refl
plain_append (l ∷ ls) ms = rw (plain_append ls ms, append_assoc)

plain_each : {A : Type 0} (f : A → List ℕ) (g : A → Line) → ((x : A) → plain_line (g x) ≡ f x) → (xs : List A) → plain_lines (map g xs) ≡ each f xs
unfolding plain_lines each
plain_each f g e [] = refl
plain_each f g e (x ∷ xs) = rw (e x, plain_each f g e xs)

-- ---------------------------------------------------------------- each kind of line

plain_storage : (s : Lir.Storage) → plain_line (storage_line s) ≡ print.storage_line s
unfolding plain_line same print.storage_line storage_fields
plain_storage s = refl

plain_narrowed : (n : ℕ) → plain_line (narrowed_line n) ≡ print.narrowed_line n
unfolding plain_line same print.narrowed_line
plain_narrowed n = refl

plain_instruction : (i : Lir.Instruction) → plain_line (instruction_line i) ≡ print.plain_instruction_line i
unfolding plain_line same print.plain_instruction_line
plain_instruction i = rw (but_last_append (print.instruction_fields i.kind) (digits i.node))

plain_done : (d : Lir.Done) → plain_line (done_line d) ≡ print.done_line d
unfolding plain_line same print.done_line
plain_done d = refl

plain_done_alone : (d : Lir.Done) → plain_lines (done_line d ∷ []) ≡ print.done_line d
unfolding plain_lines
plain_done_alone d = rw (plain_done d) (append-nil _)

mutual
  unfolding plain_lines plain_line same print.value_lines print.repr_lines print.values_lines print.value_line value_lines part_lines values_lines shape_fields

  plain_value : (v : Lir.Value) → plain_lines (value_lines v) ≡ print.value_lines v
  plain_value (Lir.value ty r) = plain_repr r ty

  plain_repr : (r : Lir.Repr) (ty : ℕ) → plain_lines (own_line ty r ∷ part_lines r) ≡ print.repr_lines ty r
  plain_repr Lir.unit ty = append-nil _
  plain_repr (Lir.bit_value b) ty = append-nil _
  plain_repr (Lir.bytes_value bs) ty = append-nil _
  plain_repr (Lir.aggregate vs) ty = rw (plain_values vs)

  plain_values : (vs : Lir.Values) → plain_lines (values_lines vs) ≡ print.values_lines vs
  plain_values Lir.no_values = refl
  plain_values (v ∷ᵛ vs) = rw (plain_append (value_lines v) (values_lines vs), plain_value v, plain_values vs)

-- ---------------------------------------------------------------- the listing

-- a printed listing without its nodes is document 01's
pub plain_listing : (l : Lir.Listing) → without_nodes (print_listing l) ≡ print_plain_listing l
unfolding without_nodes print_plain_listing listing_lines behind_storages behind_narrowed behind_instructions
plain_listing l = rw (
  lines_whole (listing_cut l),
  plain_append (map storage_line l.storages) (behind_storages l),
  plain_append (map narrowed_line l.narrowed) (behind_narrowed l),
  plain_append (map instruction_line l.instructions) (behind_instructions l),
  plain_append (value_lines l.value) (done_line l.done ∷ []),
  plain_each print.storage_line storage_line plain_storage l.storages,
  plain_each print.narrowed_line narrowed_line plain_narrowed l.narrowed,
  plain_each print.plain_instruction_line instruction_line plain_instruction l.instructions,
  plain_value l.value,
  plain_done_alone l.done,
) (simp append_assoc)

-- ---------------------------------------------------------------- the answer

fields_append : (fs gs : List Field) → text.fields (fs ++ gs) ≡ text.fields fs ++ text.fields gs
unfolding text.fields
fields_append [] gs = refl
fields_append (f ∷ fs) gs = rw (fields_append fs gs, append_assoc)

shorter_line : (w : Field) (fs gs : List Field) → length (line w fs) ≤ length (line w (fs ++ gs))
unfolding line
shorter_line w fs gs = rw (fields_append fs gs) (simp length-append (omega arith))

shorter_instructions : (is : List Lir.Instruction) → length (each print.plain_instruction_line is) ≤ length (each print.instruction_line is)
unfolding each print.plain_instruction_line print.instruction_line
shorter_instructions [] = omega arith
shorter_instructions (i ∷ is) =
    let h = shorter_line (bytes "i") (print.instruction_fields i.kind) (digits i.node ∷ []) in
    let t = shorter_instructions is in
    simp length-append (omega arith)

shorter : (l : Lir.Listing) → length (print_plain_listing l) ≤ length (print_listing l)
unfolding print_plain_listing print_listing
shorter l = let h = shorter_instructions l.instructions in simp length-append (omega arith)

fitted_plain : (room : ℕ) (l : Lir.Listing) (s : List ℕ) → fitted room (print_listing l) ≡ accepted s → fitted room (print_plain_listing l) ≡ accepted (without_nodes s)
unfolding fitted
fitted_plain room l s e = go (leb (length (print_listing l)) room) refl e
  where
    go : (b : Bool) → leb (length (print_listing l)) room ≡ b → elim b [ true ↦ accepted (print_listing l) | false ↦ refused 28 0 ] ≡ accepted s
        → fitted room (print_plain_listing l) ≡ accepted (without_nodes s)
    go true h f =
        let g : print_listing l ≡ s = cc in
        let k = shorter l in
        let m = leb-true (length (print_listing l)) room h in
        rw (le-leb (length (print_plain_listing l)) room (omega arith), fitted, ← plain_listing l, g)
    go false h f = let z : ◌≡◌ {A = ℕ} 0 1 = cc in absurd (omega arith)

-- accepted with the nodes: accepted without them, and the listing is the same but for them
pub plainly_accepted : (ticket s : List ℕ) (room : ℕ) → answer ticket room ≡ accepted s → plain_answer ticket room ≡ accepted (without_nodes s)
unfolding answer plain_answer of_reading plain_reading of_lowering plain_lowering
plainly_accepted ticket s room e = read (read_ticket ticket) e
  where
    lower : (T : Tables) (x : Outcome Lir.Value) → of_lowering T room x ≡ accepted s → plain_lowering T room x ≡ accepted (without_nodes s)
    lower T (monad.refused n l) f = let z : ◌≡◌ {A = ℕ} 0 1 = cc in absurd (omega arith)
    lower T (monad.done v c o) f = fitted_plain room (listing_of T v c o) s f

    read : (r : reading.Read) → of_reading room r ≡ accepted s → plain_reading room r ≡ accepted (without_nodes s)
    read (reading.refused n l) f = let z : ◌≡◌ {A = ℕ} 0 1 = cc in absurd (omega arith)
    read (reading.accepted T) f = lower T (lowered T) f

fitted_refused : (room n l : ℕ) (L : Lir.Listing) → fitted room (print_plain_listing L) ≡ refused n l → fitted room (print_listing L) ≡ refused n l
unfolding fitted
fitted_refused room n l L e = go (leb (length (print_listing L)) room) refl
  where
    short : (b : Bool) → elim b [ true ↦ accepted (print_plain_listing L) | false ↦ refused 28 0 ] ≡ refused n l → refused 28 0 ≡ refused n l
    short true k = let z : ◌≡◌ {A = ℕ} 0 1 = cc in absurd (omega arith)
    short false k = k

    go : (b : Bool) → leb (length (print_listing L)) room ≡ b → fitted room (print_listing L) ≡ refused n l
    go true h =
        let g = fitted_plain room L (print_listing L) (rw (h, fitted)) in
        let z : ◌≡◌ {A = ℕ} 0 1 = cc in absurd (omega arith)
    go false h = rw (h, fitted) (short (leb (length (print_plain_listing L)) room) e)

-- refused without the nodes: refused alike with them
pub plainly_refused : (ticket : List ℕ) (room n l : ℕ) → plain_answer ticket room ≡ refused n l → answer ticket room ≡ refused n l
unfolding answer plain_answer of_reading plain_reading of_lowering plain_lowering
plainly_refused ticket room n l e = read (read_ticket ticket) e
  where
    lower : (T : Tables) (x : Outcome Lir.Value) → plain_lowering T room x ≡ refused n l → of_lowering T room x ≡ refused n l
    lower T (monad.refused m k) f = f
    lower T (monad.done v c o) f = fitted_refused room n l (listing_of T v c o) f

    read : (r : reading.Read) → plain_reading room r ≡ refused n l → of_reading room r ≡ refused n l
    read (reading.refused m k) f = f
    read (reading.accepted T) f = lower T (lowered T) f
