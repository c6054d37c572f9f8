-- THE ROUND TRIP: a printed listing is read back as itself.
use Prim.Native.Nat.{ℕ, ◌≤◌}
use Prim.Native.String.{String}
use mathlib.Core.Bool.{false}
use mathlib.Core.List.{List, [], ◌∷◌, ◌++◌, map, append_assoc}
use Rattle.std.specs.Prelude.{Some}
use mathlib.Core.Path.{◌≡◌, refl, ◌∙◌}
use native.Mathlib.Omega.{arith}
use lib.ListN.{length, length-append}
use Rattle.spec.specs.Text.{digits, bytes, same}
use Rattle.spec.specs.Lir
use Rattle.spec.specs.Print as print
use Rattle.spec.specs.Print.{print_listing}
use Rattle.spec.specs.ReadBack as read
use Rattle.spec.specs.ReadBack.{Reader, Field, Line, nth, ◌>>=◌, pure, line_of, read_listing}
use Rattle.spec.proofs.ListingReaders.{Takes, takes_then, takes_last, takes_next, takes_all, whole_of}
use Rattle.spec.proofs.ListingFields.{Fields, already, thens, then_next, last, number_field, operator_field}
use Rattle.spec.proofs.ListingInstructions.{kind_fields}
use Rattle.spec.proofs.ListingLines.{Lines, lines_append, lines_whole, one_line, each_line, line_back, line_other, Ends, other, several_then}
use Rattle.spec.proofs.ListingValues.{shape_fields, value_lines, value_cut, value_back}

-- ---------------------------------------------------------------- storages

purpose : (p : Lir.Purpose) → nth read.purposes (print.purpose_number p) ≡ Some p
unfolding nth read.purposes print.purpose_number
purpose Lir.tmp = refl
purpose Lir.add_carry = refl
purpose Lir.subtract_borrow = refl
purpose Lir.negate_borrow = refl
purpose Lir.pointer_carry = refl
purpose Lir.compare = refl
purpose Lir.integer_to_boolean = refl
purpose Lir.condition = refl
purpose Lir.read_bool = refl
purpose Lir.select_bool = refl

kind : (k : Lir.StorageKind) → read.kind_of (print.kind_number k) (print.kind_length k) ≡ Some k
unfolding read.kind_of print.kind_number print.kind_length
kind Lir.bit = refl
kind Lir.byte = refl
kind (Lir.bytes n) = refl
kind Lir.carry = refl

unfoldable pub storage_fields : Lir.Storage → List Field
storage_fields s =
    digits s.id ∷ digits (print.kind_number s.kind) ∷ digits (print.kind_length s.kind) ∷
    digits (print.purpose_number s.purpose) ∷ digits s.number ∷ digits s.regions ∷ []

storage_back : (s : Lir.Storage) → Fields read.storage (storage_fields s) s
unfolding read.storage storage_fields
storage_back s =
    then_next _ (number_field s.id) (
    then_next _ (number_field (print.kind_number s.kind)) (
    then_next _ (number_field (print.kind_length s.kind)) (
    already _ s.kind (kind s.kind) (
    then_next _ (operator_field read.purposes (print.purpose_number s.purpose) s.purpose (purpose s.purpose)) (
    then_next _ (number_field s.number) (
    last _ (number_field s.regions)))))))

-- ---------------------------------------------------------------- narrowed, instructions, done

abbrev pub instruction_fields : Lir.Instruction → List Field
instruction_fields i = print.instruction_fields i.kind ++ digits i.node ∷ []

instruction_back : (i : Lir.Instruction) → Fields read.instruction (instruction_fields i) i
unfolding read.instruction
instruction_back i = thens _ (kind_fields i.kind) (last _ (number_field i.node))

abbrev pub done_fields : Lir.Done → List Field
done_fields d = digits d.instructions ∷ digits d.storages ∷ digits d.next ∷ []

done_back : (d : Lir.Done) → Fields read.done (done_fields d) d
unfolding read.done
done_back d = then_next _ (number_field d.instructions) (then_next _ (number_field d.storages) (last _ (number_field d.next)))

-- ---------------------------------------------------------------- the listing's lines

abbrev pub storage_line : Lir.Storage → Line
storage_line s = bytes "storage" ∷ storage_fields s

abbrev pub narrowed_line : ℕ → Line
narrowed_line n = bytes "narrowed" ∷ digits n ∷ []

abbrev pub instruction_line : Lir.Instruction → Line
instruction_line i = bytes "i" ∷ instruction_fields i

abbrev pub done_line : Lir.Done → Line
done_line d = bytes "done" ∷ done_fields d

storage_cut : (s : Lir.Storage) → Lines (print.storage_line s) (storage_line s ∷ [])
unfolding print.storage_line storage_fields
storage_cut s = one_line (record { no_comma = refl; no_feed = refl }) (storage_back s).clean

narrowed_cut : (n : ℕ) → Lines (print.narrowed_line n) (narrowed_line n ∷ [])
unfolding print.narrowed_line
narrowed_cut n = one_line (record { no_comma = refl; no_feed = refl }) (number_field n).clean

instruction_cut : (i : Lir.Instruction) → Lines (print.instruction_line i) (instruction_line i ∷ [])
unfolding print.instruction_line
instruction_cut i = one_line (record { no_comma = refl; no_feed = refl }) (instruction_back i).clean

done_cut : (d : Lir.Done) → Lines (print.done_line d) (done_line d ∷ [])
unfolding print.done_line
done_cut d = one_line (record { no_comma = refl; no_feed = refl }) (done_back d).clean

-- what stands behind the storages, the narrowed ones, the instructions
unfoldable pub behind_instructions : Lir.Listing → List Line
behind_instructions l = value_lines l.value ++ (done_line l.done ∷ [])

unfoldable pub behind_narrowed : Lir.Listing → List Line
behind_narrowed l = map instruction_line l.instructions ++ behind_instructions l

unfoldable pub behind_storages : Lir.Listing → List Line
behind_storages l = map narrowed_line l.narrowed ++ behind_narrowed l

unfoldable pub listing_lines : Lir.Listing → List Line
listing_lines l = map storage_line l.storages ++ behind_storages l

pub listing_cut : (l : Lir.Listing) → Lines (print_listing l) (listing_lines l)
unfolding print_listing listing_lines behind_storages behind_narrowed behind_instructions
listing_cut l = simp append_assoc (
    lines_append (each_line print.storage_line storage_line storage_cut l.storages) (
    lines_append (each_line print.narrowed_line narrowed_line narrowed_cut l.narrowed) (
    lines_append (each_line print.instruction_line instruction_line instruction_cut l.instructions) (
    lines_append (value_cut l.value) (done_cut l.done)))))

-- ---------------------------------------------------------------- where each kind of line ends

ends_each : {A B : Type 0} (w v : String) (m : Reader Field A) (g : B → List Field) → same (bytes w) (bytes v) ≡ false
    → (xs : List B) (rest : List Line) → Ends (line_of w m) rest → Ends (line_of w m) (map (λ x. bytes v ∷ g x) xs ++ rest)
ends_each w v m g n [] rest e = e
ends_each w v m g n (x ∷ xs) rest e = other (line_other w v m (g x) n)

ends_value : {A : Type 0} (w : String) (m : Reader Field A) → same (bytes w) (bytes "value") ≡ false
    → (v : Lir.Value) (rest : List Line) → Ends (line_of w m) (value_lines v ++ rest)
unfolding value_lines
ends_value w m n (Lir.value ty r) rest = other (line_other w "value" m (digits ty ∷ shape_fields r) n)

storages_end : (l : Lir.Listing) → Ends (line_of "storage" read.storage) (behind_storages l)
unfolding behind_storages behind_narrowed behind_instructions same
storages_end l =
    ends_each "storage" "narrowed" read.storage (λ n. digits n ∷ []) refl l.narrowed (behind_narrowed l) (
    ends_each "storage" "i" read.storage instruction_fields refl l.instructions (behind_instructions l) (
    ends_value "storage" read.storage refl l.value (done_line l.done ∷ [])))

narrowed_end : (l : Lir.Listing) → Ends (line_of "narrowed" read.number) (behind_narrowed l)
unfolding behind_narrowed behind_instructions same
narrowed_end l =
    ends_each "narrowed" "i" read.number instruction_fields refl l.instructions (behind_instructions l) (
    ends_value "narrowed" read.number refl l.value (done_line l.done ∷ []))

instructions_end : (l : Lir.Listing) → Ends (line_of "i" read.instruction) (behind_instructions l)
unfolding behind_instructions same
instructions_end l = ends_value "i" read.instruction refl l.value (done_line l.done ∷ [])

-- ---------------------------------------------------------------- the whole

value_and_done : (l : Lir.Listing) (k : ℕ) → length (value_lines l.value) ≤ k
    → Takes (read.value k >>= λ v. read.next (line_of "done" read.done) >>= λ d. pure (record { storages = l.storages; narrowed = l.narrowed; instructions = l.instructions; value = v; done = d })) (behind_instructions l) l
unfolding behind_instructions
value_and_done l k h = takes_then _ (value_back l.value k h) (takes_last _ (takes_next _ (line_back "done" (done_back l.done))))

listing_back : (l : Lir.Listing) (k : ℕ) → length (value_lines l.value) ≤ k → read.listing k (listing_lines l) ≡ Some (record { it = l; rest = [] })
unfolding read.listing listing_lines behind_storages behind_narrowed
listing_back l k h =
    several_then (line_of "storage" read.storage) storage_line (λ s. line_back "storage" (storage_back s)) l.storages (behind_storages l) (storages_end l) _
    ∙ several_then (line_of "narrowed" read.number) narrowed_line (λ n. line_back "narrowed" (number_field n)) l.narrowed (behind_narrowed l) (narrowed_end l) _
    ∙ several_then (line_of "i" read.instruction) instruction_line (λ i. line_back "i" (instruction_back i)) l.instructions (behind_instructions l) (instructions_end l) _
    ∙ takes_all (value_and_done l k h)

-- there are at least as many lines as the value has
lines_enough : (l : Lir.Listing) → length (value_lines l.value) ≤ length (listing_lines l)
unfolding listing_lines behind_storages behind_narrowed behind_instructions
lines_enough l = simp length-append (omega arith)

pub round_trip : (l : Lir.Listing) → read_listing (print_listing l) ≡ Some l
unfolding read_listing
round_trip l = rw (lines_whole (listing_cut l)) (whole_of _ _ (listing_back l (length (listing_lines l)) (lines_enough l)))
