-- The own steps of select, addresses and pointer offsets, each within its budget.
use Prim.Native.Nat.{ℕ, ◌*◌, ◌≤◌}
use mathlib.Core.Bool.{Bool, true, false}
use mathlib.Core.List.{List, [], ◌∷◌, map}
use mathlib.Core.Path.{◌≡◌, refl, sym, ap, ◌∙◌}
use native.Mathlib.Omega.{arith}
use native.Mathlib.Nat.{le_trans, le_of_eq}
use lib.ListN.{length, length-map, take}
use Rattle.spec.specs.Hir.{Place}
use Rattle.spec.specs.Ticket.{Tables, storage_at}
use Rattle.spec.specs.Readable.{TypesRight}
use Rattle.spec.specs.Lir.{Storage, ByteStorage, BitOperand, ValueOperand, bit_operand, byte_operand, ValueStorage, bit_storage, byte_storage, InstructionKind, Value, add, address_of, function_address, flatten_value_operands}
use Rattle.spec.specs.Lir as lir
use Rattle.spec.specs.Monad.{◌>>=◌, ◌>>◌, emit}
use Rattle.spec.specs.Operands.{value_bytes, resize}
use Rattle.spec.specs.Allocation.{pointer_type, Location, allocate_storage, allocate_bit_temporary, allocate_carry, allocate_temporary, location_bytes, location_value_storages}
use Rattle.spec.specs.Places.{is_one}
use Rattle.spec.specs.ReadBytes.{read_location}
use Rattle.spec.specs.Arithmetic.{carry_in, adds, first_storage}
use Rattle.spec.specs.Select.{select_as_byte, select_piece, select_pieces, select_to_location, lower_select, require_addressable, second_storage, materialize_location_address, lower_address_of, lower_static_address, lower_function_address, lower_pointer_offset}
use Rattle.spec.specs.Demands.{kind_bytes, to_byte, writes, all_bytes, chosen_bits, numbered}
use Rattle.spec.proofs.Bools.{and_true}
use borrow.Author.Tests.{eq-eqb}
use Rattle.spec.proofs.CostLogic.{Cost, ◌⊞◌, free, Does, Each, none_left, ◌also◌, each_first, each_rest, Kind, Any, ◌then◌, ◌next◌, within, giving}
use Rattle.spec.proofs.CostSteps.{emitted, allocated, made_inside, answers, refuses, known, required, emitting, emitting_one, narrowing, allocating}
use Rattle.spec.proofs.CostWrites.{Byte, writes_byte, writes_two, writes_bit, carried, zip3_length, zip3_each}
use Rattle.spec.proofs.CostReads.{reading, size_of, weight_of, bools_of, bools_of_le, Small}
use Rattle.spec.proofs.CostTemporary.{Temporary, temporary_count, temporary_does, destined, read_temporary}
use Rattle.spec.proofs.CostShifts.{first_byte}
use Rattle.spec.proofs.CostPlaces.{base_does}

-- ---------------------------------------------------------------- select

-- a bit or a byte of L that a select may write
data Piece (L : List Storage) : ValueStorage → Type 0 where
  bit_piece : {s : ℕ} → Kind L s lir.bit → Piece L (bit_storage s)
  byte_piece : {d : ByteStorage} → Byte L d → Piece L (byte_storage d)

bit_kind : {L : List Storage} {s : ℕ} → Piece L (bit_storage s) → Kind L s lir.bit
bit_kind (bit_piece k) = k

byte_kind : {L : List Storage} {d : ByteStorage} → Piece L (byte_storage d) → Byte L d
byte_kind (byte_piece b) = b

-- n pieces: an instruction each, and one and a bit more where two bits are chosen for a byte
abbrev choosing : ℕ → Cost
choosing n = record { instructions = 2 * n; storages = n; bytes = 0; other_instructions = n; other_storages = 0; chosen = n }

module _ {L : List Storage} (c : BitOperand) where
  -- one step, so that its bit counts for one of its instructions
  as_byte_does : {P : Type 0} (d : ByteStorage) (t f : BitOperand) → (P → Byte L d) → Does L P (select_as_byte c d t f) (choosing 1) Any
  unfolding select_as_byte allocate_bit_temporary allocate_storage ◌>>=◌ ◌>>◌ kind_bytes all_bytes chosen_bits numbered writes
  as_byte_does d t f g =
      record {
        run = λ h c. (
          record { storage = refl; temporary = refl; ids = and_true (eq-eqb c.storage c.storage refl) refl },
          λ given here.
              record {
                cost = omega arith;
                inside = made_inside L h _ (writes_bit refl (each_first here) also writes_byte refl (g given) also none_left);
                result = tt;
              },
        );
      }

  -- a piece is written where it stands; two bits for a byte have a new bit besides
  piece_does : {P : Type 0} (d : ValueStorage) (t f : ValueOperand) → (P → Piece L d) → Does L P (select_piece c d t f) (choosing 1) Any
  unfolding select_piece writes
  piece_does (bit_storage d) (bit_operand t) (bit_operand f) g = within (emitting_one _ (λ p. writes_bit refl (bit_kind (g p)))) (λ p. omega arith)
  piece_does (bit_storage d) (bit_operand t) (byte_operand f) g = refuses
  piece_does (bit_storage d) (byte_operand t) f g = refuses
  piece_does (byte_storage d) (byte_operand t) (byte_operand f) g = within (emitting_one _ (λ p. writes_byte refl (byte_kind (g p)))) (λ p. omega arith)
  piece_does (byte_storage d) (byte_operand t) (bit_operand f) g = refuses
  piece_does (byte_storage d) (bit_operand t) (bit_operand f) g = as_byte_does d t f (λ p. byte_kind (g p))
  piece_does (byte_storage d) (bit_operand t) (byte_operand f) g = refuses

  -- no more pieces than destinations
  pieces_does : {P : Type 0} (ds : List ValueStorage) (ts fs : List ValueOperand) → (P → Each (Piece L) ds)
      → Does L P (select_pieces c ds ts fs) (choosing (length ds)) Any
  unfolding select_pieces
  pieces_does [] ts fs g = within (answers (λ p. tt)) (λ p. omega arith)
  pieces_does (d ∷ ds) [] fs g = within (answers (λ p. tt)) (λ p. omega arith)
  pieces_does (d ∷ ds) (t ∷ ts) [] g = within (answers (λ p. tt)) (λ p. omega arith)
  pieces_does (d ∷ ds) (t ∷ ts) (f ∷ fs) g =
      within
      (piece_does d t f (λ p. each_first (g p)) next λ _.
      pieces_does ds ts fs (λ p. each_rest (g p.0)))
      (λ p. omega arith)

-- what a Bool and a pointer are
bool_size : (T : Tables) → TypesRight T → size_of T 0 ≡ 1
bool_size T R = R.sized 0 ∙ rw R.bool_first

pointer_size : (T : Tables) → TypesRight T → size_of T 1 ≡ 2
pointer_size T R = R.sized 1 ∙ rw R.pointer_second

pointer_weight : (T : Tables) → TypesRight T → weight_of T 1 ≡ 1
pointer_weight T R = R.weighed 1 ∙ rw R.pointer_second

pointer_bools : (T : Tables) → TypesRight T → bools_of T 1 ≡ 0
pointer_bools T R = rw R.pointer_second

byte_pieces : {L : List Storage} (ds : List ByteStorage) → Each (Byte L) ds → Each (Piece L) (map byte_storage ds)
byte_pieces [] e = none_left
byte_pieces (d ∷ ds) (p also e) = byte_piece p also byte_pieces ds e

-- what a select writes: no more than the type's bytes
record Pieces (T : Tables) (L : List Storage) (ty : ℕ) (ds : List ValueStorage) : Type 0 where
  count : length ds ≤ size_of T ty
  each : Each (Piece L) ds

-- behind the bit of its condition
abbrev pub selecting : ℕ → Cost
selecting n = choosing n ⊞ allocated 1 n ⊞ reading n

-- an address: an instruction and a pointer
abbrev pub addressing : Cost
addressing = emitted 1 ⊞ allocated 1 2

module _ (T : Tables) (R : TypesRight T) {L : List Storage} where
  -- a temporary's pieces: its bit, or its bytes
  pieces_of : (b : Bool) (s o ty u : ℕ) → Temporary T L u (record { storage = s; offset = o; ty = ty; is_bit = b })
      → Pieces T L u (location_value_storages T (record { storage = s; offset = o; ty = ty; is_bit = b }))
  unfolding location_value_storages
  pieces_of true s o ty u t =
      record { count = le_of_eq (sym (ap (size_of T) (t.bool refl) ∙ bool_size T R)); each = bit_piece (t.bit refl) also none_left }
  pieces_of false s o ty u t =
      record { count = rw length-map (le_of_eq (temporary_count T t)); each = byte_pieces _ (t.bytes refl) }

  temporary_pieces : {ty : ℕ} {l : Location} → Temporary T L ty l → Pieces T L ty (location_value_storages T l)
  temporary_pieces {ty} {l} t = pieces_of l.is_bit l.storage l.offset l.ty ty t

  to_location_does : {P : Type 0} (l : Location) (c : BitOperand) (t f : Value) (ty : ℕ) → (P → Temporary T L ty l)
      → Does L P (select_to_location T l c t f) (choosing (size_of T ty)) Any
  unfolding select_to_location
  to_location_does l c t f ty g =
      within
      (required _ _ next λ _.
      pieces_does c (location_value_storages T l) (flatten_value_operands t) (flatten_value_operands f) (λ p. (temporary_pieces (g p.0)).each))
      (λ p. omega (arith, (temporary_pieces (g p)).count))

  pub lower_select_does : {P : Type 0} (c : BitOperand) (t f : Value) (ty : ℕ)
      → Does L P (lower_select T c t f ty) (selecting (size_of T ty)) (Small (weight_of T ty))
  unfolding lower_select
  lower_select_does c t f ty =
      within
      (temporary_does T ty then λ l.
      to_location_does l c t f ty (λ p. p.1) next λ _.
      read_temporary T R ty l (λ p. p.0.1.of_type))
      (λ p. omega (arith, bools_of_le T ty))

  -- ------------------------------------------------------------ addresses

  second_byte : (ds : List ByteStorage) → 2 ≤ length ds → Each (Byte L) ds → Byte L (second_storage T ds)
  unfolding second_storage
  second_byte [] h e = absurd (omega arith)
  second_byte (d ∷ []) h e = absurd (omega arith)
  second_byte (d ∷ f ∷ ds) h (p also (q also e)) = q

  addressable_does : {P : Type 0} (b : Bool) (s : ℕ) → is_one (storage_at T s).owner ≡ b → Does L P (require_addressable T s) free Any
  unfolding require_addressable
  addressable_does true s e = rw e (narrowing s)
  addressable_does false s e = rw e (answers (λ p. tt))

  -- a pointer whose two bytes one instruction writes
  pointing : {P : Type 0} (k : List ByteStorage → InstructionKind)
      → ((ds : List ByteStorage) → writes (k ds) ≡ to_byte (first_storage ds) ∷ to_byte (second_storage T ds) ∷ [])
      → Does L P (allocate_temporary T pointer_type >>= λ t. location_bytes T t >>= λ ds. emit (k ds) >> read_location T t) addressing (Small 1)
  pointing k e =
      giving
      (destined T 1 λ t ds.
      emitting_one (k ds)
      (λ p.
      let two : length ds ≡ 2 = p.1.count ∙ pointer_size T R in
      writes_two (e ds) (first_byte ds (omega arith) p.1.each) (second_byte ds (omega arith) p.1.each)) next λ _.
      read_temporary T R 1 t (λ p. p.0.1.of_type))
      (λ p. omega (arith, pointer_size T R, pointer_bools T R)) (λ v p q. omega (arith, pointer_weight T R))

  materialize_does : {P : Type 0} (s : ℕ) (is_bit : Bool) (o : ℕ) → Does L P (materialize_location_address T s is_bit o) addressing (Small 1)
  unfolding materialize_location_address writes
  materialize_does s is_bit o =
      within
      (required _ _ next λ _.
      addressable_does (is_one (storage_at T s).owner) s refl next λ _.
      pointing (λ ds. address_of (first_storage ds) (second_storage T ds) s o) (λ ds. refl))
      (λ p. omega arith)

  pub lower_address_of_does : {P : Type 0} (p : Place) → Does L P (lower_address_of T p) addressing (Small 1)
  unfolding lower_address_of
  lower_address_of_does p = within (base_does T p then λ b. materialize_does b.storage b.is_bit b.offset) (λ g. omega arith)

  pub lower_static_address_does : {P : Type 0} (k o : ℕ) → Does L P (lower_static_address T k o) addressing (Small 1)
  unfolding lower_static_address
  lower_static_address_does k o = within (known _ _ then λ p. materialize_does p.storage (is_one p.bit) o) (λ g. omega arith)

  pub lower_function_address_does : {P : Type 0} (f : ℕ) → Does L P (lower_function_address T f) addressing (Small 1)
  unfolding lower_function_address writes
  lower_function_address_does f = pointing (λ ds. function_address (first_storage ds) (second_storage T ds) f) (λ ds. refl)

  -- a pointer and a carry: what a node of no bytes may have
  pub lower_pointer_offset_does : {P : Type 0} (b o : Value) → Does L P (lower_pointer_offset T b o) (emitted 2 ⊞ allocated 2 2) (Small 1)
  unfolding lower_pointer_offset value_bytes allocate_carry adds kind_bytes writes
  lower_pointer_offset_does b o =
      giving
      (known _ _ then λ base.
      known _ _ then λ offset.
      required _ _ next λ _.
      destined T 1 λ t ds.
      allocating _ _ _ refl then λ c.
      emitting (size_of T 1) (adds c ds (take 2 base) (resize 2 offset))
      (λ p. le_trans (zip3_length _ 0 ds (take 2 base) (resize 2 offset)) (le_of_eq p.0.1.count))
      (λ p. zip3_each _ (λ i d x y q. carried (add d x y (carry_in c i)) (length ds) i refl refl q p.1) 0
      ds (take 2 base) (resize 2 offset) p.0.1.each) next λ _.
      read_temporary T R 1 t (λ p. p.0.0.1.of_type))
      (λ p. omega (arith, pointer_size T R, pointer_bools T R)) (λ v p q. omega (arith, pointer_weight T R))
