-- What demands 2 and 3 say of the bytes left in the buffer, for every text and every lent buffer.
use Rattle.std.specs.Prelude.{ℕ, suc, ◌+◌, ◌*◌, ◌≤◌, ◌<◌, Bool, true, false, ◌&&◌, List, [], ◌∷◌, ◌≡◌, eqb, ltb, length}
use Rattle.std.specs.Prelude.{Option, None, Some}
use Rattle.spec.specs.Limits.{type_depth_limit}
use Rattle.spec.specs.Ticket.{Tables, type_size_in}
use Rattle.spec.specs.Readable.{line_sum, root}
use Rattle.spec.specs.Read.{read_ticket}
use Rattle.spec.specs.Read as reading
use Rattle.spec.specs.Lir.{ByteStorage, StorageKind, Purpose, Storage, InstructionKind, Instruction, Listing, copy_byte, not_byte, byte_binary, add, subtract, rotate, address_of, function_address, shift_bytes, compare_bytes, select_byte, select_bit, bit_to_byte, byte_to_bit, sign_extend, integer_unary_bytes, integer_binary_bytes}
use Rattle.spec.specs.Lir as lir
use Rattle.spec.specs.ReadBack.{read_listing}
use Rattle.spec.specs.Machine.{Memory, Proper, Given, run}
use Rattle.spec.specs.Typed.{typed, single_operation}
use Rattle.spec.specs.Eval.{Data, data_of, eval, in_order}
use Rattle.spec.specs.Answer.{accepted, answer}

-- ---------------------------------------------------------------- demand 3

-- S: the sum, over the node lines, of `type_size` of TYPE
unfoldable pub total_size : Tables → ℕ
total_size T = line_sum (λ ty. type_size_in type_depth_limit T ty) T.nodes

unfoldable pub kind_bytes : StorageKind → ℕ
kind_bytes lir.bit = 0
kind_bytes lir.byte = 1
kind_bytes (lir.bytes n) = n
kind_bytes lir.carry = 0

unfoldable pub all_bytes : List Storage → ℕ
all_bytes [] = 0
all_bytes (s ∷ ss) = kind_bytes s.kind + all_bytes ss

-- what an instruction writes: OUT is a carry
pub data Write : Type 0 where
  to_byte : ByteStorage → Write
  to_bit to_carry : ℕ → Write

abbrev to_out : Option ℕ → List Write
to_out None = []
to_out (Some c) = to_carry c ∷ []

unfoldable pub to_bytes : List ByteStorage → List Write
to_bytes [] = []
to_bytes (d ∷ ds) = to_byte d ∷ to_bytes ds

unfoldable pub writes : InstructionKind → List Write
writes (copy_byte d s) = to_byte d ∷ []
writes (not_byte d s) = to_byte d ∷ []
writes (byte_binary op d l r) = to_byte d ∷ []
writes (add d l r i o) = to_byte d ∷ to_out o
writes (subtract d l r i o) = to_byte d ∷ to_out o
writes (rotate dir d s) = to_byte d ∷ []
writes (address_of low high s o) = to_byte low ∷ to_byte high ∷ []
writes (function_address low high f) = to_byte low ∷ to_byte high ∷ []
writes (shift_bytes op w ds v a) = to_bytes ds
writes (compare_bytes op w d l r) = to_bit d ∷ []
writes (select_byte d c t f) = to_byte d ∷ []
writes (select_bit d c t f) = to_bit d ∷ []
writes (bit_to_byte d s) = to_byte d ∷ []
writes (byte_to_bit d s) = to_bit d ∷ []
writes (sign_extend w ds s) = to_bytes ds
writes (integer_unary_bytes op w ds s) = to_bytes ds
writes (integer_binary_bytes op w ds l r) = to_bytes ds

unfoldable pub kind_of : ℕ → List Storage → Option StorageKind
kind_of n [] = None
kind_of n (s ∷ ss) = elim (eqb n s.id) [ true ↦ Some s.kind | false ↦ kind_of n ss ]

abbrev byte_in : ℕ → Option StorageKind → Bool
byte_in o None = false
byte_in o (Some k) = ltb o (kind_bytes k)

abbrev bit_in : Option StorageKind → Bool
bit_in None = false
bit_in (Some lir.bit) = true
bit_in (Some lir.byte) = false
bit_in (Some (lir.bytes n)) = false
bit_in (Some lir.carry) = false

abbrev carry_in : Option StorageKind → Bool
carry_in None = false
carry_in (Some lir.bit) = false
carry_in (Some lir.byte) = false
carry_in (Some (lir.bytes n)) = false
carry_in (Some lir.carry) = true

-- bytes inside the storage's length, bits and carries in storages of that kind
unfoldable pub write_inside : List Storage → Write → Bool
write_inside ss (to_byte d) = byte_in d.offset (kind_of d.storage ss)
write_inside ss (to_bit d) = bit_in (kind_of d ss)
write_inside ss (to_carry d) = carry_in (kind_of d ss)

unfoldable pub all_inside : List Storage → List Write → Bool
all_inside ss [] = true
all_inside ss (w ∷ ws) = write_inside ss w && all_inside ss ws

unfoldable pub writes_inside : List Storage → List Instruction → Bool
writes_inside ss [] = true
writes_inside ss (i ∷ is) = all_inside ss (writes i.kind) && writes_inside ss is

-- the ids go on from n
unfoldable pub numbered : ℕ → List Storage → Bool
numbered n [] = true
numbered n (s ∷ ss) = eqb s.id n && numbered (suc n) ss

-- 1 for a bit that a select chooses for a byte
abbrev pub chosen_by : Purpose → ℕ
chosen_by lir.tmp = 0
chosen_by lir.add_carry = 0
chosen_by lir.subtract_borrow = 0
chosen_by lir.negate_borrow = 0
chosen_by lir.pointer_carry = 0
chosen_by lir.compare = 0
chosen_by lir.integer_to_boolean = 0
chosen_by lir.condition = 0
chosen_by lir.read_bool = 0
chosen_by lir.select_bool = 1

-- how many bits a select has chosen for bytes
unfoldable pub chosen_bits : List Storage → ℕ
chosen_bits [] = 0
chosen_bits (s ∷ ss) = chosen_by s.purpose + chosen_bits ss

-- the bytes s are a listing for a ticket of n nodes whose types add up to S bytes, and of so many older storages
pub record Costs (S n older : ℕ) (s : List ℕ) : Type 0 where
  pub listing : Listing
  pub reads : read_listing s ≡ Some listing
  pub instructions : length listing.instructions ≤ 3 * S + 2 * n
  pub storages : length listing.storages ≤ 2 * S + 2 * n
  pub bytes : all_bytes listing.storages ≤ S + 2 * n
  -- beyond 2S + 2n and S + 2n there is but one of each for each bit that a select has chosen for a byte
  pub other_instructions : length listing.instructions ≤ 2 * S + 2 * n + chosen_bits listing.storages
  pub other_storages : length listing.storages ≤ S + 2 * n + chosen_bits listing.storages
  pub chosen : chosen_bits listing.storages ≤ S
  pub new : numbered older listing.storages ≡ true
  pub inside : writes_inside listing.storages listing.instructions ≡ true
  pub instruction_count : listing.done.instructions ≡ length listing.instructions
  pub storage_count : listing.done.storages ≡ length listing.storages

abbrev pub CostBound : Type 0
CostBound =
    (ticket buffer s : List ℕ) (T : Tables) → read_ticket ticket ≡ reading.accepted T → answer ticket (length buffer) ≡ accepted s
    → Costs (total_size T) (length T.nodes) (length T.storages) s

-- ---------------------------------------------------------------- demand 2, running

-- run in M, the bytes s as a listing leave d in the value's pieces, and the older storages as they were
pub record Leaves (G : Given) (M : Memory) (older : ℕ) (s : List ℕ) (d : Data) : Type 0 where
  pub listing : Listing
  pub reads : read_listing s ≡ Some listing
  pub after : Memory
  pub runs : run G listing.instructions M ≡ Some after
  pub value : data_of after listing.value ≡ d
  pub bytes : (k o : ℕ) → k < older → after.byte k o ≡ M.byte k o
  pub bits : (k : ℕ) → k < older → after.bit k ≡ M.bit k

-- a single operation, rightly typed, in a memory where its reads are in order: the number that the numerics give
abbrev pub RunsRight : Type 0
RunsRight =
    (ticket buffer s : List ℕ) (T : Tables) → read_ticket ticket ≡ reading.accepted T → answer ticket (length buffer) ≡ accepted s
    → single_operation (root T) ≡ true → typed T (root T) ≡ true
    → (G : Given) (M : Memory) → Proper M → in_order T M (root T) ≡ true
    → (d : Data) → eval T G M (root T) ≡ Some d
    → Leaves G M (length T.storages) s d
