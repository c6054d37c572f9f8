-- Each write inside a new storage of its own kind, computed: every written operand of every instruction form, in a storage of every kind.
use Prim.Native.Nat.{ℕ}
use mathlib.Core.Bool.{Bool, true, false}
use mathlib.Core.List.{List, [], ◌∷◌, map}
use Rattle.std.specs.Prelude.{None, Some}
use mathlib.Core.Path.{◌≡◌, refl}
use Rattle.spec.specs.Lir.{
  ByteStorage,
  ByteOperand,
  stored,
  BitOperand,
  stored_bit,
  Storage,
  StorageKind,
  InstructionKind,
  copy_byte,
  not_byte,
  byte_binary,
  add,
  subtract,
  rotate,
  address_of,
  function_address,
  shift_bytes,
  compare_bytes,
  select_byte,
  select_bit,
  bit_to_byte,
  byte_to_bit,
  sign_extend,
  integer_unary_bytes,
  integer_binary_bytes,
}
use Rattle.spec.specs.Lir as lir
use Rattle.spec.specs.Demands.{to_byte, to_bit, to_carry, to_bytes, writes, kind_bytes, all_bytes, kind_of, write_inside, all_inside, writes_inside, numbered}

-- ---------------------------------------------------------------- the storages

abbrev new : ℕ → StorageKind → Storage
new n k = record { id = n; kind = k; purpose = lir.tmp; number = 0; regions = 36 }

-- 5 is a bit, 6 a byte, 7 three bytes, 8 a carry; 4 is an older storage, 9 is none
abbrev pub ss : List Storage
ss = new 5 lir.bit ∷ new 6 lir.byte ∷ new 7 (lir.bytes 3) ∷ new 8 lir.carry ∷ []

abbrev at : ℕ → ℕ → ByteStorage
at s o = record { storage = s; offset = o }

-- bytes of each: inside, at the length, one past it
abbrev bytes : List ByteStorage
bytes = at 6 0 ∷ at 7 0 ∷ at 7 1 ∷ at 7 2 ∷ at 6 1 ∷ at 6 2 ∷ at 7 3 ∷ at 7 4 ∷ at 5 0 ∷ at 5 1 ∷ at 8 0 ∷ at 8 1 ∷ at 4 0 ∷ at 9 0 ∷ []

abbrev of_bytes : List Bool
of_bytes = true ∷ true ∷ true ∷ true ∷ false ∷ false ∷ false ∷ false ∷ false ∷ false ∷ false ∷ false ∷ false ∷ false ∷ []

abbrev numbers : List ℕ
numbers = 4 ∷ 5 ∷ 6 ∷ 7 ∷ 8 ∷ 9 ∷ []

abbrev of_bits : List Bool
of_bits = false ∷ true ∷ false ∷ false ∷ false ∷ false ∷ []

abbrev of_carries : List Bool
of_carries = false ∷ false ∷ false ∷ false ∷ true ∷ false ∷ []

pub single_writes :
    (map (λ d. write_inside ss (to_byte d)) bytes ≡ of_bytes) ×
    (map (λ n. write_inside ss (to_bit n)) numbers ≡ of_bits) ×
    (map (λ n. write_inside ss (to_carry n)) numbers ≡ of_carries)
unfolding write_inside kind_of kind_bytes
single_writes = (refl, refl, refl)

-- ---------------------------------------------------------------- the instructions

-- what is only read may stand anywhere
abbrev x : ByteOperand
x = stored (at 4 9)

abbrev b : BitOperand
b = stored_bit 4

abbrev xs : List ByteOperand
xs = x ∷ x ∷ []

-- one written byte left open, any other in order
abbrev byte_forms : List (ByteStorage → InstructionKind)
byte_forms =
    (λ d. copy_byte d x) ∷
    (λ d. not_byte d x) ∷
    (λ d. byte_binary lir.and d x x) ∷
    (λ d. byte_binary lir.or d x x) ∷
    (λ d. byte_binary lir.xor d x x) ∷
    (λ d. add d x x (Some 4) None) ∷
    (λ d. add d x x None (Some 8)) ∷
    (λ d. subtract d x x (Some 4) None) ∷
    (λ d. subtract d x x None (Some 8)) ∷
    (λ d. rotate lir.left d x) ∷
    (λ d. rotate lir.right d x) ∷
    (λ d. address_of d (at 6 0) 4 9) ∷
    (λ d. address_of (at 6 0) d 4 9) ∷
    (λ d. function_address d (at 6 0) 4) ∷
    (λ d. function_address (at 6 0) d 4) ∷
    (λ d. shift_bytes lir.shift_left 16 (d ∷ at 6 0 ∷ []) xs xs) ∷
    (λ d. shift_bytes lir.rotate_right 16 (at 6 0 ∷ d ∷ []) xs xs) ∷
    (λ d. select_byte d b x x) ∷
    (λ d. bit_to_byte d b) ∷
    (λ d. sign_extend 8 (d ∷ at 6 0 ∷ []) xs) ∷
    (λ d. sign_extend 8 (at 6 0 ∷ d ∷ []) xs) ∷
    (λ d. integer_unary_bytes lir.population_count 16 (d ∷ at 6 0 ∷ []) xs) ∷
    (λ d. integer_unary_bytes lir.population_count 16 (at 6 0 ∷ d ∷ []) xs) ∷
    (λ d. integer_binary_bytes lir.multiply 16 (d ∷ at 6 0 ∷ []) xs xs) ∷
    (λ d. integer_binary_bytes lir.multiply 16 (at 6 0 ∷ d ∷ []) xs xs) ∷
    []

abbrev bit_forms : List (ℕ → InstructionKind)
bit_forms = (λ n. compare_bytes lir.equal 16 n xs xs) ∷ (λ n. select_bit n b b b) ∷ (λ n. byte_to_bit n x) ∷ []

-- OUT
abbrev carry_forms : List (ℕ → InstructionKind)
carry_forms = (λ n. add (at 6 0) x x (Some 4) (Some n)) ∷ (λ n. subtract (at 6 0) x x (Some 4) (Some n)) ∷ []

abbrev inside : InstructionKind → Bool
inside k = writes_inside ss (record { kind = k; node = 0 } ∷ [])

-- the same verdicts for every form
abbrev Verdicts : {A : Type 0} → List A → List Bool → List (A → InstructionKind) → Type 0
Verdicts samples bs ks = map (λ k. map (λ a. inside (k a)) samples) ks ≡ map (λ k. bs) ks

pub bytes_written : Verdicts bytes of_bytes byte_forms
unfolding write_inside all_inside writes_inside writes to_bytes kind_of kind_bytes
bytes_written = refl

pub bits_written : Verdicts numbers of_bits bit_forms
unfolding write_inside all_inside writes_inside writes to_bytes kind_of kind_bytes
bits_written = refl

pub carries_written : Verdicts numbers of_carries carry_forms
unfolding write_inside all_inside writes_inside writes to_bytes kind_of kind_bytes
carries_written = refl

-- one wrong write among several instructions
pub all_of_them :
    (writes_inside ss (record { kind = copy_byte (at 6 0) x; node = 0 } ∷ record { kind = copy_byte (at 6 1) x; node = 0 } ∷ []) ≡ false) ×
    (writes_inside ss [] ≡ true)
unfolding write_inside all_inside writes_inside writes kind_of kind_bytes
all_of_them = (refl, refl)

-- ---------------------------------------------------------------- ids and bytes

-- ids go on from the older storages', one by one
pub ids : map (λ n. numbered n ss) (4 ∷ 5 ∷ 6 ∷ []) ≡ false ∷ true ∷ false ∷ []
unfolding numbered
ids = refl

pub ids_once : (numbered 5 (new 5 lir.bit ∷ new 5 lir.bit ∷ []) ≡ false) × (numbered 5 (new 5 lir.bit ∷ new 7 lir.bit ∷ []) ≡ false) × (numbered 5 [] ≡ true)
unfolding numbered
ids_once = (refl, refl, refl)

-- 1 for kind 1, LENGTH for kind 2, none for 0 and 3
pub bytes_in_all : (map (λ s. all_bytes (s ∷ [])) ss ≡ 0 ∷ 1 ∷ 3 ∷ 0 ∷ []) × (all_bytes ss ≡ 4)
unfolding all_bytes kind_bytes
bytes_in_all = (refl, refl)
