-- Fields: each operand's reader reads back what was printed of it, and no field holds a comma or a line feed.
use Prim.Native.Nat.{ℕ}
use mathlib.Core.Bool.{true, ◌&&◌}
use mathlib.Core.List.{List, [], ◌∷◌, ◌++◌, map}
use Rattle.std.specs.Prelude.{Option, None, Some}
use Rattle.std.proofs.lemmas.Option.{none-some}
use mathlib.Core.Path.{◌≡◌, refl}
use lib.ListN.{length}
use Rattle.spec.specs.Text.{digits, good_start, numeral, split, same, comma, line_feed}
use Rattle.spec.proofs.Bools.{and_left, and_right}
use Rattle.spec.proofs.Split.{free, first_free, free_append, split_whole, split_front, Clean, Cleans, no_fields, field, cleans_append}
use Rattle.spec.proofs.Digits.{digits_free, digits_clean, numeral_digits}
use Rattle.spec.specs.Lir
use Rattle.spec.specs.Print as print
use Rattle.spec.specs.ReadBack as read
use Rattle.spec.specs.ReadBack.{Reader, Field, Word, ◌>>=◌, pure, next, find, headed, times, number, listed, one_of, nth}
use Rattle.spec.proofs.ListingReaders.{Takes, takes_pure, takes_then, takes_last, takes_next}

-- m reads a from the fields fs, which can stand in a line
pub record Fields {A : Type 0} (m : Reader Field A) (fs : List Field) (a : A) : Type 0 where
  pub clean : Cleans fs
  pub takes : Takes m fs a

-- ---------------------------------------------------------------- in sequence

pub nothing : {A : Type 0} (a : A) → Fields (pure a) [] a
nothing a = record { clean = no_fields; takes = takes_pure a }

pub one : {A : Type 0} (f : Field → Option A) {x : Field} {a : A} → Clean x → f x ≡ Some a → Fields (next f) (x ∷ []) a
one f c e = record { clean = field c no_fields; takes = takes_next f e }

-- several fields, then others
pub thens : {A B : Type 0} {m : Reader Field A} (f : A → Reader Field B) {fs gs : List Field} {a : A} {b : B}
    → Fields m fs a → Fields (f a) gs b → Fields (m >>= f) (fs ++ gs) b
thens f p q = record { clean = cleans_append p.clean q.clean; takes = takes_then f p.takes q.takes }

-- one field, then others
pub then_next : {A B : Type 0} {m : Reader Field A} (f : A → Reader Field B) {x : Field} {gs : List Field} {a : A} {b : B}
    → Fields m (x ∷ []) a → Fields (f a) gs b → Fields (m >>= f) (x ∷ gs) b
then_next f p q = thens f p q

-- the last fields
pub last : {A B : Type 0} {m : Reader Field A} (k : A → B) {fs : List Field} {a : A} → Fields m fs a → Fields (m >>= λ x. pure (k x)) fs (k a)
last k p = record { clean = p.clean; takes = takes_last k p.takes }

-- nothing to read: the answer is there already
pub already : {A B : Type 0} (f : A → Reader Field B) {o : Option A} (a : A) {gs : List Field} {b : B}
    → o ≡ Some a → Fields (f a) gs b → Fields (read.chosen o >>= f) gs b
already f a e q = rw e (thens f (nothing a) q)

-- a word of the list, then its fields
pub word : {A : Type 0} (ws : List (Word A)) {w : Field} {fs : List Field} {a : A}
    → free comma w && free line_feed w ≡ true → Fields (find ws w) fs a → Fields (headed ws) (w ∷ fs) a
unfolding headed
word ws {w} c p = record {
  clean = field (record { no_comma = and_left (free comma w) (free line_feed w) c; no_feed = and_right (free comma w) (free line_feed w) c }) p.clean;
  takes = record { takes = λ rest. p.takes.takes rest };
}

-- ---------------------------------------------------------------- operands

pub number_field : (n : ℕ) → Fields number (digits n ∷ []) n
unfolding number
number_field n = one numeral (digits_clean n) (numeral_digits n)

-- digits and other clean bytes behind one another are clean
clean_append : {f g : Field} → Clean f → Clean g → Clean (f ++ g)
clean_append {f} {g} c d = record {
  no_comma = free_append comma f g c.no_comma d.no_comma;
  no_feed = free_append line_feed f g c.no_feed d.no_feed;
}

mark_clean : (b : ℕ) → free comma (b ∷ []) ≡ true → free line_feed (b ∷ []) ≡ true → (n : ℕ) → Clean (b ∷ digits n)
mark_clean b c l n = clean_append {f = b ∷ []} (record { no_comma = c; no_feed = l }) (digits_clean n)

-- `3.1`
byte_storage_clean : (s : Lir.ByteStorage) → Clean (print.byte_storage s)
unfolding print.byte_storage
byte_storage_clean s = clean_append (digits_clean s.storage) (mark_clean 46 refl refl s.offset)

byte_storage_back : (s : Lir.ByteStorage) → read.byte_storage_of (print.byte_storage s) ≡ Some s
unfolding print.byte_storage read.byte_storage_of
byte_storage_back s =
    rw (
      split_front 46 (digits s.storage) (digits s.offset) (digits_free 46 refl s.storage),
      split_whole 46 (digits s.offset) (digits_free 46 refl s.offset),
      numeral_digits s.storage,
      numeral_digits s.offset,
    )

-- `#7` or `3.1`: what begins with no `#` is a storage
not_immediate : (f : Field) → free 35 f ≡ true → (s : Lir.ByteStorage) → read.byte_storage_of f ≡ Some s → read.byte_operand_of f ≡ Some (Lir.stored s)
unfolding read.byte_operand_of read.byte_storage_of split
not_immediate [] h s e = absurd (none-some s e)
not_immediate (b ∷ f) h s e = rw (first_free 35 b f h, read.byte_operand_of) (rw e)

byte_operand_clean : (b : Lir.ByteOperand) → Clean (print.byte_operand b)
unfolding print.byte_operand
byte_operand_clean (Lir.immediate n) = mark_clean 35 refl refl n
byte_operand_clean (Lir.stored s) = byte_storage_clean s

byte_storage_free : (s : Lir.ByteStorage) → free 35 (print.byte_storage s) ≡ true
unfolding print.byte_storage
byte_storage_free s = free_append 35 (digits s.storage) (46 ∷ digits s.offset) (digits_free 35 refl s.storage) (digits_free 35 refl s.offset)

byte_operand_back : (b : Lir.ByteOperand) → read.byte_operand_of (print.byte_operand b) ≡ Some b
unfolding print.byte_operand read.byte_operand_of
byte_operand_back (Lir.immediate n) = rw numeral_digits
byte_operand_back (Lir.stored s) = not_immediate (print.byte_storage s) (byte_storage_free s) s (byte_storage_back s)

-- `#1` or `3`
not_constant : (f : Field) → free 35 f ≡ true → (n : ℕ) → numeral f ≡ Some n → read.bit_operand_of f ≡ Some (Lir.stored_bit n)
unfolding read.bit_operand_of numeral good_start
not_constant [] h n e = absurd (none-some n e)
not_constant (b ∷ f) h n e = rw (first_free 35 b f h, read.bit_operand_of) (rw e)

bit_operand_clean : (b : Lir.BitOperand) → Clean (print.bit_operand b)
unfolding print.bit_operand
bit_operand_clean (Lir.constant n) = mark_clean 35 refl refl n
bit_operand_clean (Lir.stored_bit n) = digits_clean n

bit_operand_back : (b : Lir.BitOperand) → read.bit_operand_of (print.bit_operand b) ≡ Some b
unfolding print.bit_operand read.bit_operand_of
bit_operand_back (Lir.constant n) = rw numeral_digits
bit_operand_back (Lir.stored_bit n) = not_constant (digits n) (digits_free 35 refl n) n (numeral_digits n)

-- `-` or `3`
not_missing : (f : Field) → free 45 f ≡ true → (n : ℕ) → numeral f ≡ Some n → read.carry_of f ≡ Some (Some n)
unfolding read.carry_of numeral good_start same
not_missing [] h n e = absurd (none-some n e)
not_missing (b ∷ f) h n e = rw (first_free 45 b f h, read.carry_of) (rw e)

carry_clean : (c : Option ℕ) → Clean (print.carry_operand c)
unfolding print.carry_operand
carry_clean None = record { no_comma = refl; no_feed = refl }
carry_clean (Some n) = digits_clean n

carry_back : (c : Option ℕ) → read.carry_of (print.carry_operand c) ≡ Some c
unfolding print.carry_operand read.carry_of same
carry_back None = refl
carry_back (Some n) = not_missing (digits n) (digits_free 45 refl n) n (numeral_digits n)

pub storage_field : (s : Lir.ByteStorage) → Fields read.byte_storage (print.byte_storage s ∷ []) s
storage_field s = one read.byte_storage_of (byte_storage_clean s) (byte_storage_back s)

pub operand_field : (b : Lir.ByteOperand) → Fields read.byte_operand (print.byte_operand b ∷ []) b
operand_field b = one read.byte_operand_of (byte_operand_clean b) (byte_operand_back b)

pub bit_field : (b : Lir.BitOperand) → Fields read.bit_operand (print.bit_operand b ∷ []) b
bit_field b = one read.bit_operand_of (bit_operand_clean b) (bit_operand_back b)

pub carry_field : (c : Option ℕ) → Fields read.carry (print.carry_operand c ∷ []) c
carry_field c = one read.carry_of (carry_clean c) (carry_back c)

-- ---------------------------------------------------------------- lists and operators

items : {A : Type 0} {m : Reader Field A} (f : A → Field) → ((x : A) → Fields m (f x ∷ []) x) → (xs : List A) → Fields (times (length xs) m) (map f xs) xs
unfolding times
items f each [] = nothing []
items f each (x ∷ xs) = then_next _ (each x) (last (λ l. x ∷ l) (items f each xs))

pub list_fields : {A : Type 0} {m : Reader Field A} (f : A → Field) → ((x : A) → Fields m (f x ∷ []) x) → (xs : List A) → Fields (listed m) (print.listed f xs) xs
unfolding listed print.listed
list_fields f each xs = then_next _ (number_field (length xs)) (items f each xs)

pub destinations_fields : (ds : List Lir.ByteStorage) → Fields (listed read.byte_storage) (print.destinations ds) ds
destinations_fields ds = list_fields print.byte_storage storage_field ds

pub operands_fields : (bs : List Lir.ByteOperand) → Fields (listed read.byte_operand) (print.operands bs) bs
operands_fields bs = list_fields print.byte_operand operand_field bs

pub operator_field : {A : Type 0} (ops : List (Option A)) (n : ℕ) (a : A) → nth ops n ≡ Some a → Fields (one_of ops) (digits n ∷ []) a
unfolding one_of
operator_field ops n a e = then_next _ (number_field n) (rw e (nothing a))
