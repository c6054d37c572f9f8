-- The forms of `binary_instructions` and `unary_instructions`, and the part of comparing behind `integer_width` and `value_bytes`.
use Rattle.std.specs.Prelude.{◌≡◌, refl, List, ◌∷◌, [], ℕ, ◌+◌, ◌%◌, ◌≤◌, length, replicate}
use Rattle.std.proofs.Common.{ap, ◌∙◌, arith}
use Rattle.std.specs.Prelude.{Option, None, Some, Ok, Err}
use Rattle.spec.specs.Hir as hir
use Rattle.spec.specs.Lir as lir
use Rattle.spec.specs.Lir.{ByteOperand, Purpose, Value, value, bit_value, stored_bit, immediate, compare_bytes}
use Rattle.spec.specs.Ticket.{TypeWord, t_unit, t_bool, t_bits, t_float, t_pointer, t_array, t_struct, t_tuple, t_opaque, Tables, type_at}
use Rattle.spec.specs.Monad.{Lower, Outcome, done, refused, nothing, prepend, ◌>>=◌, ◌>>◌, pure, emit, emits, or_refuse}
use Rattle.spec.specs.Monad as monad
use Rattle.spec.specs.Operands.{value_type, value_repr, repr_bytes, value_bytes}
use Rattle.spec.specs.Operators.{UnaryForm, negating, inverting, counting, BinaryForm, adding, subtracting, bytewise, shifting, whole, compare_op}
use Rattle.spec.specs.Allocation.{bool_type, bits_of, width_of, odd_bits, integer_width, allocate_carry, allocate_bit_temporary}
use Rattle.spec.specs.Arithmetic.{adds, subtracts, negates, zip2, zip3, binary_instructions, unary_instructions}
use Rattle.spec.specs.Conversions.{lower_compare, not_zero}
use Rattle.lir.specs.Abstract.{bytes_of, destinations_of, byte_binary_op_of, shift_op_of, unary_op_of, binary_op_of}
use Rattle.lir.specs.declared.StorageId.{StorageId}
use Rattle.lir.specs.declared.Bytes.{Bytes}
use Rattle.lir.specs.declared.Destinations.{Destinations}
use Rattle.lir.specs.declared.ByteBinaryOp.{ByteBinaryOp}
use Rattle.answers.specs.declared.Refusal.{Refusal}
use Rattle.emission.specs.declared.emitter.Emitter.{Emitter}
use Rattle.emission.specs.declared.UnaryForm.{UnaryForm as Unary}
use Rattle.emission.specs.declared.BinaryForm.{BinaryForm as Binary}
use Rattle.emission.specs.Appends.{Keeps}
use Rattle.emission.specs.Emits.{Emits, Allocates}
use Rattle.emission.specs.Does.{Does, Refuses, Meets, out, does_emits, does_allocating}
use Rattle.lir.specs.Tab.{length_tab}
use Rattle.emission.specs.Kinds.{zero_bytes}
use Rattle.emission.specs.Operands.{length_bytes, zeros}
use Rattle.emission.specs.Loops.{carried, carried_table, negates_carried, binary_table, each_table}

abbrev pub unary_form_of : Unary → UnaryForm
unary_form_of Unary.Negating = negating
unary_form_of Unary.Inverting = inverting
unary_form_of (Unary.Counting op) = counting (unary_op_of op)

abbrev pub binary_form_of : Binary → BinaryForm
binary_form_of Binary.Adding = adding
binary_form_of Binary.Subtracting = subtracting
binary_form_of (Binary.Bytewise op) = bytewise (byte_binary_op_of op)
binary_form_of (Binary.Shifting op) = shifting (shift_op_of op)
binary_form_of (Binary.Whole op) = whole (binary_op_of op)

-- w is what `integer_width` finds of the type ty
pub record HasWidth (T : Tables) (ty : ℕ) (w : Option ℕ) : Type 0 where
  pub is : width_of (type_at T ty).word (type_at T ty).args ≡ w

-- ---------------------------------------------------------------- the bits past the whole bytes

abbrev pub odd_option : Option ℕ → ℕ
odd_option None = 0
odd_option (Some w) = w % 8

odd_words : (k : TypeWord) (xs : List ℕ) → bits_of k xs % 8 ≡ odd_option (width_of k xs)
odd_words t_unit xs = refl
odd_words t_bool xs = refl
odd_words t_bits xs = refl
odd_words t_float xs = refl
odd_words t_pointer xs = refl
odd_words t_array xs = refl
odd_words t_struct xs = refl
odd_words t_tuple xs = refl
odd_words t_opaque xs = refl

-- a pointer's sixteen bits are no odd ones
pub odd_width : {T : Tables} {ty : ℕ} {w : Option ℕ} → HasWidth T ty w → odd_bits T ty ≡ odd_option w
unfolding odd_bits
odd_width {T} {ty} h = odd_words (type_at T ty).word (type_at T ty).args ∙ ap odd_option h.is

-- ---------------------------------------------------------------- lists' lengths

module _ (d : Destinations) (l r : Bytes) where
  pub carried_few : (f : lir.ByteStorage → ByteOperand → ByteOperand → Option ℕ → Option ℕ → lir.InstructionKind) (c : ℕ)
      → length (carried f c (destinations_of d) (bytes_of l) (bytes_of r)) ≤ d.count
  carried_few f c = rw (carried_table d l r f c, length_tab) (omega arith)

  pub binary_few : (op : ByteBinaryOp) → length (zip3 (λ i x a b. lir.byte_binary (byte_binary_op_of op) x a b) 0 (destinations_of d) (bytes_of l) (bytes_of r)) ≤ d.count
  binary_few op = rw (binary_table d l r op, length_tab) (omega arith)

module _ (d : Destinations) (b : Bytes) where
  pub negates_few : (c : ℕ) → length (negates c (destinations_of d) (bytes_of b)) ≤ d.count
  negates_few c = rw (negates_carried d b c) (carried_few d (zero_bytes b.total) b lir.subtract c)

  pub each_few : (f : lir.ByteStorage → ByteOperand → lir.InstructionKind) → length (zip2 (λ i x a. f x a) 0 (destinations_of d) (bytes_of b)) ≤ d.count
  each_few f = rw (each_table d b f, length_tab) (omega arith)

-- ---------------------------------------------------------------- with a carry

module _ (T : Tables) (ty : ℕ) (d : Destinations) {e e1 e2 : Emitter} where
  pub does_adding : (l r : Bytes) (k : StorageId) → Allocates e (allocate_carry lir.add_carry) k.0 e1
      → Emits e1 (carried lir.add k.0 (destinations_of d) (bytes_of l) (bytes_of r)) e2
      → Does (d.count + 1) e (binary_instructions T adding ty (destinations_of d) (bytes_of l) (bytes_of r)) tt e2
  unfolding binary_instructions adds
  does_adding l r k a e =
      does_allocating (λ x. emits (adds x (destinations_of d) (bytes_of l) (bytes_of r))) (omega arith) (omega (arith, carried_few d l r lir.add k.0)) a e (λ h n. refl)

  pub does_subtracting : (l r : Bytes) (k : StorageId) → Allocates e (allocate_carry lir.subtract_borrow) k.0 e1
      → Emits e1 (carried lir.subtract k.0 (destinations_of d) (bytes_of l) (bytes_of r)) e2
      → Does (d.count + 1) e (binary_instructions T subtracting ty (destinations_of d) (bytes_of l) (bytes_of r)) tt e2
  unfolding binary_instructions subtracts
  does_subtracting l r k a e =
      does_allocating (λ x. emits (subtracts x (destinations_of d) (bytes_of l) (bytes_of r))) (omega arith) (omega (arith, carried_few d l r lir.subtract k.0)) a e (λ h n. refl)

  pub does_negating : (b : Bytes) (k : StorageId) → Allocates e (allocate_carry lir.negate_borrow) k.0 e1
      → Emits e1 (negates k.0 (destinations_of d) (bytes_of b)) e2
      → Does (d.count + 1) e (unary_instructions T negating ty (destinations_of d) (bytes_of b)) tt e2
  unfolding unary_instructions
  does_negating b k a e =
      does_allocating (λ x. emits (negates x (destinations_of d) (bytes_of b))) (omega arith) (omega (arith, negates_few d b k.0)) a e (λ h n. refl)

-- ---------------------------------------------------------------- with a width

pub width_done : {A : Type 0} {T : Tables} {ty w n : ℕ} {e e1 : Emitter} {a : A} (f : ℕ → Lower A)
    → HasWidth T ty (Some w) → Does n e (f w) a e1 → Does n e (integer_width T ty >>= f) a e1
unfolding integer_width or_refuse ◌>>=◌
width_done f w x =
    record {
      storages = x.storages;
      kinds = x.kinds;
      is = λ h. rw (w.is, x.is h);
      appends = x.appends;
      node = x.node;
      few_storages = x.few_storages;
      few_kinds = x.few_kinds;
    }

pub width_refused : {A : Type 0} {T : Tables} {ty : ℕ} {e : Emitter} (f : ℕ → Lower A) → HasWidth T ty None → Refuses e (integer_width T ty >>= f) 23
unfolding integer_width or_refuse ◌>>=◌
width_refused f w = record { is = λ h. rw w.is }

module _ {T : Tables} {ty n : ℕ} {e e1 : Emitter} (g : ℕ → List lir.InstructionKind) where
  pub codes_width : {w : ℕ} → HasWidth T ty (Some w) → length (g w) ≤ n → Emits e (g w) e1 → Meets n e (integer_width T ty >>= λ x. emits (g x)) e1 (Ok tt)
  codes_width w f x = record { shown = width_done (λ y. emits (g y)) w (does_emits f x) }

  pub codes_refused : HasWidth T ty None → Keeps e e1 → Meets n e (integer_width T ty >>= λ x. emits (g x)) e1 (Err Refusal.UnsupportedType)
  codes_refused w k = record { shown = (width_refused (λ y. emits (g y)) w, k) }

-- ---------------------------------------------------------------- comparing

-- `lower_compare` behind its width and its operands' bytes
unfoldable pub comparing : hir.CompareOp → ℕ → List ByteOperand → List ByteOperand → Lower Value
comparing op width left right = do
  destination ← allocate_bit_temporary lir.compare
  op' ← or_refuse 24 (compare_op op)
  emit (compare_bytes op' width destination left right)
  pure (value bool_type (bit_value (stored_bit destination)))

-- `not_zero` behind its width and its operand's bytes
unfoldable pub comparing_zero : Purpose → ℕ → List ByteOperand → Lower ℕ
comparing_zero purpose width left = do
  destination ← allocate_bit_temporary purpose
  emit (compare_bytes lir.not_equal width destination left (replicate (length left) (immediate 0)))
  pure destination

pub prepend_nothing : {A : Type 0} (o : Outcome A) → prepend nothing o ≡ o
prepend_nothing (refused n l) = refl
prepend_nothing (done a c p) = refl

pub compare_behind : (T : Tables) (op : hir.CompareOp) (l r : Value) {w : ℕ} {ls rs : List ByteOperand} (h : hir.At) (c : monad.Counters)
    → HasWidth T (value_type l) (Some w) → repr_bytes (value_repr l) ≡ Some ls → repr_bytes (value_repr r) ≡ Some rs
    → lower_compare T op l r h c ≡ comparing op w ls rs h c
unfolding lower_compare comparing integer_width value_bytes or_refuse ◌>>=◌
compare_behind T op l r h c w p q = rw (w.is, p, q) (simp prepend_nothing)

pub not_zero_behind : (T : Tables) (purpose : Purpose) (v : Value) {w : ℕ} {bs : List ByteOperand} (h : hir.At) (c : monad.Counters)
    → HasWidth T (value_type v) (Some w) → repr_bytes (value_repr v) ≡ Some bs
    → not_zero T purpose v h c ≡ comparing_zero purpose w bs h c
unfolding not_zero comparing_zero integer_width value_bytes or_refuse ◌>>=◌
not_zero_behind T purpose v h c w p = rw (w.is, p) (simp prepend_nothing)

compared : (op : hir.CompareOp) (o : lir.CompareOp) (w x : ℕ) (ls rs : List ByteOperand) → compare_op op ≡ Some o → (h : hir.At) (n : monad.Counters)
    → (or_refuse 24 (compare_op op) >>= λ p. (emit (compare_bytes p w x ls rs) >> pure (value bool_type (bit_value (stored_bit x))))) h n
    ≡ done (value bool_type (bit_value (stored_bit x))) n (out [] (compare_bytes o w x ls rs ∷ []) h)
unfolding or_refuse ◌>>=◌ ◌>>◌
compared op o w x ls rs e h n = rw e

compared_zero : (w x : ℕ) (b : Bytes) (h : hir.At) (n : monad.Counters)
    → (emit (compare_bytes lir.not_equal w x (bytes_of b) (replicate (length (bytes_of b)) (immediate 0))) >> pure x) h n
    ≡ done x n (out [] (compare_bytes lir.not_equal w x (bytes_of b) (bytes_of (zero_bytes b.total)) ∷ []) h)
unfolding ◌>>◌
compared_zero w x b h n = rw (length_bytes b, zeros b.total)

module _ {e e1 e2 : Emitter} where
  pub does_comparing : (k : ℕ) (op : hir.CompareOp) (o : lir.CompareOp) (w : ℕ) (ls rs : List ByteOperand) → compare_op op ≡ Some o
      → Allocates e (allocate_bit_temporary lir.compare) k e1 → Emits e1 (compare_bytes o w k ls rs ∷ []) e2
      → Does 1 e (comparing op w ls rs) (value bool_type (bit_value (stored_bit k))) e2
  unfolding comparing
  does_comparing k op o w ls rs e a b =
      does_allocating
      (λ x. or_refuse 24 (compare_op op) >>= λ p. (emit (compare_bytes p w x ls rs) >> pure (value bool_type (bit_value (stored_bit x)))))
      (omega arith) (omega arith) a b (λ h n. compared op o w k ls rs e h n)

  pub does_comparing_zero : (k : ℕ) (p : Purpose) (w : ℕ) (b : Bytes) → Allocates e (allocate_bit_temporary p) k e1
      → Emits e1 (compare_bytes lir.not_equal w k (bytes_of b) (bytes_of (zero_bytes b.total)) ∷ []) e2
      → Does 1 e (comparing_zero p w (bytes_of b)) k e2
  unfolding comparing_zero
  does_comparing_zero k p w b a e =
      does_allocating
      (λ x. emit (compare_bytes lir.not_equal w x (bytes_of b) (replicate (length (bytes_of b)) (immediate 0))) >> pure x)
      (omega arith) (omega arith) a e (λ h n. compared_zero w k b h n)
