-- A node's own step behind its operands.
use Rattle.std.specs.Prelude.{◌≡◌, refl, Bool, true, false, List, ◌∷◌, [], ℕ, ◌≤◌, length, eqb, Result, Ok, Err}
use Rattle.std.specs.Result.{IsErrAnd}
use Rattle.std.proofs.Common.{ap, subst, ◌∙◌, append-nil}
use Rattle.answers.specs.declared.Refusal.{Refusal}
use Rattle.answers.specs.declared.Refused.{Refused}
use Rattle.spec.specs.Hir.{At, Expr, integer_unary, integer_binary, compare, convert, select, pointer_offset, extract_element, insert_element}
use Rattle.spec.specs.Hir as hir
use Rattle.spec.specs.Ticket.{Tables, nowhere}
use Rattle.spec.specs.Lir.{Value, value, unit, bit_value, bytes_value, aggregate}
use Rattle.spec.specs.Monad.{Out, Outcome, done, refused, nothing, ◌⊕◌, prepend, bind_to, Lower, own, ◌>>=◌, ◌>>◌, require}
use Rattle.spec.specs.Monad as monad
use Rattle.spec.specs.Operands.{value_repr, value_bytes, value_bit}
use Rattle.spec.specs.Operators.{ConversionForm, resizing, extending_sign, reinterpreting, from_boolean, to_boolean, of_float, conversion_form}
use Rattle.tables.specs.declared.lookups.Tables as code
use Rattle.tables.specs.Tables.{size_at}
use Rattle.tables.specs.Ticket.{ticket_of}
use Rattle.tables.proofs.Laws.{size_here}
use Rattle.spec.specs.Arithmetic.{lower_integer_unary, lower_integer_binary}
use Rattle.spec.specs.Conversions.{not_zero, value_as_bit, resized, sign_extended, boolean_to_integer, integer_to_bool, reinterpreted, lower_compare, lower_conversion}
use Rattle.spec.specs.Select.{lower_pointer_offset}
use Rattle.spec.specs.Lower.{lower_expression, as_bit, expression_as_bit}
use Rattle.lir.specs.Abstract.{bit_operand_of}
use Rattle.lir.specs.declared.BitOperand.{BitOperand as Bit}
use Rattle.values.specs.declared.Lowering.{Lowering}
use Rattle.values.specs.declared.Value.{Value as Val}
use Rattle.values.specs.Heads.{Head, root, parts_of, head_of, flat_of, flat_bytes, flat_bit, flat_type, operands_of}
use Rattle.values.specs.Left.{counters_in, at_top, with_stack, Left, Case, Shows, IsValue, IsBit, Done, MeetsValue, MeetsBit, DoneValue, shown_done, shown_refused}
use Rattle.values.specs.Laws.{left_none, left_then, left_drop}
use Rattle.values.specs.Stack.{Extracts, heads, selects}
use Rattle.parts.specs.Meets.{root_type, extract_meets, MeetsPart, select_meets as all_meet}
use Rattle.parts.specs.Insert.{Inserts}
use Rattle.parts.specs.InsertMeets.{insert_meets}
use Rattle.reads.specs.declared.At.{At as Place}
use Rattle.reads.specs.Reading.{at_of}
use Rattle.reads.proofs.Laws.{passed}
use Rattle.lowering.specs.Nodes.{MeetsHead}
use Rattle.conversions.specs.Converting.{reinterpreted_by, reinterpreted_of}

abbrev pub DoneHead : Lowering → Outcome Value → Lowering → Val → Type 0
DoneHead = Done IsValue (λ _. [])

-- an expression that is lowered, as its function ensures it: its value, of which no part is left, or all are
abbrev pub LowersHead : Tables → Expr → Lowering → Lowering → Val → Type 0
LowersHead T e l l1 x = Shows IsValue (λ _. []) l (lower_expression T e nowhere (counters_in l)) l1 (Ok x)

abbrev pub LowersValue : Tables → Expr → Lowering → Lowering → Val → Type 0
LowersValue T e l l1 x = Shows IsValue parts_of l (lower_expression T e nowhere (counters_in l)) l1 (Ok x)

pub lowered : {hs : Value → List Head} {l : Lowering} {o : Outcome Value} {l1 : Lowering} {x : Val} → Shows IsValue hs l o l1 (Ok x) → Done IsValue hs l o l1 x
lowered m = shown_done m refl

-- a value's parts are let go
pub head_meets : {l : Lowering} {o : Outcome Value} {l1 : Lowering} {x : Val} → l.top ≤ length l.stack.now → MeetsValue l o l1 (Ok x) → MeetsHead l o (at_top l1 l.top) (Ok x)
head_meets {l} {o} {l1} {x} h m =
    let d = shown_done m refl in
    let e : ◌⊕◌ d.out nothing ≡ d.out = rw (append-nil d.out.storages, append-nil d.out.narrowed, append-nil d.out.instructions) in
    rw d.is (record { shown = (d.shows, rw e at (left_drop d.left h (left_none (at_top l1 l.top)))) })

-- ---------------------------------------------------------------- refusals

module _ {A B : Type 0} (m : Lower A) (f : A → Lower B) {h : At} {c : monad.Counters} {n k : ℕ} where
  pub first_stops : m h c ≡ refused n k → (m >>= f) h c ≡ refused n k
  unfolding ◌>>=◌
  first_stops e = rw e

-- an expression that is lowered, and then one that is refused
pub second_stops : {A B : Type 0} {P : A → B → Type 0} {gs : A → List Head} {hs ks : Value → List Head} {l l1 l2 l3 : Lowering} {x : Val} {d : Refused Refusal} {r : Result B (Refused Refusal)}
    (m n : Lower Value) (f : Value → Value → Lower A) (h : At) → Shows IsValue hs l (m h (counters_in l)) l1 (Ok x) → Shows IsValue ks l1 (n h (counters_in l1)) l2 (Err d)
    → IsErrAnd r (λ y. y ≡ d) → Shows P gs l ((m >>= λ v. (n >>= f v)) h (counters_in l)) l3 r
unfolding ◌>>=◌
second_stops {d = d} {r} m n f h p q e = passed r d e (rw ((lowered p).is, shown_refused q refl))

-- ---------------------------------------------------------------- steps that look at heads alone

module _ (T : Tables) (h : At) (c : monad.Counters) where
  unary_flat : (op : hir.IntegerUnaryOp) (ty : ℕ) (v : Value) → lower_integer_unary T op (flat_of (root v)) ty h c ≡ lower_integer_unary T op v ty h c
  unfolding lower_integer_unary value_bytes
  unary_flat op ty v = rw (flat_bytes v)

  binary_left : (op : hir.IntegerBinaryOp) (ty : ℕ) (v w : Value) → lower_integer_binary T op (flat_of (root v)) w ty h c ≡ lower_integer_binary T op v w ty h c
  unfolding lower_integer_binary value_bytes
  binary_left op ty v w = rw (flat_bytes v)

  binary_right : (op : hir.IntegerBinaryOp) (ty : ℕ) (v w : Value) → lower_integer_binary T op v (flat_of (root w)) ty h c ≡ lower_integer_binary T op v w ty h c
  unfolding lower_integer_binary value_bytes
  binary_right op ty v w = rw (flat_bytes w)

  compare_left : (op : hir.CompareOp) (v w : Value) → lower_compare T op (flat_of (root v)) w h c ≡ lower_compare T op v w h c
  unfolding lower_compare value_bytes
  compare_left op v w = rw (flat_type v, flat_bytes v)

  compare_right : (op : hir.CompareOp) (v w : Value) → lower_compare T op v (flat_of (root w)) h c ≡ lower_compare T op v w h c
  unfolding lower_compare value_bytes
  compare_right op v w = rw (flat_bytes w)

  offset_left : (v w : Value) → lower_pointer_offset T (flat_of (root v)) w h c ≡ lower_pointer_offset T v w h c
  unfolding lower_pointer_offset value_bytes
  offset_left v w = rw (flat_bytes v)

  offset_right : (v w : Value) → lower_pointer_offset T v (flat_of (root w)) h c ≡ lower_pointer_offset T v w h c
  unfolding lower_pointer_offset value_bytes
  offset_right v w = rw (flat_bytes w)

  bit_flat : (v : Value) → value_as_bit T (flat_of (root v)) h c ≡ value_as_bit T v h c
  unfolding value_as_bit not_zero value_bytes
  bit_flat (value t unit) = refl
  bit_flat (value t (bit_value b)) = refl
  bit_flat (value t (bytes_value bs)) = refl
  bit_flat (value t (aggregate vs)) = refl

  conversion_flat : (op : hir.ConversionOp) (ty : ℕ) (f : ConversionForm) → conversion_form op ≡ f → (f ≡ reinterpreting → ⊥) → (v : Value)
      → lower_conversion T op (flat_of (root v)) ty h c ≡ lower_conversion T op v ty h c
  unfolding lower_conversion resized sign_extended boolean_to_integer integer_to_bool not_zero value_bytes value_bit
  conversion_flat op ty resizing e n v = rw (e, flat_bytes v)
  conversion_flat op ty extending_sign e n v = rw (e, flat_type v, flat_bytes v)
  conversion_flat op ty reinterpreting e n v = absurd (n refl)
  conversion_flat op ty from_boolean e n v = rw (e, flat_bit v)
  conversion_flat op ty to_boolean e n v = rw (e, flat_type v, flat_bytes v)
  conversion_flat op ty of_float e n v = rw e

-- ---------------------------------------------------------------- behind an operand's head

then_case : {A B : Type 0} (P : A → B → Type 0) (hs : A → List Head) {l : Lowering} {cs : monad.Counters} {o : Out} {l1 : Lowering} → Left l [] cs o l1
    → (p : Outcome A) (l2 : Lowering) (r : Result B (Refused Refusal)) → Case P hs l1 p l2 r → Case P hs l (prepend o p) l2 r
then_case P hs a (done v t q) l2 (Ok y) k = (k.0, left_then a k.1)
then_case P hs a (done v t q) l2 (Err e) k = k
then_case P hs a (refused i j) l2 (Ok y) k = k
then_case P hs a (refused i j) l2 (Err e) k = k

-- a step that looks at the head alone of the value before it
head_then : {A B : Type 0} {P : A → B → Type 0} {hs : A → List Head} {l : Lowering} {o : Outcome Value} {l1 : Lowering} {x : Val} (f : Value → Outcome A) → ((v : Value) → f (flat_of (root v)) ≡ f v)
    → (d : DoneHead l o l1 x) {l2 : Lowering} {r : Result B (Refused Refusal)} → Shows P hs l1 (f (flat_of (head_of x))) l2 r → Shows P hs l (prepend d.out (f d.v)) l2 r
head_then {A = A} {P = P} {hs} {l1 = l1} f e d {l2} {r} m =
    let k = subst (λ (z : Outcome A). Shows P hs l1 z l2 r) (ap (λ (z : Head). f (flat_of z)) d.shows.head ∙ e d.v) m in
    record { shown = then_case P hs d.left (f d.v) l2 r k.shown }

-- at the two of them
heads_then : {l : Lowering} {o : Outcome Value} {l1 : Lowering} {x : Val} {p : Outcome Value} {l2 : Lowering} {y : Val} (f : Value → Value → Outcome Value)
    → ((v w : Value) → f (flat_of (root v)) w ≡ f v w) → ((v w : Value) → f v (flat_of (root w)) ≡ f v w) → (d : DoneHead l o l1 x) (e : DoneHead l1 p l2 y)
    → {l3 : Lowering} {r : Result Val (Refused Refusal)} → MeetsValue l2 (f (flat_of (head_of x)) (flat_of (head_of y))) l3 r → MeetsValue l (prepend d.out (prepend e.out (f d.v e.v))) l3 r
heads_then {x = x} f g k d e m =
    head_then (λ v. prepend e.out (f v e.v)) (λ v. ap (λ (z : Outcome Value). prepend e.out z) (g v e.v)) d (head_then (f (flat_of (head_of x))) (k (flat_of (head_of x))) e m)

module _ (T : Tables) (a : Expr) {l l1 : Lowering} {x : Val} (p : LowersHead T a l l1 x) (h : At) {l2 : Lowering} where
  pub unary_meets : (op : hir.IntegerUnaryOp) {r : Result Val (Refused Refusal)} → MeetsValue l1 (lower_integer_unary T op (flat_of (head_of x)) h.ty h (counters_in l1)) l2 r
      → MeetsValue l (lower_expression T (integer_unary h op a) nowhere (counters_in l)) l2 r
  unfolding lower_expression ◌>>=◌
  unary_meets op m = rw (lowered p).is (head_then (λ v. lower_integer_unary T op v h.ty h (counters_in l1)) (unary_flat T h (counters_in l1) op h.ty) (lowered p) m)

  pub conversion_meets : (op : hir.ConversionOp) → (conversion_form op ≡ reinterpreting → ⊥) → {r : Result Val (Refused Refusal)}
      → MeetsValue l1 (lower_conversion T op (flat_of (head_of x)) h.ty h (counters_in l1)) l2 r → MeetsValue l (lower_expression T (convert h op a) nowhere (counters_in l)) l2 r
  unfolding lower_expression ◌>>=◌
  conversion_meets op n m = rw (lowered p).is (head_then (λ v. lower_conversion T op v h.ty h (counters_in l1)) (conversion_flat T h (counters_in l1) op h.ty (conversion_form op) refl n) (lowered p) m)

  pub bit_meets : {r : Result Bit (Refused Refusal)} → MeetsBit l1 (value_as_bit T (flat_of (head_of x)) h (counters_in l1)) l2 r → MeetsBit l (expression_as_bit T h a nowhere (counters_in l)) l2 r
  unfolding expression_as_bit as_bit ◌>>=◌
  bit_meets m = rw (lowered p).is (head_then (λ v. value_as_bit T v h (counters_in l1)) (bit_flat T h (counters_in l1)) (lowered p) m)

  module _ (b : Expr) {y : Val} (q : LowersHead T b l1 l2 y) {l3 : Lowering} {r : Result Val (Refused Refusal)} where
    pub binary_meets : (op : hir.IntegerBinaryOp) → MeetsValue l2 (lower_integer_binary T op (flat_of (head_of x)) (flat_of (head_of y)) h.ty h (counters_in l2)) l3 r
        → MeetsValue l (lower_expression T (integer_binary h op a b) nowhere (counters_in l)) l3 r
    unfolding lower_expression ◌>>=◌
    binary_meets op m =
        rw ((lowered p).is, (lowered q).is)
        (heads_then (λ v w. lower_integer_binary T op v w h.ty h (counters_in l2)) (binary_left T h (counters_in l2) op h.ty) (binary_right T h (counters_in l2) op h.ty) (lowered p) (lowered q) m)

    pub compare_meets : (op : hir.CompareOp) → MeetsValue l2 (lower_compare T op (flat_of (head_of x)) (flat_of (head_of y)) h (counters_in l2)) l3 r
        → MeetsValue l (lower_expression T (compare h op a b) nowhere (counters_in l)) l3 r
    unfolding lower_expression ◌>>=◌
    compare_meets op m = rw ((lowered p).is, (lowered q).is) (heads_then (λ v w. lower_compare T op v w h (counters_in l2)) (compare_left T h (counters_in l2) op) (compare_right T h (counters_in l2) op) (lowered p) (lowered q) m)

    pub offset_meets : MeetsValue l2 (lower_pointer_offset T (flat_of (head_of x)) (flat_of (head_of y)) h (counters_in l2)) l3 r
        → MeetsValue l (lower_expression T (pointer_offset h a b) nowhere (counters_in l)) l3 r
    unfolding lower_expression ◌>>=◌
    offset_meets m = rw ((lowered p).is, (lowered q).is) (heads_then (λ v w. lower_pointer_offset T v w h (counters_in l2)) (offset_left T h (counters_in l2)) (offset_right T h (counters_in l2)) (lowered p) (lowered q) m)

-- ---------------------------------------------------------------- behind an operand and its parts

parts_same : (ty : ℕ) (v : Value) → parts_of (value ty (value_repr v)) ≡ parts_of v
parts_same ty (value t r) = refl

head_same : (ty : ℕ) (x : Val) (v : Value) → head_of x ≡ root v → head_of (record { ty = ty; repr = x.repr }) ≡ root (value ty (value_repr v))
head_same ty x (value t r) e = ap (λ (z : Head). record { ty = ty; shape = z.shape }) e

-- a value's records under another type
reinterpret_case : {l : Lowering} {o : Outcome Value} {l1 : Lowering} {x : Val} (h : Place) (d : DoneValue l o l1 x) (q : Bool)
    → MeetsValue l (prepend d.out (bind_to (λ (u : Unit). λ g c. done (value h.ty (value_repr d.v)) c nothing) (at_of h) (require 22 q (at_of h) (counters_in l1)))) l1 (reinterpreted_by q x h)
unfolding require
reinterpret_case h d false = record { shown = (refl, refl) }
reinterpret_case {x = x} h d true =
    record {
      shown = (
        record { head = head_same h.ty x d.v d.shows.head; sound = d.shows.sound },
        rw (append-nil d.out.storages, append-nil d.out.narrowed, append-nil d.out.instructions, parts_same h.ty d.v) d.left,
      );
    }

pub reinterpret_meets : (t : code.Tables) (a : Expr) {l l1 : Lowering} {x : Val} → LowersValue (ticket_of t.lines) a l l1 x → (h : Place) (op : hir.ConversionOp) → conversion_form op ≡ reinterpreting
    → {r : Result Val (Refused Refusal)} → r ≡ reinterpreted_of t.lines.rows.now t.lines.counts x h → MeetsValue l (lower_expression (ticket_of t.lines) (convert (at_of h) op a) nowhere (counters_in l)) l1 r
unfolding lower_expression lower_conversion reinterpreted ◌>>=◌ ◌>>◌ reinterpreted_of
reinterpret_meets t a {x = x} p h op e q =
    let rows = t.lines.rows.now in
    let lists = t.lines.lists.now in
    rw ((lowered p).is, e, q, ← (root_type (lowered p).v), ← (lowered p).shows.head, size_here rows lists t.lines.counts x.ty, size_here rows lists t.lines.counts h.ty)
    (reinterpret_case h (lowered p) (eqb (size_at rows t.lines.counts x.ty) (size_at rows t.lines.counts h.ty)))

module _ (T : Tables) (a : Expr) {l l1 : Lowering} {x : Val} (p : LowersValue T a l l1 x) where
  module _ (h : At) (t : l.top ≤ length l.stack.now) where
    pub extract_part : (i : ℕ) {ws : List ℕ} {r : Result (Val × ℕ) Refusal} → length ws ≡ length l1.stack.now → Extracts l1.stack.now l.top l1.top x i ws r
        → MeetsPart h.line l (lower_expression T (extract_element h a i) nowhere (counters_in l)) (with_stack l1 ws) r
    unfolding lower_expression ◌>>=◌
    extract_part i {ws} n m = rw (lowered p).is (extract_meets (lowered p) t i h ws n T m)

    module _ (b : Expr) {l2 : Lowering} {y : Val} (q : LowersValue T b l1 l2 y) where
      pub insert_part : (i : ℕ) {ws : List ℕ} {r : Result (Val × ℕ) Refusal} → length ws ≡ length l2.stack.now → Inserts l2.stack.now l.top l1.top l2.top x i y h.ty ws r
          → MeetsPart h.line l (lower_expression T (insert_element h a i b) nowhere (counters_in l)) (with_stack l2 ws) r
      unfolding lower_expression ◌>>=◌
      insert_part i {ws} n m = rw ((lowered p).is, (lowered q).is) (insert_meets (lowered p) (lowered q) t i h.ty h ws n T m)

      pub select_meets : (c : Expr) {l3 : Lowering} {z : Bit} (k : Done IsBit (λ _. []) l2 (expression_as_bit T h c nowhere (counters_in l2)) l3 z) {l4 : Lowering} {r : Result Val (Refused Refusal)}
          → MeetsValue (at_top l3 l.top) (selects T (bit_operand_of z) x.ty (operands_of (head_of x ∷ heads l3.stack.now l.top l1.top)) y.ty (operands_of (head_of y ∷ heads l3.stack.now l1.top l2.top)) h.ty h (counters_in l3)) l4 r
          → MeetsValue l (lower_expression T (select h a b c) nowhere (counters_in l)) l4 r
      unfolding lower_expression expression_as_bit ◌>>=◌
      select_meets c k m = rw ((lowered p).is, (lowered q).is, k.is, ← k.shows) (all_meet (lowered p) (lowered q) k t T h.ty h m)

-- a select whose condition is refused
pub condition_stops : (T : Tables) (a b : Expr) {l l1 l2 : Lowering} {x y : Val} (p : LowersValue T a l l1 x) (q : LowersValue T b l1 l2 y) (h : At) (c : Expr) {n k : ℕ}
    → expression_as_bit T h c nowhere (counters_in l2) ≡ refused n k → lower_expression T (select h a b c) nowhere (counters_in l) ≡ refused n k
unfolding lower_expression expression_as_bit ◌>>=◌
condition_stops T a b p q h c g = rw ((lowered p).is, (lowered q).is, g)
