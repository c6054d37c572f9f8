-- The records on the value stack, read back; extract and select over them.
use Rattle.std.specs.Prelude.{◌≡◌, refl, ◌&&◌, List, ◌∷◌, ◌++◌, map, [], ℕ, zero, suc, ◌+◌, ◌-◌, ◌*◌, ◌≤◌, eqb, length, take, drop, get_or, Result, Ok, Err}
use Rattle.std.proofs.Common.{sym, ap, ◌∙◌, arith, drop_at, take-take, take-add, length-take-le}
use Rattle.answers.specs.declared.Refusal.{Refusal}
use Rattle.answers.specs.Refusals.{refusal_number}
use Rattle.spec.specs.Hir.{At}
use Rattle.spec.specs.Lir.{BitOperand, ValueOperand, Value}
use Rattle.spec.specs.Ticket.{Tables}
use Rattle.spec.specs.Monad.{Lower, Out, require, ◌>>=◌, ◌>>◌}
use Rattle.spec.specs.Monad as monad
use Rattle.spec.specs.Operands.{value_type}
use Rattle.spec.specs.Allocation.{allocate_temporary, location_value_storages}
use Rattle.spec.specs.ReadBytes.{read_location}
use Rattle.spec.specs.Select.{select_pieces, select_to_location, lower_select}
use Rattle.lir.specs.declared.BitOperand.{BitOperand as Bit}
use Rattle.lir.specs.declared.Source.{Source}
use Rattle.values.specs.declared.Lowering.{Lowering}
use Rattle.values.specs.declared.Value.{Value as Val}
use Rattle.values.specs.declared.Repr.{Repr as Rep}
use Rattle.values.specs.Heads.{Sound_value, Shape, unit_shape, bit_shape, bytes_shape, aggregate_shape, Head, root, parts_of, head_of, All_sound, operands_of, flatten_preorder, skip, records}
use Rattle.values.specs.Left.{Left, bit_words, bytes_words, repr_words, value_words, values_words}
use Rattle.values.specs.Laws.{left_kept}

abbrev pub source_in : ℕ → ℕ → ℕ → Source
source_in zero x y = Source.Constant x
source_in (suc t) x y = Source.Storage (record { storage = record { 0 = x }; offset = y })

abbrev pub bit_in : ℕ → ℕ → Bit
bit_in zero x = Bit.Constant x
bit_in (suc t) x = Bit.Storage (record { 0 = x })

abbrev pub repr_in : ℕ → ℕ → ℕ → ℕ → ℕ → ℕ → Rep
repr_in zero p q r s u = Rep.Unit
repr_in (suc zero) p q r s u = Rep.Bit (bit_in p q)
repr_in (suc (suc zero)) p q r s u = Rep.Bytes (record { source = source_in p q r; count = s; total = u })
repr_in (suc (suc (suc t))) p q r s u = Rep.Aggregate p q

-- the value whose record stands at a place of the stack
unfoldable pub value_at : List ℕ → ℕ → Val
value_at l i =
    record {
      ty = get_or l i 0;
      repr = repr_in (get_or l (i + 1) 0) (get_or l (i + 2) 0) (get_or l (i + 3) 0) (get_or l (i + 4) 0) (get_or l (i + 5) 0) (get_or l (i + 6) 0);
    }

-- the values whose records stand in words
unfoldable pub values_in : List ℕ → List Val
values_in (ty ∷ t ∷ p ∷ q ∷ r ∷ s ∷ u ∷ z ∷ ws) = record { ty = ty; repr = repr_in t p q r s u } ∷ values_in ws
values_in [] = []
values_in (a ∷ []) = []
values_in (a ∷ b ∷ []) = []
values_in (a ∷ b ∷ c ∷ []) = []
values_in (a ∷ b ∷ c ∷ d ∷ []) = []
values_in (a ∷ b ∷ c ∷ d ∷ e ∷ []) = []
values_in (a ∷ b ∷ c ∷ d ∷ e ∷ f ∷ []) = []
values_in (a ∷ b ∷ c ∷ d ∷ e ∷ f ∷ g ∷ []) = []

one_back : (ty : ℕ) (r : Rep) (ws : List ℕ) → values_in (repr_words ty r ++ ws) ≡ record { ty = ty; repr = r } ∷ values_in ws
unfolding values_in
one_back ty Rep.Unit ws = refl
one_back ty (Rep.Bit b) ws = bit b
  where
    bit : (b : Bit) → values_in (bit_words ty b ++ ws) ≡ record { ty = ty; repr = Rep.Bit b } ∷ values_in ws
    bit (Bit.Constant n) = refl
    bit (Bit.Storage s) = refl
one_back ty (Rep.Bytes b) ws = bytes b.source
  where
    bytes : (s : Source) → values_in (bytes_words ty s b.count b.total ++ ws) ≡ record { ty = ty; repr = Rep.Bytes (record { source = s; count = b.count; total = b.total }) } ∷ values_in ws
    bytes (Source.Constant n) = refl
    bytes (Source.Storage s) = refl
one_back ty (Rep.Aggregate n m) ws = refl

pub values_back : (vs : List Val) → values_in (values_words vs) ≡ vs
unfolding values_words value_words values_in
values_back [] = refl
values_back (v ∷ vs) = one_back v.ty v.repr (values_words vs) ∙ ap (λ (z : List Val). v ∷ z) (values_back vs)

-- the values whose records stand between two places of the stack
abbrev pub between : List ℕ → ℕ → ℕ → List Val
between stack from to = values_in (take (to - from) (drop from stack))

abbrev pub heads : List ℕ → ℕ → ℕ → List Head
heads stack from to = map head_of (between stack from to)

-- records stand there whole, and are sound
pub record Stands (stack : List ℕ) (from to : ℕ) : Type 0 where
  pub whole : take (to - from) (drop from stack) ≡ values_words (between stack from to)
  pub sound : All_sound (between stack from to)
  pub ends : to ≡ from + 8 * length (between stack from to)

words_between : (stack ws : List ℕ) (vs : List Val) (from to : ℕ) → length ws ≡ from → from ≤ to → from ≤ length stack → take to stack ≡ ws ++ values_words vs → take (to - from) (drop from stack) ≡ values_words vs
words_between stack ws vs from to e le fit h =
    let e2 : from + (to - from) ≡ to = omega arith in
    let lt : length (take from stack) ≡ from = length-take-le from stack fit in
    let both : take from stack ++ take (to - from) (drop from stack) ≡ ws ++ values_words vs = sym (take-add from (to - from) stack) ∙ ap (λ (k : ℕ). take k stack) e2 ∙ h in
    sym (drop_at (take from stack) (take (to - from) (drop from stack)) from lt) ∙ ap (λ (z : List ℕ). drop from z) both ∙ drop_at ws (values_words vs) from e

-- the records that a step has left
pub between_left : {l : Lowering} {hs : List Head} {s : monad.Counters} {o : Out} {l1 : Lowering} (a : Left l hs s o l1) → l.top ≤ length l.stack.now → between l1.stack.now l.top l1.top ≡ a.parts
between_left {l} {l1 = l1} a h =
    let w = words_between l1.stack.now (take l.top l.stack.now) a.parts l.top l1.top (length-take-le l.top l.stack.now h) (omega arith) (omega arith) a.stacked in
    ap values_in w ∙ values_back a.parts

pub stands_left : {l : Lowering} {hs : List Head} {s : monad.Counters} {o : Out} {l1 : Lowering} (a : Left l hs s o l1) → l.top ≤ length l.stack.now → Stands l1.stack.now l.top l1.top
stands_left {l} {l1 = l1} a h =
    let e = between_left a h in
    let w = words_between l1.stack.now (take l.top l.stack.now) a.parts l.top l1.top (length-take-le l.top l.stack.now h) (omega arith) (omega arith) a.stacked in
    record { whole = rw e w; sound = rw e a.sound; ends = rw e a.topped }

-- a later step leaves them
pub between_kept : {l : Lowering} {hs : List Head} {s : monad.Counters} {o : Out} {l1 : Lowering} (a : Left l hs s o l1) (from to : ℕ) → from ≤ to → to ≤ l.top → l.top ≤ length l.stack.now → take (to - from) (drop from l1.stack.now) ≡ take (to - from) (drop from l.stack.now)
between_kept {l} {l1 = l1} a from to h1 h2 h3 =
    let k = left_kept a h3 in
    let e2 : from + (to - from) ≡ to = omega arith in
    let t1 : take to l1.stack.now ≡ take to l.stack.now = sym (take-take to l.top l1.stack.now h2) ∙ ap (λ (z : List ℕ). take to z) k ∙ take-take to l.top l.stack.now h2 in
    let f1 : from ≤ length l1.stack.now = omega arith in
    let s1 : take from l1.stack.now ++ take (to - from) (drop from l1.stack.now) ≡ take from l.stack.now ++ take (to - from) (drop from l.stack.now) = sym (take-add from (to - from) l1.stack.now) ∙ ap (λ (i : ℕ). take i l1.stack.now) e2 ∙ t1 ∙ ap (λ (i : ℕ). take i l.stack.now) (sym e2) ∙ take-add from (to - from) l.stack.now in
    sym (drop_at (take from l1.stack.now) (take (to - from) (drop from l1.stack.now)) from (length-take-le from l1.stack.now f1)) ∙ ap (λ (z : List ℕ). drop from z) s1 ∙ drop_at (take from l.stack.now) (take (to - from) (drop from l.stack.now)) from (length-take-le from l.stack.now (omega arith))

pub stands_kept : {l : Lowering} {hs : List Head} {s : monad.Counters} {o : Out} {l1 : Lowering} (a : Left l hs s o l1) {from to : ℕ} → from ≤ to → to ≤ l.top → l.top ≤ length l.stack.now → Stands l.stack.now from to → Stands l1.stack.now from to
stands_kept a {from} {to} h1 h2 h3 s =
    let e = between_kept a from to h1 h2 h3 in
    record { whole = rw e s.whole; sound = rw e s.sound; ends = rw e s.ends }

-- ---------------------------------------------------------------- extract over records

-- of an aggregate's records those from its part i on
abbrev pub found_in : Shape → List Head → ℕ → List Head
found_in unit_shape hs i = []
found_in (bit_shape b) hs i = []
found_in (bytes_shape b) hs i = []
found_in (aggregate_shape n m) hs i = skip i hs

-- the parts of the kind hs alone moved to the top
pub record Moved (stack : List ℕ) (top : ℕ) (hs : List Head) (stack' : List ℕ) (top' : ℕ) : Type 0 where
  pub parts : List Val
  pub shows : map head_of parts ≡ hs
  pub sound : All_sound parts
  pub topped : top' ≡ top + 8 * length parts
  pub stacked : take (top + 8 * length parts) stack' ≡ take top stack ++ values_words parts

abbrev pub CaseExtract : List ℕ → ℕ → List Head → List ℕ → Result (Val × ℕ) Refusal → Type 0
CaseExtract stack top [] stack' (Err k) = refusal_number k ≡ 24
CaseExtract stack top [] stack' (Ok x) = ⊥
CaseExtract stack top (h ∷ hs) stack' (Err k) = ⊥
CaseExtract stack top (h ∷ hs) stack' (Ok x) = (head_of x.0 ≡ h) × Sound_value x.0 × Moved stack top (take (records h) hs) stack' x.1

-- part i of v, whose parts stand from the top to an end: with its own parts moved down to the top
pub record Extracts (stack : List ℕ) (top end : ℕ) (v : Val) (i : ℕ) (stack' : List ℕ) (r : Result (Val × ℕ) Refusal) : Type 0 where
  pub shown : CaseExtract stack top (found_in (head_of v).shape (heads stack top end) i) stack' r

-- ---------------------------------------------------------------- select over operands

unfoldable pub selects : Tables → BitOperand → ℕ → List ValueOperand → ℕ → List ValueOperand → ℕ → Lower Value
selects T c tt ts ft fs ty = do
  temporary ← allocate_temporary T ty
  (do
    require 22 (eqb tt ft && eqb tt temporary.ty)
    select_pieces c (location_value_storages T temporary) ts fs)
  read_location T temporary

pub select_flat : (T : Tables) (c : BitOperand) (t f : Value) (ty : ℕ) (env : At) (n : monad.Counters) → lower_select T c t f ty env n ≡ selects T c (value_type t) (operands_of (root t ∷ parts_of t)) (value_type f) (operands_of (root f ∷ parts_of f)) ty env n
unfolding lower_select selects select_to_location
select_flat T c t f ty env n = rw (← (flatten_preorder t), ← (flatten_preorder f))
