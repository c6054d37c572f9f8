-- From the records to the trees: select and extract over values that were lowered one after the other.
use Rattle.std.specs.Prelude.{◌≡◌, refl, List, ◌∷◌, ◌++◌, map, [], ℕ, ◌+◌, ◌≤◌, length, take, Option, None, Some, Result, Ok, Err}
use Rattle.std.proofs.Common.{sym, ap, subst, ◌∙◌, append-nil, arith, length-append, length-take, take_at, length-take-le}
use Rattle.answers.specs.declared.Refusal.{Refusal}
use Rattle.answers.specs.declared.Refused.{Refused}
use Rattle.answers.specs.Refusals.{refusal_number}
use Rattle.spec.specs.Hir.{At}
use Rattle.spec.specs.Lir.{ValueOperand, BitOperand, Value, value, unit, bit_value, bytes_value, aggregate}
use Rattle.spec.specs.Ticket.{Tables}
use Rattle.spec.specs.Monad.{Out, Outcome, done, refused, nothing, ◌⊕◌, prepend, ◌>>=◌, or_refuse}
use Rattle.spec.specs.Monad as monad
use Rattle.spec.specs.Operands.{value_type, nth_value}
use Rattle.spec.specs.Select.{lower_select}
use Rattle.spec.specs.Lower.{lower_extract}
use Rattle.lir.specs.Abstract.{bit_operand_of}
use Rattle.lir.specs.declared.BitOperand.{BitOperand as Bit}
use Rattle.values.specs.declared.Lowering.{Lowering}
use Rattle.values.specs.declared.Value.{Value as Val}
use Rattle.values.specs.Heads.{Found, skip, skip_found, records, records_parts, preorders, Head, root, parts_of, head_of, operands_of}
use Rattle.values.specs.Left.{Case, IsValue, IsBit, Done, counters_in, at_top, with_stack, values_words, Left, MeetsValue, DoneValue}
use Rattle.values.specs.Laws.{prepend_prepend, left_then, left_kept, drop_shows}
use Rattle.values.specs.Stack.{found_in, Moved, CaseExtract, Extracts, values_in, heads, Stands, between_left, stands_left, between_kept, stands_kept, selects, select_flat}
use Rattle.parts.specs.Records.{length_words}

pub root_type : (v : Value) → (root v).ty ≡ value_type v
root_type (value ty r) = refl

-- what a step leaves has its room on the stack
pub left_fits : {l : Lowering} {hs : List Head} {cs : monad.Counters} {o : Out} {l1 : Lowering} → Left l hs cs o l1 → l.top ≤ length l.stack.now → l1.top ≤ length l1.stack.now
left_fits {l} {l1 = l1} a h =
    let e : length (take l1.top l1.stack.now) ≡ length (take l.top l.stack.now) + length (values_words a.parts) = ap length a.stacked ∙ length-append (take l.top l.stack.now) (values_words a.parts) in
    let x = length-take l1.top l1.stack.now in
    let y = length-take-le l.top l.stack.now h in
    let z = length_words a.parts in
    omega arith

pub left_heads : {l : Lowering} {hs : List Head} {cs : monad.Counters} {o : Out} {l1 : Lowering} → Left l hs cs o l1 → l.top ≤ length l.stack.now → heads l1.stack.now l.top l1.top ≡ hs
left_heads a h = ap (λ (z : List Val). map head_of z) (between_left a h) ∙ a.shows

-- ---------------------------------------------------------------- two values and a bit, then a step over them

module _ {l : Lowering} {o : Outcome Value} {l1 : Lowering} {x : Val} {p : Outcome Value} {l2 : Lowering} {y : Val} {q : Outcome BitOperand} {l3 : Lowering} {w : Bit}
    (d : DoneValue l o l1 x) (e : DoneValue l1 p l2 y) (f : Done IsBit (λ _. []) l2 q l3 w) (h : l.top ≤ length l.stack.now) where
  pub three_meets : {z : Outcome Value} {l4 : Lowering} {r : Result Val (Refused Refusal)} → MeetsValue (at_top l3 l.top) z l4 r → MeetsValue l (prepend d.out (prepend e.out (prepend f.out z))) l4 r
  three_meets {z} {l4} {r} m =
      let k : MeetsValue l (prepend (◌⊕◌ (◌⊕◌ d.out e.out) f.out) z) l4 r = drop_shows (left_then (left_then d.left e.left) f.left) h m in
      subst (λ (a : Outcome Value). MeetsValue l a l4 r) (sym (prepend_prepend d.out e.out (prepend f.out z) ∙ prepend_prepend (◌⊕◌ d.out e.out) f.out z)) k

  pub first_stands : Stands l3.stack.now l.top l1.top
  first_stands =
      let a = d.left in
      let b = e.left in
      let h1 = left_fits a h in
      let h2 = left_fits b h1 in
      stands_kept f.left (omega arith) (omega arith) h2 (stands_kept b (omega arith) (omega arith) h1 (stands_left a h))

  pub second_stands : Stands l3.stack.now l1.top l2.top
  second_stands =
      let a = d.left in
      let b = e.left in
      let h1 = left_fits a h in
      let h2 = left_fits b h1 in
      stands_kept f.left (omega arith) (omega arith) h2 (stands_left b h1)

  pub first_heads : heads l3.stack.now l.top l1.top ≡ parts_of d.v
  first_heads =
      let a = d.left in
      let b = e.left in
      let g = f.left in
      let h1 = left_fits a h in
      let h2 = left_fits b h1 in
      ap (λ (z : List ℕ). map head_of (values_in z)) (between_kept g l.top l1.top (omega arith) (omega arith) h2 ∙ between_kept b l.top l1.top (omega arith) (omega arith) h1) ∙ left_heads a h

  pub second_heads : heads l3.stack.now l1.top l2.top ≡ parts_of e.v
  second_heads =
      let a = d.left in
      let b = e.left in
      let g = f.left in
      let h1 = left_fits a h in
      let h2 = left_fits b h1 in
      ap (λ (z : List ℕ). map head_of (values_in z)) (between_kept g l1.top l2.top (omega arith) (omega arith) h2) ∙ left_heads b h1

  pub select_meets : {l4 : Lowering} {r : Result Val (Refused Refusal)} (T : Tables) (ty : ℕ) (env : At)
      → MeetsValue (at_top l3 l.top) (selects T (bit_operand_of w) x.ty (operands_of (head_of x ∷ heads l3.stack.now l.top l1.top)) y.ty (operands_of (head_of y ∷ heads l3.stack.now l1.top l2.top)) ty env (counters_in l3)) l4 r
      → MeetsValue l (prepend d.out (prepend e.out (prepend f.out (lower_select T (bit_operand_of w) d.v e.v ty env (counters_in l3))))) l4 r
  select_meets {l4} {r} T ty env z =
      let hx = d.shows.head in
      let hy = e.shows.head in
      let tx : x.ty ≡ value_type d.v = ap (λ (a : Head). a.ty) hx ∙ root_type d.v in
      let ty' : y.ty ≡ value_type e.v = ap (λ (a : Head). a.ty) hy ∙ root_type e.v in
      let ox : operands_of (head_of x ∷ heads l3.stack.now l.top l1.top) ≡ operands_of (root d.v ∷ parts_of d.v) =
      ap (λ (a : Head). operands_of (a ∷ heads l3.stack.now l.top l1.top)) hx ∙ ap (λ (a : List Head). operands_of (root d.v ∷ a)) first_heads in
      let oy : operands_of (head_of y ∷ heads l3.stack.now l1.top l2.top) ≡ operands_of (root e.v ∷ parts_of e.v) =
      ap (λ (a : Head). operands_of (a ∷ heads l3.stack.now l1.top l2.top)) hy ∙ ap (λ (a : List Head). operands_of (root e.v ∷ a)) second_heads in
      let N = counters_in l3 in
      let W = bit_operand_of w in
      let s1 = ap (λ (a : ℕ). selects T W a (operands_of (head_of x ∷ heads l3.stack.now l.top l1.top)) y.ty (operands_of (head_of y ∷ heads l3.stack.now l1.top l2.top)) ty env N) tx in
      let s2 = ap (λ (a : List ValueOperand). selects T W (value_type d.v) a y.ty (operands_of (head_of y ∷ heads l3.stack.now l1.top l2.top)) ty env N) ox in
      let s3 = ap (λ (a : ℕ). selects T W (value_type d.v) (operands_of (root d.v ∷ parts_of d.v)) a (operands_of (head_of y ∷ heads l3.stack.now l1.top l2.top)) ty env N) ty' in
      let s4 = ap (λ (a : List ValueOperand). selects T W (value_type d.v) (operands_of (root d.v ∷ parts_of d.v)) (value_type e.v) a ty env N) oy in
      three_meets (subst (λ (a : Outcome Value). MeetsValue (at_top l3 l.top) a l4 r) (s1 ∙ s2 ∙ s3 ∙ s4 ∙ sym (select_flat T W d.v e.v ty env N)) z)

-- ---------------------------------------------------------------- a part, or a refusal

-- other records in place of those that a step left
pub moved_left : {l : Lowering} {hs : List Head} {cs : monad.Counters} {o : Out} {l1 : Lowering} {ks : List Head} {ws : List ℕ} {t : ℕ}
    → Left l hs cs o l1 → l.top ≤ length l.stack.now → Moved l1.stack.now l.top ks ws t → length ws ≡ length l1.stack.now → Left l ks cs (◌⊕◌ o nothing) (at_top (with_stack l1 ws) t)
moved_left {l} {hs} {cs} {o} {l1} {ks} {ws} {t} a h m e =
    rw (append-nil o.storages, append-nil o.narrowed, append-nil o.instructions)
    (record {
      appends = a.appends;
      numbers = a.numbers;
      narrows = a.narrows;
      marks = a.marks;
      parts = m.parts;
      shows = m.shows;
      sound = m.sound;
      topped = m.topped;
      stacked = rw m.topped (m.stacked ∙ rw (left_kept a h));
      long = e ∙ a.long;
      words = a.words;
    })

abbrev pub CasePart : ℕ → Lowering → Outcome Value → Lowering → Result (Val × ℕ) Refusal → Type 0
CasePart line l o l1 (Err k) = o ≡ refused (refusal_number k) line
CasePart line l o l1 (Ok y) = Case IsValue parts_of l o (at_top l1 y.1) (Ok y.0)

-- a value and its top are the definition's, or the refusal is, at the line
pub record MeetsPart (line : ℕ) (l : Lowering) (o : Outcome Value) (l1 : Lowering) (r : Result (Val × ℕ) Refusal) : Type 0 where
  pub shown : CasePart line l o l1 r

module _ {line : ℕ} {l : Lowering} {o : Outcome Value} {l1 : Lowering} {r : Result (Val × ℕ) Refusal} (m : MeetsPart line l o l1 r) where
  pub part_done : {y : Val × ℕ} → r ≡ Ok y → MeetsValue l o (at_top l1 y.1) (Ok y.0)
  part_done e = record { shown = subst (λ (z : Result (Val × ℕ) Refusal). CasePart line l o l1 z) e m.shown }

  pub part_refused : {k : Refusal} → r ≡ Err k → o ≡ refused (refusal_number k) line
  part_refused e = subst (λ (z : Result (Val × ℕ) Refusal). CasePart line l o l1 z) e m.shown

-- ---------------------------------------------------------------- extract

module _ {l : Lowering} {o : Outcome Value} {l1 : Lowering} {x : Val} (d : DoneValue l o l1 x) (h : l.top ≤ length l.stack.now) (i : ℕ) (env : At) (ws : List ℕ) (e : length ws ≡ length l1.stack.now) where
  stop : (r : Result (Val × ℕ) Refusal) → CaseExtract l1.stack.now l.top [] ws r → CasePart env.line l (refused 24 env.line) (with_stack l1 ws) r
  stop (Err k) m = rw m
  stop (Ok y) m = absurd m

  pick : (hs : List Head) (ov : Option Value) → Found hs ov → (r : Result (Val × ℕ) Refusal) → CaseExtract l1.stack.now l.top hs ws r → CasePart env.line l (prepend d.out (or_refuse 24 ov env (counters_in l1))) (with_stack l1 ws) r
  unfolding or_refuse
  pick hs None g r m = stop r (subst (λ (z : List Head). CaseExtract l1.stack.now l.top z ws r) g m)
  pick hs (Some w) found r m = go r (subst (λ (z : List Head). CaseExtract l1.stack.now l.top z ws r) found.1 m)
    where
      ks : List Head
      ks = found.0

      tk : take (records (root w)) (parts_of w ++ ks) ≡ parts_of w
      tk = take_at (parts_of w) ks (records (root w)) (sym (records_parts w))

      go : (r : Result (Val × ℕ) Refusal) → CaseExtract l1.stack.now l.top (root w ∷ (parts_of w ++ ks)) ws r → CasePart env.line l (prepend d.out (done w (counters_in l1) nothing)) (with_stack l1 ws) r
      go (Err k) m = absurd m
      go (Ok y) m = (record { head = m.0; sound = m.1 }, moved_left d.left h (subst (λ (z : List Head). Moved l1.stack.now l.top z ws y.1) tk m.2) e)

  by_value : (T : Tables) (v : Value) → (r : Result (Val × ℕ) Refusal) → CaseExtract l1.stack.now l.top (found_in (root v).shape (parts_of v) i) ws r → CasePart env.line l (prepend d.out (lower_extract T v i env (counters_in l1))) (with_stack l1 ws) r
  unfolding lower_extract or_refuse ◌>>=◌
  by_value T (value ty unit) r m = stop r m
  by_value T (value ty (bit_value x)) r m = stop r m
  by_value T (value ty (bytes_value x)) r m = stop r m
  by_value T (value ty (aggregate vs)) r m = finish (nth_value vs i) (pick (skip i (preorders vs)) (nth_value vs i) (skip_found i vs) r m)
    where
      finish : (ov : Option Value) → CasePart env.line l (prepend d.out (or_refuse 24 ov env (counters_in l1))) (with_stack l1 ws) r → CasePart env.line l (prepend d.out (prepend nothing (or_refuse 24 ov env (counters_in l1)))) (with_stack l1 ws) r
      finish None k = k
      finish (Some w) k = k

  pub extract_meets : (T : Tables) {r : Result (Val × ℕ) Refusal} → Extracts l1.stack.now l.top l1.top x i ws r → MeetsPart env.line l (prepend d.out (lower_extract T d.v i env (counters_in l1))) (with_stack l1 ws) r
  extract_meets T {r} m =
      let hp : heads l1.stack.now l.top l1.top ≡ parts_of d.v = left_heads d.left h in
      let g : found_in (head_of x).shape (heads l1.stack.now l.top l1.top) i ≡ found_in (root d.v).shape (parts_of d.v) i =
      ap (λ (z : Head). found_in z.shape (heads l1.stack.now l.top l1.top) i) d.shows.head ∙ ap (λ (z : List Head). found_in (root d.v).shape z i) hp in
      record { shown = by_value T d.v r (subst (λ (z : List Head). CaseExtract l1.stack.now l.top z ws r) g m.shown) }
