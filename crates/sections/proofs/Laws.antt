-- What the runs of the lowering leave, where the listing's halves end, and the listing as one half behind the other.
use Prim.Native.Nat.{ℕ, ◌+◌, ◌-◌, ◌≤◌, ◌<◌}
use mathlib.Core.Path.{◌≡◌, refl, sym, ap, subst, ◌∙◌}
use mathlib.Core.Bool.{Bool, true, false}
use mathlib.Core.List.{List, ◌++◌, append_assoc}
use native.Mathlib.Omega.{arith}
use lib.Dec.{leb}
use borrow.Author.Tests.{le-leb, lt-leb}
use lib.ListN.{length, take, drop, get_or, length-append}
use lib.Seq.{sets, sets-eq, length-sets, drop-drop, take_at, take_all}
use Rattle.std.specs.Prelude.{Result, Ok, Err}
use Rattle.std.specs.Result.{IsErrAnd}
use Rattle.std.proofs.lemmas.Result.{err_from_is_err_and}
use Rattle.std.proofs.Common.{MutBor}
use Rattle.spec.specs.Hir.{Expr}
use Rattle.spec.specs.Ticket.{Tables, expr_at, nowhere}
use Rattle.spec.specs.Readable.{Readable, root}
use Rattle.spec.specs.Lir.{Value}
use Rattle.spec.specs.Monad.{Outcome, Out, done, refused}
use Rattle.spec.specs.Monad as monad
use Rattle.spec.specs.Lower.{lower_expression, lowered}
use Rattle.spec.specs.Print.{print_listing}
use Rattle.spec.specs.Answer.{ascending, accepted, listing_of, fitted, of_lowering, left_in}
use Rattle.spec.specs.Answer as spec-answer
use Rattle.spec.proofs.CostRoom.{room}
use Rattle.text.proofs.Copying.{middle_is}
use Rattle.text.specs.Put.{sat, last, sets_append}
use Rattle.text.specs.Writes.{Writes, writes_then}
use Rattle.text.specs.declared.writer.Writer.{Writer}
use Rattle.tables.specs.declared.Counts.{Counts}
use Rattle.tables.specs.declared.lookups.Tables as code
use Rattle.tables.specs.Tables.{tables_of, storage_line, node_line}
use Rattle.tables.specs.Ticket.{ticket_of}
use Rattle.tables.proofs.Laws.{length_tab}
use Rattle.answers.specs.declared.Refusal.{Refusal}
use Rattle.answers.specs.declared.Refused.{Refused}
use Rattle.answers.specs.Refusals.{refusal_number}
use Rattle.answers.specs.Answers.{Answers}
use Rattle.emission.specs.declared.emitter.Emitter.{Emitter}
use Rattle.emission.specs.Appends.{Begins}
use Rattle.values.specs.declared.Lowering.{Lowering}
use Rattle.values.specs.declared.Value.{Value as Val}
use Rattle.values.specs.Heads.{parts_of}
use Rattle.values.specs.Left.{counters_in, Left, IsValue, MeetsValue, DoneValue}
use Rattle.values.specs.Stack.{heads, Stands, stands_left}
use Rattle.parts.specs.Meets.{left_fits, left_heads}
use Rattle.reads.specs.Reading.{weight_of}
use Rattle.printing.specs.Marks.{marks_from, narrowed_lines}
use Rattle.printing.proofs.Laws.{value_printed, marks_ascending}
use Rattle.lowering.specs.Rooms.{TreeRoom}
use Rattle.sections.specs.declared.Sections.{Sections}
use Rattle.sections.specs.Sections.{Ready, Starts, narrowed_text, end_text, front_text, back_text, print_of, end_printed, Printable, Finished, Sectioned, Halves, Measures, ListingPut}

-- ---------------------------------------------------------------- tables

module _ (rows lists : List ℕ) (n : Counts) where
  pub storage_count : length (tables_of rows lists n).storages ≡ n.storages
  unfolding tables_of
  storage_count = length_tab (storage_line rows lists n) 0 n.storages

  pub node_count : length (tables_of rows lists n).nodes ≡ n.nodes
  unfolding tables_of
  node_count = length_tab (node_line rows lists n) 0 n.nodes

  pub next_is : (tables_of rows lists n).next ≡ n.next
  unfolding tables_of
  next_is = refl

-- an emitter of nothing yet
pub starts : (t : code.Tables) {l m : List ℕ} {e : Emitter} {marks stack : MutBor (List ℕ)} → Begins l m t.lines.counts.storages t.lines.counts.next e → Ready (ticket_of t.lines) stack.now
    → Starts (ticket_of t.lines) (record { out = e; narrowed = marks; stack = stack; top = 0 })
starts t b R =
    record {
      storage = omega (arith, b.storage, storage_count t.lines.rows.now t.lines.lists.now t.lines.counts);
      temporary = omega (arith, b.temporary, next_is t.lines.rows.now t.lines.lists.now t.lines.counts);
      instructions = b.instructions;
      code = b.code_at;
      store = b.store_at;
      top = refl;
      ready = R;
    }

-- ---------------------------------------------------------------- the root

root_is : (T : Tables) (k : ℕ) → length T.nodes ≡ k → root T ≡ expr_at 64 T (k - 1)
unfolding root
root_is T k e = ap (λ (z : ℕ). expr_at 64 T (z - 1)) e

module _ (T : Tables) (k : ℕ) {l : Lowering} (s : Starts T l) (e : length T.nodes ≡ k) where
  root_lowered : lower_expression T (expr_at 64 T (k - 1)) nowhere (counters_in l) ≡ lowered T
  unfolding lowered
  root_lowered =
      sym (
      ap (λ (z : Expr). lower_expression T z nowhere (record { storage = length T.storages; temporary = T.next })) (root_is T k e)
      ∙ ap (λ (z : ℕ). lower_expression T (expr_at 64 T (k - 1)) nowhere (record { storage = z; temporary = T.next })) (sym s.storage)
      ∙ ap (λ (z : ℕ). lower_expression T (expr_at 64 T (k - 1)) nowhere (record { storage = l.out.storage; temporary = z })) (sym s.temporary))

  pub root_room : Readable T → TreeRoom T (expr_at 64 T (k - 1)) l
  root_room r =
      let m = room T r in
      let a = r.storage_count in
      let b = r.next_most in
      let w = r.once (weight_of T) in
      let d = s.ready.deep in
      subst (λ (x : Expr). TreeRoom T x l) (root_is T k e)
      (record {
        room = record { instructions = omega (arith, m.instructions, s.instructions); storage = omega (arith, m.instructions, s.storage); temporary = omega (arith, m.instructions, s.temporary) };
        top = omega (arith, s.top);
      })

  pub root_meets : {l' : Lowering} {r : Result Val (Refused Refusal)}
      → MeetsValue l (lower_expression T (expr_at 64 T (k - 1)) nowhere (counters_in l)) l' r → MeetsValue l (lowered T) l' r
  root_meets {l'} {r} m = subst (λ (z : Outcome Value). MeetsValue l z l' r) root_lowered m

-- the stack is as long as it was
pub ready_kept : {T : Tables} {l l' : List ℕ} → length l' ≡ length l → Ready T l → Ready T l'
ready_kept e R = record { deep = omega (arith, R.deep) }

-- ---------------------------------------------------------------- a run that is done

module _ (n : ℕ) {T : Tables} {l : Lowering} (s : Starts T l) (e : length T.storages ≡ n) (v : Value) {c : monad.Counters} {o : Out} {l' : Lowering} (x : Val) (a : Left l (parts_of v) c o l') (g : IsValue v x) where
  empty : l.top ≤ length l.stack.now
  empty = omega (arith, s.top)

  pub printable : Printable n x l'.stack.now l'.top l'.out
  printable =
      record {
        sound = g.sound;
        fits = left_fits a empty;
        stands = subst (λ (k : ℕ). Stands l'.stack.now k l'.top) s.top (stands_left a empty);
        newer = omega (arith, a.appends.storage, s.storage, e);
      }

  pub end_is : end_printed n x l'.stack.now l'.top l'.out ≡ end_text v c o
  end_is =
      let h : heads l'.stack.now 0 l'.top ≡ parts_of v = subst (λ (k : ℕ). heads l'.stack.now k l'.top ≡ parts_of v) s.top (left_heads a empty) in
      let i : l'.out.instructions ≡ length o.instructions = omega (arith, a.appends.counted, s.instructions) in
      let j : l'.out.storage - n ≡ length o.storages = omega (arith, a.appends.storage, s.storage, e) in
      let k : l'.out.temporary ≡ c.temporary = ap (λ (y : monad.Counters). y.temporary) a.numbers in
      rw (value_printed x (heads l'.stack.now 0 l'.top) v g.head h, i, j, k)

  pub lines_are : n ≤ length l.narrowed.now → ((i : ℕ) → get_or l.narrowed.now i 0 ≡ 0) → narrowed_lines (marks_from n 0 l'.narrowed.now) ≡ narrowed_text T o
  lines_are h z =
      ap (λ (y : List ℕ). narrowed_lines (marks_from n 0 y)) a.narrows
      ∙ ap narrowed_lines (marks_ascending n 0 l.narrowed.now o.narrowed (omega arith) z)
      ∙ ap (λ (y : ℕ). narrowed_lines (ascending y 0 o.narrowed)) (sym e)

-- ---------------------------------------------------------------- measuring

-- where a text ends that is put at the start
at_start : (q at n : ℕ) → at ≡ 0 → q ≡ sat (at + n) → q ≡ sat n
unfolding sat
at_start q at n z e = omega arith

behind_front : (p q at n r : ℕ) → at ≡ 0 → q ≡ sat (at + n) → r ≡ sat (p + q) → r ≡ sat (p + n)
unfolding sat
behind_front p q at n r z e f = omega arith

-- what is put at the start of a slice stands there, if it has room
writes_taken : {w : Writer} {x : List ℕ} {w' : Writer} → Writes w x w' → w.at ≡ 0 → length x ≤ length w'.buf.now → take (length x) w'.buf.now ≡ x
writes_taken {w} {x} {w'} p z h =
    let n : length w'.buf.now ≡ length w.buf.now = ap length p.put.text ∙ length-sets w.buf.now w.at x in
    let t : w'.buf.now ≡ sets w.buf.now 0 x = p.put.text ∙ ap (λ (k : ℕ). sets w.buf.now k x) z in
    ap (λ (y : List ℕ). take (length x) y) (t ∙ sets-eq x w.buf.now 0 (omega arith)) ∙ take_at x (drop (0 + length x) w.buf.now) (length x) refl

-- a lowering has one outcome
done_same : (T : Tables) {v : Value} {c : monad.Counters} {o : Out} {v1 : Value} {c1 : monad.Counters} {o1 : Out}
    → lowered T ≡ done v c o → lowered T ≡ done v1 c1 o1 → (v ≡ v1) × (c ≡ c1) × (o ≡ o1)
done_same T e f = (cc, cc, cc)

done_not : (T : Tables) {v : Value} {c : monad.Counters} {o : Out} {n k : ℕ} → lowered T ≡ refused n k → lowered T ≡ done v c o → ⊥
done_not T e f = let z : ◌≡◌ {A = ℕ} 0 1 = cc in omega arith

module _ (T : Tables) (n : ℕ) {l l' : Lowering} {e2 : Emitter} {x : Val} {m : Sections} (s : Starts T l) (e : length T.storages ≡ n) (d : DoneValue l (lowered T) l' x) (f : Finished n l'.narrowed.now x l'.stack.now l'.top l'.out e2 m)
    (h : n ≤ length l.narrowed.now) (z : (i : ℕ) → get_or l.narrowed.now i 0 ≡ 0) where
  front_written : Writes l.out.store (front_text T d.out) e2.store
  front_written =
      writes_then d.left.appends.stored (subst (λ (y : List ℕ). Writes l'.out.store y e2.store) (lines_are n s e d.v x d.left d.shows h z) f.front)

  back_written : Writes l.out.code (back_text d.v (counters_in l') d.out) e2.code
  back_written = writes_then d.left.appends.coded (subst (λ (y : List ℕ). Writes l'.out.code y e2.code) (end_is n s e d.v x d.left d.shows) f.back)

  pub measured : Measures T e2.store.buf.now e2.code.buf.now (Ok m)
  measured =
      record {
        shown =
            record {
              value = d.v;
              counters = counters_in l';
              out = d.out;
              is = d.is;
              front = f.first ∙ at_start e2.store.at l.out.store.at (length (front_text T d.out)) s.store front_written.put.next;
              end = behind_front m.front e2.code.at l.out.code.at (length (back_text d.v (counters_in l') d.out)) m.end s.code back_written.put.next f.end;
            };
        halves =
            record {
              front = λ v c o i. let q = done_same T d.is i in rw (← q.2) (writes_taken front_written s.store);
              back = λ v c o i. let q = done_same T d.is i in rw (← q.0, ← q.1, ← q.2) (writes_taken back_written s.code);
            };
      }

pub measured_refused : {T : Tables} {store code : List ℕ} {x : Refused Refusal} → lowered T ≡ refused (refusal_number x.refusal) x.line → Measures T store code (Err x)
measured_refused {T} e = record { shown = e; halves = record { front = λ v c o i h. absurd (done_not T e i); back = λ v c o i h. absurd (done_not T e i) } }

-- which it was
module _ {T : Tables} {store code : List ℕ} {r : Result Sections (Refused Refusal)} (k : Measures T store code r) where
  pub sectioned : {m : Sections} → r ≡ Ok m → Sectioned T m
  sectioned {m} e = let g = rw e at k in g.shown

  pub stopped : {x : Refused Refusal} → r ≡ Err x → lowered T ≡ refused (refusal_number x.refusal) x.line
  stopped {x} e = let g = rw e at k in g.shown

-- ---------------------------------------------------------------- where all fits, positions are lengths

-- the listing is its halves
listing_is : (T : Tables) (v : Value) (c : monad.Counters) (o : Out) → print_of T v c o ≡ front_text T o ++ back_text v c o
unfolding print_listing listing_of
listing_is T v c o = simp append_assoc

module _ {T : Tables} {m : Sections} (S : Sectioned T m) where
  -- a listing that is longer is not measured shorter
  pub too_long : (room : ℕ) → room < m.end → room < length (print_of T S.value S.counters S.out)
  unfolding sat
  too_long room h =
      let F = front_text T S.out in
      let B = back_text S.value S.counters S.out in
      let e : length (print_of T S.value S.counters S.out) ≡ length F + length B = ap length (listing_is T S.value S.counters S.out) ∙ length-append F B in
      omega (arith, S.front, S.end)

  module _ (h : m.end < last) where
    pub front_exact : m.front ≡ length (front_text T S.out)
    unfolding sat
    front_exact = omega (arith, S.front, S.end)

    pub end_exact : m.end ≡ m.front + length (back_text S.value S.counters S.out)
    unfolding sat
    end_exact = omega (arith, S.front, S.end)

    pub half_first : m.front ≤ m.end
    half_first = omega (arith, end_exact)

    pub listing_length : m.end ≡ length (print_of T S.value S.counters S.out)
    listing_length =
        let F = front_text T S.out in
        let B = back_text S.value S.counters S.out in
        let e : length (print_of T S.value S.counters S.out) ≡ length F + length B = ap length (listing_is T S.value S.counters S.out) ∙ length-append F B in
        omega (arith, front_exact, end_exact)

    -- one half behind the other is the listing
    pub halves_put : (l : List ℕ) {l' : List ℕ} → l' ≡ sets (sets l 0 (front_text T S.out)) m.front (back_text S.value S.counters S.out) → ListingPut T l l'
    halves_put l {l'} p =
        let F = front_text T S.out in
        let B = back_text S.value S.counters S.out in
        let i : m.front ≡ 0 + length F = omega (arith, front_exact) in
        let w : l' ≡ sets l 0 (print_of T S.value S.counters S.out) =
        p ∙ ap (λ (k : ℕ). sets (sets l 0 F) k B) i ∙ sym (sets_append l 0 F B) ∙ ap (λ (z : List ℕ). sets l 0 z) (sym (listing_is T S.value S.counters S.out)) in
        record { text = λ v c o j. let q = done_same T S.is j in rw (← q.0, ← q.1, ← q.2) w }

    -- each half, in a slice that is as long as it is or longer
    module _ {store code : List ℕ} (H : Halves T store code) where
      pub front_taken : m.front ≤ length store → take m.front store ≡ front_text T S.out
      front_taken g = ap (λ (k : ℕ). take k store) front_exact ∙ H.front S.value S.counters S.out S.is (omega (arith, front_exact))

      pub back_taken : m.end - m.front ≤ length code → take (m.end - m.front) code ≡ back_text S.value S.counters S.out
      back_taken g =
          let e : m.end - m.front ≡ length (back_text S.value S.counters S.out) = omega (arith, end_exact) in
          ap (λ (k : ℕ). take k code) e ∙ H.back S.value S.counters S.out S.is (omega (arith, e))

      pub front_whole : length store ≡ m.front → store ≡ front_text T S.out
      front_whole g = sym (take_all m.front store (omega arith)) ∙ front_taken (omega arith)

      pub back_whole : length code ≡ m.end - m.front → code ≡ back_text S.value S.counters S.out
      back_whole g = sym (take_all (m.end - m.front) code (omega arith)) ∙ back_taken (omega arith)

-- ---------------------------------------------------------------- one part of the buffer behind the other

front_is : (l x : List ℕ) (end : ℕ) → end ≤ length l → end ≡ length x → x ++ drop end l ≡ sets l 0 x
front_is l x end h e = let z : 0 + length x ≡ end = omega arith in ap (λ (k : ℕ). x ++ drop k l) (sym z) ∙ sym (sets-eq x l 0 (omega arith))

module _ (l : List ℕ) (front end : ℕ) (h : front ≤ end) (k : end ≤ length l) where
  pub halves_is : (x w : List ℕ) {y z : List ℕ} → length x ≡ front → length w ≡ end - front → y ≡ x → z ≡ w
      → take front (y ++ drop front l) ++ (z ++ drop (end - front) (drop front (y ++ drop front l))) ≡ sets (sets l 0 x) front w
  halves_is x w {y} {z} i j p q =
      let f : y ++ drop front l ≡ sets l 0 x = ap (λ (u : List ℕ). u ++ drop front l) p ∙ front_is l x front (omega arith) (sym i) in
      let n = length-sets l 0 x in
      ap (λ (u : List ℕ). take front u ++ (z ++ drop (end - front) (drop front u))) f ∙ ap (λ (u : List ℕ). take front (sets l 0 x) ++ (u ++ drop (end - front) (drop front (sets l 0 x)))) q
      ∙ middle_is (sets l 0 x) w front end h (omega arith) (sym j)

-- each half is in the part of the buffer that it fills
pub halves_written : {T : Tables} {m : Sections} (S : Sectioned T m) → m.end < last → (l : List ℕ) → m.end ≤ length l → {r : List ℕ} → r ≡ drop m.front l → {y z : List ℕ}
    → Halves T y z → length y ≡ m.front → length z ≡ m.end - m.front → ListingPut T l (y ++ (z ++ drop (m.end - m.front) r))
halves_written {T} {m} S h l k {r} c {y} {z} H e f =
    let F = front_text T S.out in
    let B = back_text S.value S.counters S.out in
    let R = drop m.end l in
    let g = half_first S h in
    let n : m.end ≡ length (F ++ B) = omega (arith, front_exact S h, end_exact S h, length-append F B) in
    let i : m.front + (m.end - m.front) ≡ m.end = omega arith in
    let d : drop (m.end - m.front) r ≡ R =
    ap (λ (u : List ℕ). drop (m.end - m.front) u) c ∙ drop-drop (m.end - m.front) m.front l ∙ ap (λ (u : ℕ). drop u l) i in
    halves_put S h l
    (ap (λ (u : List ℕ). y ++ (z ++ u)) d ∙ ap (λ (u : List ℕ). u ++ (z ++ R)) (front_whole S h H e) ∙ ap (λ (u : List ℕ). F ++ (u ++ R)) (back_whole S h H f)
    ∙ sym (append_assoc F B R) ∙ front_is l (F ++ B) m.end k n ∙ sets_append l 0 F B ∙ ap (λ (u : ℕ). sets (sets l 0 F) u B) (omega (arith, front_exact S h)))

-- ---------------------------------------------------------------- the answer

pub answer_refused : (T : Tables) (room : ℕ) (l : List ℕ) (r : Result ℕ (Refused Refusal)) (x : Refused Refusal) → IsErrAnd r (λ y. y ≡ x) → lowered T ≡ refused (refusal_number x.refusal) x.line
    → Answers (of_lowering T room (lowered T)) l l r
unfolding of_lowering left_in
answer_refused T room l r x h e = let p = err_from_is_err_and r h in rw (p.1, p.2, e) (record { answer = refl; left = refl; within = tt })

fitted_in : (room : ℕ) (x : List ℕ) → length x ≤ room → fitted room x ≡ accepted x
unfolding fitted
fitted_in room x h = by (leb (length x) room) (le-leb (length x) room h)
  where
    by : (b : Bool) → b ≡ true → elim b as (λ _. spec-answer.Answer) [ true ↦ accepted x | false ↦ spec-answer.refused 28 0 ] ≡ accepted x
    by true e = refl
    by false e = cc

not_fitted : (room : ℕ) (x : List ℕ) → room < length x → fitted room x ≡ spec-answer.refused 28 0
unfolding fitted
not_fitted room x h = by (leb (length x) room) (lt-leb (length x) room h)
  where
    by : (b : Bool) → b ≡ false → elim b as (λ _. spec-answer.Answer) [ true ↦ accepted x | false ↦ spec-answer.refused 28 0 ] ≡ spec-answer.refused 28 0
    by true e = cc
    by false e = refl

of_done : (T : Tables) (room : ℕ) (v : Value) (c : monad.Counters) (o : Out) → lowered T ≡ done v c o → of_lowering T room (lowered T) ≡ fitted room (print_of T v c o)
unfolding of_lowering
of_done T room v c o e = rw e

-- a listing for which there is no room
abbrev pub no_room : Refused Refusal
no_room = record { refusal = Refusal.LongListing; line = 0 }

module _ {T : Tables} {m : Sections} (S : Sectioned T m) where
  pub answer_too_long : (l : List ℕ) → length l < m.end → Answers (of_lowering T (length l) (lowered T)) l l (Err no_room)
  unfolding left_in
  answer_too_long l h =
      let e : of_lowering T (length l) (lowered T) ≡ spec-answer.refused 28 0 = of_done T (length l) S.value S.counters S.out S.is ∙ not_fitted (length l) _ (too_long S (length l) h) in
      rw e (record { answer = refl; left = refl; within = tt })

  pub answer_accepted : (l l' : List ℕ) → m.end ≤ length l → length l < last → ListingPut T l l' → Answers (of_lowering T (length l) (lowered T)) l l' (Ok m.end)
  unfolding left_in
  answer_accepted l l' h k p =
      let P = print_of T S.value S.counters S.out in
      let n : m.end ≡ length P = listing_length S (omega arith) in
      let z : 0 + length P ≡ length P = omega arith in
      let e : of_lowering T (length l) (lowered T) ≡ accepted P = of_done T (length l) S.value S.counters S.out S.is ∙ fitted_in (length l) P (omega arith) in
      let f : l' ≡ P ++ drop (length P) l = p.text S.value S.counters S.out S.is ∙ sets-eq P l 0 (omega arith) ∙ ap (λ (y : ℕ). P ++ drop y l) z in
      let t : take m.end l' ≡ P = ap (λ (y : List ℕ). take m.end y) f ∙ take_at P (drop (length P) l) m.end (sym n) in
      let q : length l' ≡ length l = ap length (p.text S.value S.counters S.out S.is) ∙ length-sets l 0 P in
      record { answer = ap accepted t ∙ sym e; left = f ∙ ap (λ (y : spec-answer.Answer). left_in y l) (sym e); within = omega arith }
