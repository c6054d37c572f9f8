-- The words lent: cleared, summed up, enough or too few.
use Rattle.std.specs.Prelude.{Result, Ok, Err}
use Prim.Native.Nat.{ℕ, suc, ◌+◌, ◌-◌, ◌/◌, ◌≤◌, ◌<◌}
use mathlib.Core.Path.{◌≡◌, refl, sym, ap, subst, ◌∙◌}
use mathlib.Core.Bool.{Bool, true, false}
use mathlib.Core.Logic.{◌⊎◌, inl, inr, ⊎_elim}
use mathlib.Core.List.{List}
use native.Mathlib.Omega.{arith}
use native.Mathlib.Numerals.{add-one}
use lib.Dec.{leb}
use borrow.Author.Tests.{lt-leb}
use lib.ListN.{length}
use Rattle.spec.specs.Limits.{text_limit, weight_sum_limit}
use Rattle.spec.specs.Ticket.{NodeLine, Tables}
use Rattle.spec.specs.Readable.{Readable, line_sum}
use Rattle.spec.specs.Lower.{lowered}
use Rattle.spec.specs.Text.{split, line_feed}
use Rattle.spec.specs.Read.{read_ticket}
use Rattle.spec.specs.Read as reading
use Rattle.spec.specs.Answer.{accepted, of_lowering, of_reading, answer, left_in}
use Rattle.spec.specs.Answer as spec-answer
use Rattle.spec.proofs.CostRoom.{room}
use Rattle.spec.proofs.ReadingTicket.{readable}
use Rattle.tables.specs.declared.Counts.{Counts}
use Rattle.tables.specs.Tables.{tab, tables_of, node_line, node_type_at, weight_at}
use Rattle.tables.proofs.Laws.{weight_here}
use Rattle.answers.specs.declared.Refusal.{Refusal}
use Rattle.answers.specs.declared.Refused.{Refused}
use Rattle.answers.specs.Refusals.{refusal_number}
use Rattle.ticket.specs.declared.ReadError.{ReadError}
use Rattle.line_checks.specs.Rows.{rows_length}
use Rattle.ticket.specs.Answers.{AnswerIs, Answered}
use Rattle.reads.specs.Reading.{weight_of}
use Rattle.answers.specs.Answers.{Answers}
use Rattle.compiler.specs.Tries.{CaseTried, Tries}
use Rattle.compiler.specs.Lent.{FewWords, FewRead, FewRows, Short, lists_length, marks_length, stack_length}
use Rattle.sections.specs.Sections.{all_weights, Ready}

-- ---------------------------------------------------------------- weights

-- what is left of a sum over a table
abbrev left_sum : (ℕ → ℕ) → (ℕ → NodeLine) → ℕ → ℕ → ℕ
left_sum f g n k = line_sum f (tab g k (n - k))

left_more : (f : ℕ → ℕ) (g : ℕ → NodeLine) (n k : ℕ) → k < n → left_sum f g n k ≡ f (g k).type + left_sum f g n (k + 1)
unfolding line_sum tab
left_more f g n k h =
    let e : n - k ≡ suc (n - (k + 1)) = omega arith in
    ap (λ (z : ℕ). line_sum f (tab g k z)) e ∙ ap (λ (z : ℕ). f (g k).type + line_sum f (tab g z (n - (k + 1)))) (sym (add-one k))

left_none : (f : ℕ → ℕ) (g : ℕ → NodeLine) (n k : ℕ) → n ≤ k → left_sum f g n k ≡ 0
unfolding line_sum tab
left_none f g n k h = let e : n - k ≡ 0 = omega arith in ap (λ (z : ℕ). line_sum f (tab g k z)) e

module _ (rows lists : List ℕ) (n : Counts) where
  -- a sum so far, and what is left of it
  pub record Summed (sum k : ℕ) : Type 0 where
    pub is : sum + left_sum (weight_of (tables_of rows lists n)) (node_line rows lists n) n.nodes k ≡ all_weights (tables_of rows lists n)

  pub sum_none : Summed 0 0
  unfolding tables_of
  sum_none =
      let e : n.nodes - 0 ≡ n.nodes = omega arith in
      let z : (x : ℕ) → 0 + x ≡ x = λ x. omega arith in
      record { is = z _ ∙ ap (λ (x : ℕ). line_sum (weight_of (tables_of rows lists n)) (tab (node_line rows lists n) 0 x)) e }

  pub sum_more : {sum k w : ℕ} → Summed sum k → k < n.nodes → w ≡ weight_of (tables_of rows lists n) (node_line rows lists n k).type → Summed (sum + w) (k + 1)
  sum_more {sum} {k} {w} s h e =
      let f = weight_of (tables_of rows lists n) in
      record { is = omega (arith, s.is, left_more f (node_line rows lists n) n.nodes k h) }

  pub sum_all : {sum k : ℕ} → Summed sum k → n.nodes ≤ k → sum ≡ all_weights (tables_of rows lists n)
  sum_all {sum} {k} s h = omega (arith, s.is, left_none (weight_of (tables_of rows lists n)) (node_line rows lists n) n.nodes k h)

  -- it stays small
  pub sum_small : {sum k w : ℕ} → Readable (tables_of rows lists n) → Summed sum k → k < n.nodes → w ≡ weight_of (tables_of rows lists n) (node_line rows lists n k).type → sum + w ≤ weight_sum_limit
  sum_small {sum} {k} {w} r s h e = let z = sum_more s h e in omega (arith, z.is, r.weight_sum)

  pub weight_is : (k : ℕ) {ty w : ℕ} → ty ≡ node_type_at rows lists n k → w ≡ weight_at rows n ty → w ≡ weight_of (tables_of rows lists n) (node_line rows lists n k).type
  unfolding node_line
  weight_is k {ty} {w} e f = f ∙ sym (weight_here rows lists n ty) ∙ ap (λ (z : ℕ). weight_of (tables_of rows lists n) z) e

-- a stack of eight words for each record
pub ready_lent : {T : Tables} (stack : List ℕ) {w : ℕ} → w ≡ all_weights T → (length stack / 8 < w → ⊥) → Ready T stack
ready_lent stack e h = record { deep = omega (arith, h) }

-- ---------------------------------------------------------------- reading

module _ {o : reading.Read} {t ls : List ℕ} {r : Result Counts ReadError} (a : Answered o t ls r) where
  pub read_refused : {e : Refused Refusal} → r ≡ Err (ReadError.Refused e) → reading.refused (refusal_number e.refusal) e.line ≡ o
  read_refused e = subst (λ (z : Result Counts ReadError). AnswerIs o t ls z) e a.answer

  pub read_accepted : {c : Counts} → r ≡ Ok c → reading.accepted (tables_of t ls c) ≡ o
  read_accepted e = subst (λ (z : Result Counts ReadError). AnswerIs o t ls z) e a.answer

  pub read_no_room : r ≡ Err ReadError.NoRoom → length t < rows_length
  read_no_room e = subst (λ (z : Result Counts ReadError). AnswerIs o t ls z) e a.answer

pub answer_unread : (text l : List ℕ) (room : ℕ) (x : Refused Refusal) → reading.refused (refusal_number x.refusal) x.line ≡ read_ticket text → Answers (answer text room) l l (Err x)
unfolding answer of_reading left_in
answer_unread text l room x e = rw (← e) (record { answer = refl; left = refl; within = tt })

pub answer_read : (T : Tables) (text : List ℕ) {l l' : List ℕ} (room : ℕ) {r : Result ℕ (Refused Refusal)} → reading.accepted T ≡ read_ticket text → Answers (of_lowering T room (lowered T)) l l' r → Answers (answer text room) l l' r
unfolding answer of_reading
answer_read T text room e a = rw (← e) a

pub text_read : (T : Tables) (text : List ℕ) → reading.accepted T ≡ read_ticket text → Readable T
text_read T text e = readable text T (sym e)

pub text_too_long : (text : List ℕ) → text_limit < length text → reading.refused 1 0 ≡ read_ticket text
unfolding read_ticket
text_too_long text h = by (leb (length text) text_limit) (lt-leb (length text) text_limit h)
  where
    by : (b : Bool) → b ≡ false → reading.refused 1 0 ≡ elim b as (λ _. reading.Read) [ true ↦ reading.read_lines (split line_feed text) reading.start | false ↦ reading.refused 1 0 ]
    by true e = cc
    by false e = refl

-- ---------------------------------------------------------------- lent words

-- which it was
module _ {a : spec-answer.Answer} {S M : Type 0} {l l' : List ℕ} {r : Result ℕ ReadError} (t : Tries a S M l l' r) where
  as_tried : {r' : Result ℕ ReadError} → r ≡ r' → CaseTried a S M l l' r'
  as_tried e = subst (λ (z : Result ℕ ReadError). CaseTried a S M l l' z) e t.shown

  pub tried_refused : {x : Refused Refusal} → r ≡ Err (ReadError.Refused x) → Answers a l l' (Err x)
  tried_refused e = (as_tried e).1

  pub tried_accepted : {k : ℕ} → r ≡ Ok k → Answers a l l' (Ok k)
  tried_accepted e = (as_tried e).1

  pub tried_short : r ≡ Err ReadError.NoRoom → M ⊎ S
  tried_short e = (as_tried e).0

  pub tried_kept : r ≡ Err ReadError.NoRoom → l' ≡ l
  tried_kept e = (as_tried e).1

-- whatever was too few
pub tries_any : {a : spec-answer.Answer} {S M : Type 0} {l l' : List ℕ} {r : Result ℕ ReadError} → Tries a S M l l' r → Tries a ⊥ (Unit {0}) l l' r
tries_any {a} {S} {M} {l} {l'} {r} t = record { shown = by r t.shown }
  where
    by : (r : Result ℕ ReadError) → CaseTried a S M l l' r → CaseTried a ⊥ (Unit {0}) l l' r
    by (Err (ReadError.Refused x)) h = ((λ u. u), h.1)
    by (Ok k) h = ((λ u. u), h.1)
    by (Err ReadError.NoRoom) h = (inl tt, h.1)

-- tried again over a buffer that was kept
pub answers_again : (text : List ℕ) {l l1 l' : List ℕ} {r : Result ℕ (Refused Refusal)} → l1 ≡ l → Answers (answer text (length l1)) l1 l' r → Answers (answer text (length l)) l l' r
answers_again text {l} {l1} {l'} {r} e h = subst (λ (z : List ℕ). Answers (answer text (length z)) z l' r) e h

-- for the same reason in other words
tries_case : (a : spec-answer.Answer) {S U M N : Type 0} (l l' : List ℕ) → (S → U) → (U → S) → (M → N) → (r : Result ℕ ReadError) → CaseTried a S M l l' r → CaseTried a U N l l' r
tries_case a l l' f g m (Err (ReadError.Refused x)) h = ((λ u. h.0 (g u)), h.1)
tries_case a l l' f g m (Ok k) h = ((λ u. h.0 (g u)), h.1)
tries_case a l l' f g m (Err ReadError.NoRoom) h = (⊎_elim (λ x. inl (m x)) (λ x. inr (f x)) h.0, h.1)

pub tries_for : {a : spec-answer.Answer} {S U M N : Type 0} {l l' : List ℕ} {r : Result ℕ ReadError} → (S → U) → (U → S) → (M → N) → Tries a S M l l' r → Tries a U N l l' r
tries_for {a} {l = l} {l'} {r} f g m t = record { shown = tries_case a l l' f g m r t.shown }

-- of a ticket that is read
pub tries_read : (T : Tables) (text : List ℕ) {l l' : List ℕ} (room rows marks stack : ℕ) {r : Result ℕ ReadError} → reading.accepted T ≡ read_ticket text
    → Tries (of_lowering T room (lowered T)) (FewWords T marks stack) ⊥ l l' r → Tries (answer text room) (FewRead text marks stack) (FewRows rows) l l' r
unfolding answer of_reading
tries_read T text {l} {l'} room rows marks stack {r} e t =
    let f : FewWords T marks stack → FewRead text marks stack = λ w. record { tables = T; is = sym e; few = w } in
    let g : FewRead text marks stack → FewWords T marks stack = λ w. few_of w in
    let m : ⊥ → FewRows rows = λ x. absurd x in
    let u = tries_for f g m t in
    subst (λ (z : reading.Read). Tries (of_reading room z) (FewRead text marks stack) (FewRows rows) l l' r) e u
  where
    few_of : FewRead text marks stack → FewWords T marks stack
    few_of w = let i = w.is in let q : w.tables ≡ T = cc in subst (λ (z : Tables). FewWords z marks stack) q w.few

-- what is not read asks for nothing
pub unread_few : {text : List ℕ} {marks stack n k : ℕ} → reading.refused n k ≡ read_ticket text → FewRead text marks stack → ⊥
unread_few e w = let i = w.is in let z : ◌≡◌ {A = ℕ} 0 1 = cc in omega arith

-- what is not read, refused or for want of rows
pub tries_unread : (text l : List ℕ) (room rows marks stack : ℕ) {t ls : List ℕ} {r : Result Counts ReadError} → Answered (read_ticket text) t ls r → (e : ReadError) → r ≡ Err e → length t ≡ rows
    → Tries (answer text room) (FewRead text marks stack) (FewRows rows) l l (Err e)
tries_unread text l room rows marks stack a (ReadError.Refused x) p n = let q = read_refused a p in record { shown = (unread_few q, answer_unread text l room x q) }
tries_unread text l room rows marks stack a ReadError.NoRoom p n = record { shown = (inl (omega (arith, read_no_room a p, n)), refl) }

-- words that are enough for every ticket are never too few
pub never_short : (text : List ℕ) (rows lists marks stack : ℕ) → rows_length ≤ rows → lists_length ≤ lists → marks_length ≤ marks → stack_length ≤ stack → FewRows rows ⊎ Short text lists marks stack → ⊥
never_short text rows lists marks stack h i j k s =
    ⊎_elim (λ w. omega (arith, w))
    (⊎_elim (λ w. omega (arith, w.0, w.1))
    (λ w. let r = readable text w.tables w.is in ⊎_elim (λ x. omega (arith, x, r.storage_count)) (λ x. omega (arith, x, r.weight_sum)) w.few)) s

-- words were enough, and the answer is known
module _ {a : spec-answer.Answer} {S : Type 0} {l l' : List ℕ} {r : Result ℕ (Refused Refusal)} where
  pub tries_ok : {k : ℕ} → r ≡ Ok k → (S → ⊥) → Answers a l l' r → Tries a S ⊥ l l' (Ok k)
  tries_ok e s h = record { shown = (s, subst (λ (z : Result ℕ (Refused Refusal)). Answers a l l' z) e h) }

  pub tries_err : {x : Refused Refusal} → r ≡ Err x → (S → ⊥) → Answers a l l' r → Tries a S ⊥ l l' (Err (ReadError.Refused x))
  tries_err e s h = record { shown = (s, subst (λ (z : Result ℕ (Refused Refusal)). Answers a l l' z) e h) }
