-- What a step leaves behind, and which outcome it was.
use Rattle.std.specs.Prelude.{◌≡◌, refl, List, ◌∷◌, ◌++◌, map, [], ℕ, ◌+◌, ◌*◌, length, take, set, Result, Ok, Err}
use Rattle.std.proofs.Common.{sym, ap, subst, ◌∙◌, append_assoc}
use Rattle.std.proofs.Math.ListN.{length-set}
use Rattle.answers.specs.declared.Refusal.{Refusal}
use Rattle.answers.specs.declared.Refused.{Refused}
use Rattle.answers.specs.Refusals.{refusal_number}
use Rattle.spec.specs.Lir.{BitOperand, Value, Values}
use Rattle.spec.specs.Monad.{Out, Outcome, done, refused}
use Rattle.spec.specs.Monad as monad
use Rattle.lir.specs.Abstract.{bit_operand_of}
use Rattle.lir.specs.declared.BitOperand.{BitOperand as Bit}
use Rattle.lir.specs.declared.Source.{Source}
use Rattle.emission.specs.declared.emitter.Emitter.{Emitter}
use Rattle.emission.specs.Appends.{Appends, counters_of, Keeps, keeps_all, keeps_then}
use Rattle.values.specs.declared.Lowering.{Lowering}
use Rattle.values.specs.declared.Value.{Value as Val}
use Rattle.values.specs.declared.Repr.{Repr as Rep}
use Rattle.values.specs.Heads.{Head, root, parts_of, preorders, count, head_of, Sound_value, All_sound}

abbrev pub counters_in : Lowering → monad.Counters
counters_in l = counters_of l.out

-- the same but for the top
abbrev pub at_top : Lowering → ℕ → Lowering
at_top l t = record { out = l.out; narrowed = l.narrowed; stack = l.stack; top = t }

-- the same but for the texts
abbrev pub with_out : Lowering → Emitter → Lowering
with_out l e = record { out = e; narrowed = l.narrowed; stack = l.stack; top = l.top }

-- the same but for the words on the stack
abbrev pub with_stack : Lowering → List ℕ → Lowering
with_stack l ws =
    record { out = l.out; narrowed = l.narrowed; stack = record { ref_ptr = l.stack.ref_ptr; ghost_name = l.stack.ghost_name; now = ws }; top = l.top }

-- ---------------------------------------------------------------- the slices that were lent

-- the same slices, as long as they were: so also where a step is refused, whatever it wrote before
pub record Holds (l l' : Lowering) : Type 0 where
  pub out : Keeps l.out l'.out
  pub marks : l'.narrowed.ghost_name ≡ l.narrowed.ghost_name
  pub marks_long : length l'.narrowed.now ≡ length l.narrowed.now
  pub words : l'.stack.ghost_name ≡ l.stack.ghost_name
  pub words_long : length l'.stack.now ≡ length l.stack.now

-- no mark is set
pub record SameMarks (l l' : Lowering) : Type 0 where
  pub marks : l'.narrowed.now ≡ l.narrowed.now
  pub same : l'.narrowed.ghost_name ≡ l.narrowed.ghost_name

-- no word of the stack is written, free ones neither
pub record SameStack (l l' : Lowering) : Type 0 where
  pub words : l'.stack.now ≡ l.stack.now
  pub same : l'.stack.ghost_name ≡ l.stack.ghost_name
  pub top : l'.top ≡ l.top

pub holds_all : (l : Lowering) → Holds l l
holds_all l = record { out = keeps_all l.out; marks = refl; marks_long = refl; words = refl; words_long = refl }

pub holds_then : {l l1 l2 : Lowering} → Holds l l1 → Holds l1 l2 → Holds l l2
holds_then a b =
    record {
      out = keeps_then a.out b.out;
      marks = b.marks ∙ a.marks;
      marks_long = b.marks_long ∙ a.marks_long;
      words = b.words ∙ a.words;
      words_long = b.words_long ∙ a.words_long;
    }

-- a step that writes to the texts alone
pub holds_out : {l : Lowering} {e : Emitter} → Keeps l.out e → Holds l (with_out l e)
holds_out k = record { out = k; marks = refl; marks_long = refl; words = refl; words_long = refl }

-- from another top, or to one
pub holds_from : {l l1 : Lowering} {t : ℕ} → Holds (at_top l t) l1 → Holds l l1
holds_from a = record { out = a.out; marks = a.marks; marks_long = a.marks_long; words = a.words; words_long = a.words_long }

pub holds_to : {l l1 : Lowering} (t : ℕ) → Holds l l1 → Holds l (at_top l1 t)
holds_to t a = record { out = a.out; marks = a.marks; marks_long = a.marks_long; words = a.words; words_long = a.words_long }

-- as many words written to the stack
pub holds_stack : {l l1 : Lowering} {ws : List ℕ} → length ws ≡ length l1.stack.now → Holds l l1 → Holds l (with_stack l1 ws)
holds_stack e a = record { out = a.out; marks = a.marks; marks_long = a.marks_long; words = a.words; words_long = e ∙ a.words_long }

pub marks_then : {l l1 l2 : Lowering} → SameMarks l l1 → SameMarks l1 l2 → SameMarks l l2
marks_then a b = record { marks = b.marks ∙ a.marks; same = b.same ∙ a.same }

-- ---------------------------------------------------------------- marks

-- the marks, with those of the storages ns set
unfoldable pub marked : List ℕ → List ℕ → List ℕ
marked l [] = l
marked l (n ∷ ns) = marked (set l n 1) ns

pub marked_append : (l ns ms : List ℕ) → marked l (ns ++ ms) ≡ marked (marked l ns) ms
unfolding marked
marked_append l [] ms = refl
marked_append l (n ∷ ns) ms = marked_append (set l n 1) ns ms

pub length_marked : (l ns : List ℕ) → length (marked l ns) ≡ length l
unfolding marked
length_marked l [] = refl
length_marked l (n ∷ ns) = length_marked (set l n 1) ns ∙ length-set l n 1

-- ---------------------------------------------------------------- records on the value stack

abbrev pub bit_words : ℕ → Bit → List ℕ
bit_words ty (Bit.Constant n) = ty ∷ 1 ∷ 0 ∷ n ∷ 0 ∷ 0 ∷ 0 ∷ 0 ∷ []
bit_words ty (Bit.Storage s) = ty ∷ 1 ∷ 1 ∷ s.0 ∷ 0 ∷ 0 ∷ 0 ∷ 0 ∷ []

abbrev pub bytes_words : ℕ → Source → ℕ → ℕ → List ℕ
bytes_words ty (Source.Constant n) c t = ty ∷ 2 ∷ 0 ∷ n ∷ 0 ∷ c ∷ t ∷ 0 ∷ []
bytes_words ty (Source.Storage b) c t = ty ∷ 2 ∷ 1 ∷ b.storage.0 ∷ b.offset ∷ c ∷ t ∷ 0 ∷ []

abbrev pub repr_words : ℕ → Rep → List ℕ
repr_words ty Rep.Unit = ty ∷ 0 ∷ 0 ∷ 0 ∷ 0 ∷ 0 ∷ 0 ∷ 0 ∷ []
repr_words ty (Rep.Bit b) = bit_words ty b
repr_words ty (Rep.Bytes b) = bytes_words ty b.source b.count b.total
repr_words ty (Rep.Aggregate n m) = ty ∷ 3 ∷ n ∷ m ∷ 0 ∷ 0 ∷ 0 ∷ 0 ∷ []

unfoldable pub value_words : Val → List ℕ
value_words v = repr_words v.ty v.repr

unfoldable pub values_words : List Val → List ℕ
values_words [] = []
values_words (v ∷ vs) = value_words v ++ values_words vs

pub words_append : (ps qs : List Val) → values_words (ps ++ qs) ≡ values_words ps ++ values_words qs
unfolding values_words
words_append [] qs = refl
words_append (p ∷ ps) qs = rw (words_append ps qs, append_assoc)

length_bit : (ty : ℕ) (b : Bit) → length (bit_words ty b) ≡ 8
length_bit ty (Bit.Constant n) = refl
length_bit ty (Bit.Storage s) = refl

length_bytes : (ty : ℕ) (s : Source) (c t : ℕ) → length (bytes_words ty s c t) ≡ 8
length_bytes ty (Source.Constant n) c t = refl
length_bytes ty (Source.Storage s) c t = refl

length_repr : (ty : ℕ) (p : Rep) → length (repr_words ty p) ≡ 8
length_repr ty Rep.Unit = refl
length_repr ty (Rep.Bit b) = length_bit ty b
length_repr ty (Rep.Bytes b) = length_bytes ty b.source b.count b.total
length_repr ty (Rep.Aggregate n m) = refl

pub length_value : (v : Val) → length (value_words v) ≡ 8
unfolding value_words
length_value v = length_repr v.ty v.repr

-- ---------------------------------------------------------------- the effect of a step

-- storages, narrowed storages and instructions of o appended, the counters cs, and records on the stack above what stood there
pub record Left (l : Lowering) (hs : List Head) (cs : monad.Counters) (o : Out) (l' : Lowering) : Type 0 where
  pub appends : Appends l.out o.storages o.instructions l'.out
  pub numbers : counters_in l' ≡ cs
  pub narrows : l'.narrowed.now ≡ marked l.narrowed.now o.narrowed
  pub marks : l'.narrowed.ghost_name ≡ l.narrowed.ghost_name
  pub parts : List Val
  pub shows : map head_of parts ≡ hs
  pub sound : All_sound parts
  pub topped : l'.top ≡ l.top + 8 * length parts
  pub stacked : take l'.top l'.stack.now ≡ take l.top l.stack.now ++ values_words parts
  pub long : length l'.stack.now ≡ length l.stack.now
  pub words : l'.stack.ghost_name ≡ l.stack.ghost_name

-- A definition's outcome against the code's answer: the same refusal; or an answer that is the definition's by P, and what it leaves, with
-- the records hs of it on the stack.
abbrev pub Case : {A B : Type 0} → (A → B → Type 0) → (A → List Head) → Lowering → Outcome A → Lowering → Result B (Refused Refusal) → Type 0
Case P hs l (done v cs o) l' (Ok x) = P v x × Left l (hs v) cs o l'
Case P hs l (done v cs o) l' (Err e) = ⊥
Case P hs l (refused m k) l' (Ok x) = ⊥
Case P hs l (refused m k) l' (Err e) = (refusal_number e.refusal ≡ m) × (e.line ≡ k)

pub record Shows {A B : Type 0} (P : A → B → Type 0) (hs : A → List Head) (l : Lowering) (o : Outcome A) (l' : Lowering) (r : Result B (Refused Refusal)) : Type 0 where
  pub shown : Case P hs l o l' r

-- a value, of which the parts are left
pub record IsValue (v : Value) (x : Val) : Type 0 where
  pub head : head_of x ≡ root v
  pub sound : Sound_value x

abbrev pub MeetsValue : Lowering → Outcome Value → Lowering → Result Val (Refused Refusal) → Type 0
MeetsValue = Shows IsValue parts_of

-- a bit
abbrev pub IsBit : BitOperand → Bit → Type 0
IsBit v x = bit_operand_of x ≡ v

abbrev pub MeetsBit : Lowering → Outcome BitOperand → Lowering → Result Bit (Refused Refusal) → Type 0
MeetsBit = Shows IsBit (λ _. [])

-- t values, as parts
abbrev pub AreParts : ℕ → Values → Unit {0} → Type 0
AreParts t vs _ = count vs ≡ t

abbrev pub MeetsList : ℕ → Lowering → Outcome Values → Lowering → Result (Unit {0}) (Refused Refusal) → Type 0
MeetsList t = Shows (AreParts t) preorders

-- ---------------------------------------------------------------- which outcome it was

pub record Done {A B : Type 0} (P : A → B → Type 0) (hs : A → List Head) (l : Lowering) (o : Outcome A) (l' : Lowering) (x : B) : Type 0 where
  pub v : A
  pub out : Out
  pub is : o ≡ done v (counters_in l') out
  pub shows : P v x
  pub left : Left l (hs v) (counters_in l') out l'

abbrev pub DoneValue : Lowering → Outcome Value → Lowering → Val → Type 0
DoneValue = Done IsValue parts_of

done_case : {A B : Type 0} (P : A → B → Type 0) (hs : A → List Head) (l : Lowering) (o : Outcome A) (l' : Lowering) (x : B) → Case P hs l o l' (Ok x) → Done P hs l o l' x
done_case P hs l (done v cs o) l' x m =
    let e = sym m.1.numbers in
    record {
      v = v;
      out = o;
      is = ap (λ (z : monad.Counters). done v z o) e;
      shows = m.0;
      left = subst (λ (z : monad.Counters). Left l (hs v) z o l') e m.1;
    }
done_case P hs l (refused k n) l' x m = absurd m

stop_case : {A B : Type 0} (P : A → B → Type 0) (hs : A → List Head) (l : Lowering) (o : Outcome A) (l' : Lowering) (x : Refused Refusal)
    → Case P hs l o l' (Err x) → o ≡ refused (refusal_number x.refusal) x.line
stop_case P hs l (done v cs o) l' x h = absurd h
stop_case P hs l (refused m k) l' x h = rw (h.0, h.1)

module _ {A B : Type 0} {P : A → B → Type 0} {hs : A → List Head} {l : Lowering} {o : Outcome A} {l' : Lowering} where
  pub shown_done : {r : Result B (Refused Refusal)} {x : B} → Shows P hs l o l' r → r ≡ Ok x → Done P hs l o l' x
  shown_done {r} {x} m e = done_case P hs l o l' x (subst (λ (z : Result B (Refused Refusal)). Case P hs l o l' z) e m.shown)

  pub shown_refused : {r : Result B (Refused Refusal)} {x : Refused Refusal} → Shows P hs l o l' r → r ≡ Err x → o ≡ refused (refusal_number x.refusal) x.line
  shown_refused {r} {x} h e = stop_case P hs l o l' x (subst (λ (z : Result B (Refused Refusal)). Case P hs l o l' z) e h.shown)

  -- a refusal, as the definition's
  pub stops : {x : Refused Refusal} → o ≡ refused (refusal_number x.refusal) x.line → Shows P hs l o l' (Err x)
  stops e = record { shown = rw e (refl, refl) }
