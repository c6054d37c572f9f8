-- Laws of one step after another.
use Rattle.std.specs.Prelude.{◌≡◌, refl, List, ◌∷◌, ◌++◌, [], ℕ, suc, ◌+◌, ◌*◌, ◌≤◌, length, take, drop, Result, Ok, Err}
use Rattle.std.proofs.Common.{sym, ap, ◌∙◌, append_assoc, append-nil, arith, length-append, take-take, take_at, drop_at, take-add, length-take-le}
use Rattle.std.proofs.lemmas.List.{map-append}
use Rattle.std.proofs.lemmas.List.Edits.{sets, sets-eq}
use Rattle.std.proofs.Math.Seq.{length-sets, take-append-add}
use Rattle.spec.specs.Hir.{At}
use Rattle.spec.specs.Lir.{Value, Values, ◌∷ᵛ◌}
use Rattle.spec.specs.Monad.{Out, Outcome, done, refused, nothing, ◌⊕◌, prepend, bind_to, Lower, ◌>>=◌, ◌>>◌}
use Rattle.spec.specs.Monad as monad
use Rattle.answers.specs.declared.Refusal.{Refusal}
use Rattle.answers.specs.declared.Refused.{Refused}
use Rattle.emission.specs.declared.emitter.Emitter.{Emitter}
use Rattle.emission.specs.Appends.{counters_of, append_none, append_then}
use Rattle.emission.specs.Does.{Does, out}
use Rattle.values.specs.declared.Lowering.{Lowering}
use Rattle.values.specs.declared.Value.{Value as Val}
use Rattle.values.specs.Heads.{Head, head_of, preorders, Sound_value, sound_append}
use Rattle.values.specs.Left.{counters_in, at_top, with_out, with_stack, marked, marked_append, value_words, values_words, words_append, length_value, Left, Case, Shows, MeetsList, DoneValue, AreParts}

pub prepend_prepend : {A : Type 0} (o p : Out) (x : Outcome A) → prepend o (prepend p x) ≡ prepend (◌⊕◌ o p) x
prepend_prepend o p (refused n l) = refl
prepend_prepend o p (done a c q) =
    rw (append_assoc o.storages p.storages q.storages, append_assoc o.narrowed p.narrowed q.narrowed, append_assoc o.instructions p.instructions q.instructions)

-- nothing is left
pub left_none : (l : Lowering) → Left l [] (counters_in l) nothing l
unfolding values_words marked
left_none l =
    record {
      appends = append_none l.out;
      numbers = refl;
      narrows = refl;
      marks = refl;
      parts = [];
      shows = refl;
      sound = tt;
      topped = omega arith;
      stacked = sym (append-nil (take l.top l.stack.now));
      long = refl;
      words = refl;
    }

-- what stood on the value stack stands there still
pub left_kept : {l : Lowering} {hs : List Head} {cs : monad.Counters} {o : Out} {l1 : Lowering}
    → Left l hs cs o l1 → l.top ≤ length l.stack.now → take l.top l1.stack.now ≡ take l.top l.stack.now
left_kept {l} {l1 = l1} a h =
    let le : l.top ≤ l1.top = omega arith in
    sym (take-take l.top l1.top l1.stack.now le) ∙ ap (λ (z : List ℕ). take l.top z) a.stacked
    ∙ take_at (take l.top l.stack.now) (values_words a.parts) l.top (length-take-le l.top l.stack.now h)

-- a step, and then another
pub left_then : {l : Lowering} {hs : List Head} {cs : monad.Counters} {o : Out} {l1 : Lowering} {ks : List Head} {ds : monad.Counters} {p : Out} {l2 : Lowering}
    → Left l hs cs o l1 → Left l1 ks ds p l2 → Left l (hs ++ ks) ds (◌⊕◌ o p) l2
left_then {l} {o = o} {p = p} x y =
    record {
      appends = append_then x.appends y.appends;
      numbers = y.numbers;
      narrows = y.narrows ∙ rw (x.narrows, marked_append l.narrowed.now o.narrowed p.narrowed);
      marks = y.marks ∙ x.marks;
      parts = x.parts ++ y.parts;
      shows = map-append head_of x.parts y.parts ∙ rw (x.shows, y.shows);
      sound = sound_append x.parts y.parts x.sound y.sound;
      topped = rw (length-append x.parts y.parts) (omega arith);
      stacked = y.stacked ∙ rw (x.stacked, words_append x.parts y.parts, append_assoc);
      long = y.long ∙ x.long;
      words = y.words ∙ x.words;
    }

-- a step after one that is done with what it left on the stack
pub left_drop : {l : Lowering} {hs : List Head} {cs : monad.Counters} {o : Out} {l1 : Lowering} {ks : List Head} {ds : monad.Counters} {p : Out} {l2 : Lowering}
    → Left l hs cs o l1 → l.top ≤ length l.stack.now → Left (at_top l1 l.top) ks ds p l2 → Left l ks ds (◌⊕◌ o p) l2
left_drop {l} {o = o} {p = p} x h y =
    record {
      appends = append_then x.appends y.appends;
      numbers = y.numbers;
      narrows = y.narrows ∙ rw (x.narrows, marked_append l.narrowed.now o.narrowed p.narrowed);
      marks = y.marks ∙ x.marks;
      parts = y.parts;
      shows = y.shows;
      sound = y.sound;
      topped = y.topped;
      stacked = y.stacked ∙ rw (left_kept x h);
      long = y.long ∙ x.long;
      words = y.words ∙ x.words;
    }

-- what a step has done that leaves no records
pub left_does : {A : Type 0} {k : ℕ} {l : Lowering} {m : Lower A} {a : A} {e1 : Emitter} (h : At)
    → h.node ≡ l.out.node.0 → (d : Does k l.out m a e1) → Left l [] (counters_of e1) (out d.storages d.kinds h) (with_out l e1)
unfolding marked values_words
left_does {l = l} h e d =
    record {
      appends = d.appends h e;
      numbers = refl;
      narrows = refl;
      marks = refl;
      parts = [];
      shows = refl;
      sound = tt;
      topped = omega arith;
      stacked = sym (append-nil (take l.top l.stack.now));
      long = refl;
      words = refl;
    }

drop_case : {A B : Type 0} (P : A → B → Type 0) (hs : A → List Head) {l : Lowering} {ks : List Head} {cs : monad.Counters} {o : Out} {l1 : Lowering}
    → Left l ks cs o l1 → l.top ≤ length l.stack.now → (x : Outcome A) (l2 : Lowering) (r : Result B (Refused Refusal)) → Case P hs (at_top l1 l.top) x l2 r → Case P hs l (prepend o x) l2 r
drop_case P hs a h (done v t p) l2 (Ok y) k = (k.0, left_drop a h k.1)
drop_case P hs a h (done v t p) l2 (Err e) k = k
drop_case P hs a h (refused i j) l2 (Ok y) k = k
drop_case P hs a h (refused i j) l2 (Err e) k = k

then_case : {A B : Type 0} (P : A → B → Type 0) (hs : A → List Head) {l : Lowering} {cs : monad.Counters} {o : Out} {l1 : Lowering} → Left l [] cs o l1
    → (x : Outcome A) (l2 : Lowering) (r : Result B (Refused Refusal)) → Case P hs l1 x l2 r → Case P hs l (prepend o x) l2 r
then_case P hs a (done v t p) l2 (Ok y) k = (k.0, left_then a k.1)
then_case P hs a (done v t p) l2 (Err e) k = k
then_case P hs a (refused i j) l2 (Ok y) k = k
then_case P hs a (refused i j) l2 (Err e) k = k

module _ {A B : Type 0} {P : A → B → Type 0} {hs : A → List Head} {l l2 : Lowering} {r : Result B (Refused Refusal)} where
  -- an answer after a step that is done with what it left on the stack
  pub drop_shows : {ks : List Head} {cs : monad.Counters} {o : Out} {l1 : Lowering} {x : Outcome A}
      → Left l ks cs o l1 → l.top ≤ length l.stack.now → Shows P hs (at_top l1 l.top) x l2 r → Shows P hs l (prepend o x) l2 r
  drop_shows {x = x} a h k = record { shown = drop_case P hs a h x l2 r k.shown }

  -- a step that appends, and then one that answers
  module _ {C : Type 0} {n : ℕ} {m : Lower C} {a : C} {e1 : Emitter} (h : At) (e : h.node ≡ l.out.node.0) (d : Does n l.out m a e1) where
    pub does_meets : (f : C → Lower A) → Shows P hs (with_out l e1) (f a h (counters_of e1)) l2 r → Shows P hs l ((m >>= f) h (counters_in l)) l2 r
    unfolding ◌>>=◌
    does_meets f k = rw (d.is h) (record { shown = then_case P hs (left_does {l = l} h e d) (f a h (counters_of e1)) l2 r k.shown })

    pub next_meets : (p : Lower A) → Shows P hs (with_out l e1) (p h (counters_of e1)) l2 r → Shows P hs l ((m >> p) h (counters_in l)) l2 r
    unfolding ◌>>◌
    next_meets p k = rw (d.is h) (record { shown = then_case P hs (left_does {l = l} h e d) (p h (counters_of e1)) l2 r k.shown })

-- ws stored at t, below what was left above t + n
under : (l l1 ws xs : List ℕ) (t n m : ℕ) → length ws ≡ n → t + n ≤ length l → length l1 ≡ length l → take (t + n + m) l1 ≡ take (t + n) l ++ xs → take (t + n + m) (sets l1 t ws) ≡ take t l ++ (ws ++ xs)
under l l1 ws xs t n m ew h el e =
    let h1 : t + n ≤ length l1 = omega arith in
    let lt1 : length (take (t + n) l1) ≡ t + n = length-take-le (t + n) l1 h1 in
    let lt0 : length (take (t + n) l) ≡ t + n = length-take-le (t + n) l h in
    let both : take (t + n) l1 ++ take m (drop (t + n) l1) ≡ take (t + n) l ++ xs = sym (take-add (t + n) m l1) ∙ e in
    let rest : take m (drop (t + n) l1) ≡ xs = sym (drop_at (take (t + n) l1) (take m (drop (t + n) l1)) (t + n) lt1) ∙ ap (λ (z : List ℕ). drop (t + n) z) both ∙ drop_at (take (t + n) l) xs (t + n) lt0 in
    let front : take (t + n) l1 ≡ take (t + n) l = sym (take_at (take (t + n) l1) (take m (drop (t + n) l1)) (t + n) lt1) ∙ ap (λ (z : List ℕ). take (t + n) z) both ∙ take_at (take (t + n) l) xs (t + n) lt0 in
    let le : t ≤ t + n = omega arith in
    let head : take t l1 ≡ take t l = sym (take-take t (t + n) l1 le) ∙ ap (λ (z : List ℕ). take t z) front ∙ take-take t (t + n) l le in
    let hs : t + length ws ≤ length l1 = omega arith in
    let lt : length (take t l1) ≡ t = length-take-le t l1 (omega arith) in
    let split : t + n + m ≡ length (take t l1) + (length ws + m) = omega arith in
    rw (sets-eq ws l1 t hs, append_assoc (take t l1) ws (drop (t + length ws) l1), split, take-append-add (take t l1), take-append-add ws, ew, rest, head)

-- a value's record below its parts
pub left_under : {l : Lowering} {hs : List Head} {cs : monad.Counters} {o : Out} {l1 : Lowering} (v : Val)
    → Sound_value v → Left (at_top l (l.top + 8)) hs cs o l1 → l.top + 8 ≤ length l.stack.now
    → Left l (head_of v ∷ hs) cs o (with_stack l1 (sets l1.stack.now l.top (value_words v)))
unfolding values_words
left_under {l} {hs} {l1 = l1} v g a h =
    record {
      appends = a.appends;
      numbers = a.numbers;
      narrows = a.narrows;
      marks = a.marks;
      parts = v ∷ a.parts;
      shows = ap (λ (z : List Head). head_of v ∷ z) a.shows;
      sound = (g, a.sound);
      topped = omega arith;
      stacked = rw a.topped (under l.stack.now l1.stack.now (value_words v) (values_words a.parts) l.top 8 (8 * length a.parts) (length_value v) h a.long (rw a.topped at a.stacked));
      long = length-sets l1.stack.now l.top (value_words v) ∙ a.long;
      words = a.words;
    }

-- a value in front of the values that follow
abbrev pub cons_to : Value → Values → At → monad.Counters → Outcome Values
cons_to v vs h c = done (v ∷ᵛ vs) c nothing

more_case : (l : Lowering) {o : Outcome Value} {l1 : Lowering} {x : Val} (t t' : ℕ) (env : At) (d : DoneValue (at_top l (l.top + 8)) o l1 x)
    → l.top + 8 ≤ length l.stack.now → t' ≡ suc t → (y : Outcome Values) (l2 : Lowering) (r : Result (Unit {0}) (Refused Refusal))
    → Case (AreParts t) preorders (with_stack l1 (sets l1.stack.now l.top (value_words x))) y l2 r → Case (AreParts t') preorders l (prepend d.out (bind_to (cons_to d.v) env y)) l2 r
more_case l {o} {l1} {x} t t' env d h e (done vs c p) l2 (Ok u) k =
    let a = left_then (left_under x d.shows.sound d.left h) k.1 in
    (ap suc k.0 ∙ sym e, rw (append-nil p.storages, append-nil p.narrowed, append-nil p.instructions, ← d.shows.head) a)
more_case l t t' env d h e (done vs c p) l2 (Err i) k = k
more_case l t t' env d h e (refused i j) l2 (Ok u) k = k
more_case l t t' env d h e (refused i j) l2 (Err i') k = k

pub list_more : {l : Lowering} {o : Outcome Value} {l1 : Lowering} {x : Val} {t : ℕ} (t' : ℕ) (env : At) (d : DoneValue (at_top l (l.top + 8)) o l1 x)
    → l.top + 8 ≤ length l.stack.now → t' ≡ suc t → {y : Outcome Values} {l2 : Lowering} {r : Result (Unit {0}) (Refused Refusal)}
    → MeetsList t (with_stack l1 (sets l1.stack.now l.top (value_words x))) y l2 r → MeetsList t' l (prepend d.out (bind_to (cons_to d.v) env y)) l2 r
list_more {l = l} {t = t} t' env d h e {y} {l2} {r} k = record { shown = more_case l t t' env d h e y l2 r k.shown }
