-- Questions that the code asks where the definitions do, what `?` gives back, and a last step that answers.
use Rattle.std.specs.Prelude.{◌≡◌, refl, List, [], ℕ, Option, None, Some, Result, Ok, Err}
use Rattle.std.specs.Option.{option_map, ok_or}
use Rattle.std.specs.Result.{MatchResult, IsErrAnd}
use Rattle.std.proofs.Common.{◌∙◌, append-nil}
use Rattle.answers.specs.declared.Refusal.{Refusal}
use Rattle.answers.specs.declared.Refused.{Refused}
use Rattle.answers.specs.Refusals.{refusal_number}
use Rattle.spec.specs.Hir.{At}
use Rattle.spec.specs.Monad.{Outcome, refused, Lower, pure, ◌>>=◌, or_refuse}
use Rattle.emission.specs.declared.emitter.Emitter.{Emitter}
use Rattle.emission.specs.Does.{Does}
use Rattle.emission.specs.Forms.{prepend_nothing}
use Rattle.places.specs.Answers.{outcome_of}
use Rattle.values.specs.declared.Lowering.{Lowering}
use Rattle.values.specs.Heads.{Head}
use Rattle.values.specs.Left.{counters_in, with_out, Shows, shown_done, shown_refused, stops}
use Rattle.values.specs.Laws.{left_does}
use Rattle.reads.proofs.Laws.{passed}

-- ---------------------------------------------------------------- what `ok_or` and `map_err` say

pub some_in : {C E : Type 0} (o : Option C) {x : C} (e : E) → Ok x ≡ ok_or o e → o ≡ Some x
some_in (Some y) e h = cc
some_in None e h = cc

pub none_in : {C E : Type 0} (o : Option C) {d : E} (e : E) → Err d ≡ ok_or o e → (o ≡ None) × (d ≡ e)
none_in (Some y) e h = cc
none_in None e h = (refl, cc)

-- the refusal behind one that `map_err` made, as its closure says
pub told_err : {C : Type 0} (Made : Refusal → Type 0) (s : Result C Refusal) (d : Refused Refusal) → MatchResult s (λ x. Err d ≡ Ok x) Made → (e : Refusal) × ((s ≡ Err e) × Made e)
told_err Made (Ok x) d m = cc
told_err Made (Err e) d m = (e, (refl, m))

-- ---------------------------------------------------------------- a definition's outcome, step by step

module _ {A B : Type 0} {P : A → B → Type 0} {hs : A → List Head} {l l' : Lowering} where
  -- a refusal that the definition has too
  pub told_stops : {o : Outcome A} {e : Refused Refusal} {n : ℕ} (k : Refusal) → e ≡ record { refusal = k; line = n } → o ≡ refused (refusal_number k) n → Shows P hs l o l' (Err e)
  told_stops k q p = rw q (stops p)

module _ {A B : Type 0} {P : A → B → Type 0} {hs : A → List Head} {l l' : Lowering} {r : Result B (Refused Refusal)} where
  -- the same, behind a `?`
  pub ask_stops : {C : Type 0} {o : Outcome A} {d : Refused Refusal} {n : ℕ} (k : Refusal) (q : Option C) (e : Refused Refusal) → Err d ≡ ok_or q e → e ≡ record { refusal = k; line = n }
      → IsErrAnd r (λ y. y ≡ d) → o ≡ refused (refusal_number k) n → Shows P hs l o l' r
  ask_stops k q e t u s p = let w = (none_in q e t).1 ∙ u in passed r _ s (rw w p)

  -- a question whose answer is the definition's by g
  pub none_stops : {C D : Type 0} {p : Option D} (g : C → D) (o : Option C) {d : Refused Refusal} (e : Refused Refusal) (f : D → Lower A) (h : At) (k : Refusal) → p ≡ option_map g o
      → Err d ≡ ok_or o e → e ≡ record { refusal = k; line = h.line } → IsErrAnd r (λ y. y ≡ d) → Shows P hs l ((or_refuse (refusal_number k) p >>= f) h (counters_in l)) l' r
  unfolding or_refuse ◌>>=◌
  none_stops g o e f h k q t u s = ask_stops k o e t u s (rw (q, (none_in o e t).0))

  pub some_meets : {C D : Type 0} {p : Option D} (g : C → D) (o : Option C) {x : C} (e : Refused Refusal) (n : ℕ) (f : D → Lower A) (h : At) → p ≡ option_map g o
      → Ok x ≡ ok_or o e → Shows P hs l (f (g x) h (counters_in l)) l' r → Shows P hs l ((or_refuse n p >>= f) h (counters_in l)) l' r
  unfolding or_refuse ◌>>=◌
  some_meets g o {x} e n f h q t m = rw (q, some_in o e t) (rw (prepend_nothing (f (g x) h (counters_in l))) m)

  -- a question about places, which appends nothing
  pub place_stops : {C D : Type 0} {m : Lower D} (g : C → D) (q : Result C Refusal) {x : Refusal} {d : Refused Refusal} (f : D → Lower A) (h : At) → m ≡ outcome_of g q
      → q ≡ Err x → d ≡ record { refusal = x; line = h.line } → IsErrAnd r (λ y. y ≡ d) → Shows P hs l ((m >>= f) h (counters_in l)) l' r
  unfolding ◌>>=◌
  place_stops g q f h e k t s = passed r _ s (rw (e, k, t))

  pub place_meets : {C D : Type 0} {m : Lower D} (g : C → D) (q : Result C Refusal) {x : C} (f : D → Lower A) (h : At) → m ≡ outcome_of g q
      → q ≡ Ok x → Shows P hs l (f (g x) h (counters_in l)) l' r → Shows P hs l ((m >>= f) h (counters_in l)) l' r
  unfolding ◌>>=◌
  place_meets g q {x} f h e k s = rw (e, k) (rw (prepend_nothing (f (g x) h (counters_in l))) s)

  -- a step that is refused, and then whatever would follow it
  pub shows_stops : {C D : Type 0} {Q : C → D → Type 0} {gs : C → List Head} (m : Lower C) {d : Refused Refusal} (f : C → Lower A) (h : At)
      → Shows Q gs l (m h (counters_in l)) l' (Err d) → IsErrAnd r (λ y. y ≡ d) → Shows P hs l ((m >>= f) h (counters_in l)) l' r
  unfolding ◌>>=◌
  shows_stops m f h k s = passed r _ s (rw (shown_refused k refl))

-- a step that answers, and then its answer as another
pub shows_as : {A B C D : Type 0} {P : A → B → Type 0} {Q : C → D → Type 0} {hs : A → List Head} {l l' : Lowering} {x : D} {y : B} (m : Lower C) (f : C → A) (h : At)
    → Shows Q (λ _. []) l (m h (counters_in l)) l' (Ok x) → ((v : C) → hs (f v) ≡ []) → ((v : C) → Q v x → P (f v) y) → Shows P hs l ((m >>= λ v. pure (f v)) h (counters_in l)) l' (Ok y)
unfolding ◌>>=◌
shows_as m f h k e q =
    let d = shown_done k refl in
    rw (d.is, append-nil d.out.storages, append-nil d.out.narrowed, append-nil d.out.instructions) (record { shown = (q d.v d.shows, rw (e d.v) d.left) })

-- a last step that appends
pub does_shows : {A B : Type 0} {P : A → B → Type 0} {hs : A → List Head} {l : Lowering} {n : ℕ} {m : Lower A} {a : A} {e1 : Emitter} {x : B} (h : At)
    → h.node ≡ l.out.node.0 → Does n l.out m a e1 → hs a ≡ [] → P a x → Shows P hs l (m h (counters_in l)) (with_out l e1) (Ok x)
does_shows {l = l} h e d q p = rw (d.is h) (record { shown = (p, rw q (left_does {l = l} h e d)) })
