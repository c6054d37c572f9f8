-- The records between two places of the stack, taken apart: the first, the first k, those behind them.
use Rattle.std.specs.Prelude.{◌≡◌, refl, List, ◌∷◌, ◌++◌, map, [], ℕ, zero, suc, ◌+◌, ◌-◌, ◌*◌, ◌≤◌, ◌<◌, min, length, take, drop, get_or}
use Rattle.std.proofs.Common.{sym, ap, subst, ◌∙◌, arith, length-append, length-drop, drop-cons, take-take, drop-drop, length-take-le}
use Rattle.std.proofs.Math.Seq.{drop-nil, take-nil, take_all, drop-append-add, take-append-add}
use Rattle.values.specs.declared.Value.{Value as Val}
use Rattle.values.specs.Heads.{Head, head_of, All_sound, Sound_value}
use Rattle.values.specs.Left.{value_words, values_words, length_value}
use Rattle.values.specs.Stack.{value_at, values_in, values_back, between, Stands}

-- ---------------------------------------------------------------- lists

pub drop_min : {A : Type 0} (k : ℕ) (l : List A) → drop (min k (length l)) l ≡ drop k l
drop_min zero l = let e : min 0 (length l) ≡ 0 = omega arith in ap (λ (z : ℕ). drop z l) e
drop_min (suc k) [] = drop-nil (min (suc k) 0)
drop_min (suc k) (x ∷ l) =
    let e : min (suc k) (suc (length l)) ≡ suc (min k (length l)) = omega arith in
    ap (λ (z : ℕ). drop z (x ∷ l)) e ∙ drop_min k l

drop_of_take : (n m : ℕ) (l : List ℕ) → drop n (take m l) ≡ take (m - n) (drop n l)
drop_of_take zero m l = let e : m - 0 ≡ m = omega arith in ap (λ (z : ℕ). take z l) (sym e)
drop_of_take (suc n) zero l = let e : 0 - suc n ≡ 0 = omega arith in ap (λ (z : ℕ). take z (drop (suc n) l)) (sym e)
drop_of_take (suc n) (suc m) [] = sym (take-nil (suc m - suc n))
drop_of_take (suc n) (suc m) (x ∷ l) = let e : suc m - suc n ≡ m - n = omega arith in drop_of_take n m l ∙ ap (λ (z : ℕ). take z (drop n l)) (sym e)

sound_drop : (k : ℕ) (vs : List Val) → All_sound vs → All_sound (drop k vs)
sound_drop zero vs a = a
sound_drop (suc k) [] a = a
sound_drop (suc k) (v ∷ vs) a = sound_drop k vs a.1

sound_take : (k : ℕ) (vs : List Val) → All_sound vs → All_sound (take k vs)
sound_take zero vs a = tt
sound_take (suc k) [] a = a
sound_take (suc k) (v ∷ vs) a = (a.0, sound_take k vs a.1)

-- ---------------------------------------------------------------- the first record

next_word : (l : List ℕ) (a b t : ℕ) → b ≡ suc a → a < t → t ≤ length l → take (t - a) (drop a l) ≡ get_or l a 0 ∷ take (t - b) (drop b l)
next_word l a b t e h k =
    let n : t - a ≡ suc (t - b) = omega arith in
    ap (λ (z : ℕ). take z (drop a l)) n ∙ ap (λ (z : List ℕ). take (suc (t - b)) z) (drop-cons l a 0 (omega arith)) ∙ ap (λ (z : ℕ). get_or l a 0 ∷ take (t - b) (drop z l)) (sym e)

pub between_cons : (l : List ℕ) (a t : ℕ) → a + 8 ≤ t → t ≤ length l → between l a t ≡ value_at l a ∷ between l (a + 8) t
unfolding values_in value_at
between_cons l a t h k =
    rw (
      next_word l a (a + 1) t (omega arith) (omega arith) k,
      next_word l (a + 1) (a + 2) t (omega arith) (omega arith) k,
      next_word l (a + 2) (a + 3) t (omega arith) (omega arith) k,
      next_word l (a + 3) (a + 4) t (omega arith) (omega arith) k,
      next_word l (a + 4) (a + 5) t (omega arith) (omega arith) k,
      next_word l (a + 5) (a + 6) t (omega arith) (omega arith) k,
      next_word l (a + 6) (a + 7) t (omega arith) (omega arith) k,
      next_word l (a + 7) (a + 8) t (omega arith) (omega arith) k,
    )

pub between_none : (l : List ℕ) (a t : ℕ) → t ≤ a → between l a t ≡ []
unfolding values_in
between_none l a t h = let e : t - a ≡ 0 = omega arith in ap (λ (z : ℕ). values_in (take z (drop a l))) e

-- ---------------------------------------------------------------- the first k, and those behind them

words_drop : (k : ℕ) (vs : List Val) → drop (8 * k) (values_words vs) ≡ values_words (drop k vs)
unfolding values_words
words_drop zero vs = refl
words_drop (suc k) [] = drop-nil (8 * suc k)
words_drop (suc k) (v ∷ vs) =
    let n = length_value v in
    let e : 8 * suc k ≡ length (value_words v) + 8 * k = omega arith in
    ap (λ (z : ℕ). drop z (value_words v ++ values_words vs)) e ∙ drop-append-add (value_words v) (values_words vs) (8 * k) ∙ words_drop k vs

words_take : (k : ℕ) (vs : List Val) → take (8 * k) (values_words vs) ≡ values_words (take k vs)
unfolding values_words
words_take zero vs = refl
words_take (suc k) [] = take-nil (8 * suc k)
words_take (suc k) (v ∷ vs) =
    let n = length_value v in
    let e : 8 * suc k ≡ length (value_words v) + 8 * k = omega arith in
    ap (λ (z : ℕ). take z (value_words v ++ values_words vs)) e ∙ take-append-add (value_words v) (values_words vs) (8 * k)
    ∙ ap (λ (z : List ℕ). value_words v ++ z) (words_take k vs)

words_from : {l : List ℕ} {a t : ℕ} → Stands l a t → (k b : ℕ) → b ≡ a + 8 * k → take (t - b) (drop b l) ≡ values_words (drop k (between l a t))
words_from {l} {a} {t} s k b e =
    let n : t - b ≡ (t - a) - 8 * k = omega arith in
    ap (λ (z : ℕ). take z (drop b l)) n ∙ ap (λ (z : List ℕ). take ((t - a) - 8 * k) z) (ap (λ (z : ℕ). drop z l) e ∙ sym (drop-drop (8 * k) a l))
    ∙ sym (drop_of_take (8 * k) (t - a) (drop a l)) ∙ ap (λ (z : List ℕ). drop (8 * k) z) s.whole ∙ words_drop k (between l a t)

pub between_from : {l : List ℕ} {a t : ℕ} → Stands l a t → (k b : ℕ) → b ≡ a + 8 * k → between l b t ≡ drop k (between l a t)
between_from {l} {a} {t} s k b e = ap values_in (words_from s k b e) ∙ values_back (drop k (between l a t))

pub stands_from : {l : List ℕ} {a t : ℕ} → Stands l a t → (k b : ℕ) → b ≡ a + 8 * k → b ≤ t → Stands l b t
stands_from {l} {a} {t} s k b e h =
    let e1 = between_from s k b e in
    let n = length-drop k (between l a t) in
    record { whole = words_from s k b e ∙ ap values_words (sym e1); sound = rw e1 (sound_drop k (between l a t) s.sound); ends = rw e1 (omega arith) }

words_to : {l : List ℕ} {a t : ℕ} → Stands l a t → (k b : ℕ) → b ≡ a + 8 * k → b ≤ t → take (b - a) (drop a l) ≡ values_words (take k (between l a t))
words_to {l} {a} {t} s k b e h =
    let n : b - a ≡ 8 * k = omega arith in
    ap (λ (z : ℕ). take z (drop a l)) n ∙ sym (take-take (8 * k) (t - a) (drop a l) (omega arith)) ∙ ap (λ (z : List ℕ). take (8 * k) z) s.whole ∙ words_take k (between l a t)

pub between_to : {l : List ℕ} {a t : ℕ} → Stands l a t → (k b : ℕ) → b ≡ a + 8 * k → b ≤ t → between l a b ≡ take k (between l a t)
between_to {l} {a} {t} s k b e h = ap values_in (words_to s k b e h) ∙ values_back (take k (between l a t))

pub stands_to : {l : List ℕ} {a t : ℕ} → Stands l a t → (k b : ℕ) → b ≡ a + 8 * k → b ≤ t → Stands l a b
stands_to {l} {a} {t} s k b e h =
    let e1 = between_to s k b e h in
    let n = length-take-le k (between l a t) (omega arith) in
    record { whole = words_to s k b e h ∙ ap values_words (sym e1); sound = rw e1 (sound_take k (between l a t) s.sound); ends = rw e1 (omega arith) }

-- ---------------------------------------------------------------- words that are records and nothing else

abbrev pub heads_in : List ℕ → List Head
heads_in ws = map head_of (values_in ws)

-- they stand there whole, and are sound
pub record AreRecords (ws : List ℕ) : Type 0 where
  pub whole : ws ≡ values_words (values_in ws)
  pub sound : All_sound (values_in ws)

pub are_records : {l : List ℕ} {a t : ℕ} → Stands l a t → AreRecords (take (t - a) (drop a l))
are_records s = record { whole = s.whole; sound = s.sound }

pub length_words : (vs : List Val) → length (values_words vs) ≡ 8 * length vs
unfolding values_words
length_words [] = refl
length_words (v ∷ vs) = length-append (value_words v) (values_words vs) ∙ (let a = length_value v in let b = length_words vs in omega arith)

stands_all : {ws : List ℕ} → AreRecords ws → Stands ws 0 (length ws)
stands_all {ws} r =
    let e : take (length ws - 0) ws ≡ ws = take_all (length ws - 0) ws (omega arith) in
    let n = length_words (values_in ws) in
    let k : length ws ≡ length (values_words (values_in ws)) = ap length r.whole in
    record { whole = rw e r.whole; sound = rw e r.sound; ends = rw e (omega arith) }

no_heads : (ws : List ℕ) → length ws ≡ 0 → heads_in ws ≡ []
unfolding values_in
no_heads [] h = refl
no_heads (w ∷ ws) h = absurd (omega arith)

-- fewer words than a record has are none
pub heads_none : {ws : List ℕ} → AreRecords ws → length ws < 8 → heads_in ws ≡ []
heads_none {ws} r h = let s = stands_all r in no_heads ws (omega (arith, s.ends))

-- the first of them, and those behind it
pub record FirstRecord (ws : List ℕ) : Type 0 where
  pub room : 8 ≤ length ws
  pub heads : heads_in ws ≡ head_of (value_at ws 0) ∷ heads_in (drop 8 ws)
  pub sound : Sound_value (value_at ws 0)
  pub rest : AreRecords (drop 8 ws)

pub first_record : {ws : List ℕ} → AreRecords ws → 0 < length ws → FirstRecord ws
first_record {ws} r h =
    let s = stands_all r in
    let n : 8 ≤ length ws = omega (arith, s.ends) in
    let e : take (length ws - 0) ws ≡ ws = take_all (length ws - 0) ws (omega arith) in
    let f : take (length ws - 8) (drop 8 ws) ≡ drop 8 ws = take_all (length ws - 8) (drop 8 ws) (simp length-drop (omega arith)) in
    let cons : values_in ws ≡ value_at ws 0 ∷ values_in (drop 8 ws) =
    ap values_in (sym e) ∙ between_cons ws 0 (length ws) (omega arith) (omega arith) ∙ ap (λ (z : List ℕ). value_at ws 0 ∷ values_in z) f in
    let g : All_sound (value_at ws 0 ∷ values_in (drop 8 ws)) = subst (λ (z : List Val). All_sound z) cons r.sound in
    record {
      room = n;
      heads = ap (λ (z : List Val). map head_of z) cons;
      sound = g.0;
      rest = subst (λ (z : List ℕ). AreRecords z) f (are_records (stands_from s 1 8 (omega arith) n));
    }
