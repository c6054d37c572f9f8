-- The place behind a value, and part i found by skipping the values before it.
use Rattle.std.specs.Prelude.{◌≡◌, refl, List, ◌∷◌, map, [], ℕ, zero, suc, ◌+◌, ◌-◌, ◌*◌, ◌/◌, ◌≤◌, ◌<◌, min, length}
use Rattle.std.proofs.Common.{sym, ap, subst, ◌∙◌, arith}
use Rattle.std.proofs.lemmas.List.{take_min, take-map, drop-map}
use Rattle.values.specs.declared.Value.{Value as Val}
use Rattle.values.specs.Heads.{Head, head_of, All_sound, records, skip}
use Rattle.values.specs.Stack.{value_at, between, heads, Stands}
use Rattle.parts.specs.Records.{between_cons, between_none, between_from, between_to, stands_from, stands_to, drop_min}
use Rattle.parts.specs.Extract.{Behind, PartAt}

pub passed : {l : List ℕ} {a t : ℕ} → Stands l a t → a < t → t ≤ length l → (r : ℕ) → r ≡ a + 8 * min (suc (records (head_of (value_at l a)))) ((t - a) / 8) → Behind l a t r
passed {l} {a} {t} s h k r e =
    let m = records (head_of (value_at l a)) in
    let a8 : a + 8 ≤ t = omega arith in
    let cons = between_cons l a t a8 k in
    let s1 = stands_from s 1 (a + 8) (omega arith) a8 in
    let ys = between l (a + 8) t in
    let j = min m (length ys) in
    let far : r ≡ (a + 8) + 8 * j = omega arith in
    let le : r ≤ t = omega arith in
    let g : All_sound (value_at l a ∷ ys) = subst (λ (z : List Val). All_sound z) cons s.sound in
    record {
      later = omega arith;
      within = le;
      first = ap (λ (z : List Val). map head_of z) cons;
      own = stands_to s1 j r far le;
      own_heads = ap (λ (z : List Val). map head_of z) (between_to s1 j r far le ∙ take_min m ys) ∙ sym (take-map head_of m ys);
      rest = stands_from s1 j r far le;
      rest_heads = ap (λ (z : List Val). map head_of z) (between_from s1 j r far ∙ drop_min m ys) ∙ sym (drop-map head_of m ys);
      sound = g.0;
    }

-- ---------------------------------------------------------------- skipping

-- j values were skipped, and the one at a is next
skip_more : {l : List ℕ} {a t r : ℕ} (i j : ℕ) → Behind l a t r → j < i → skip (i - j) (heads l a t) ≡ skip (i - (j + 1)) (heads l r t)
unfolding skip
skip_more {l} {a} {t} {r} i j b h =
    let d = i - (j + 1) in
    let e : i - j ≡ suc d = omega arith in
    ap (λ (z : ℕ). skip z (heads l a t)) e ∙ ap (λ (z : List Head). skip (suc d) z) b.first ∙ ap (λ (z : List Head). skip d z) (sym b.rest_heads)

skip_end : (l : List ℕ) (a t i j : ℕ) → j ≡ i → skip (i - j) (heads l a t) ≡ heads l a t
unfolding skip
skip_end l a t i j e = let n : i - j ≡ 0 = omega arith in ap (λ (z : ℕ). skip z (heads l a t)) n

skip_nil : (d : ℕ) → skip d [] ≡ []
unfolding skip
skip_nil zero = refl
skip_nil (suc d) = refl

skip_none : (l : List ℕ) (a t d : ℕ) → t ≤ a → skip d (heads l a t) ≡ []
skip_none l a t d h = let e : heads l a t ≡ [] = ap (λ (z : List Val). map head_of z) (between_none l a t h) in rw e (skip_nil d)

-- j values were skipped, and the next stands at p
pub record Skipping (l : List ℕ) (a t i p j : ℕ) : Type 0 where
  pub later : a ≤ p
  pub within : p ≤ t
  pub most : j ≤ i
  pub stands : Stands l p t
  pub same : skip (i - j) (heads l p t) ≡ skip i (heads l a t)

pub skipping_none : {l : List ℕ} {a t : ℕ} (i : ℕ) → Stands l a t → a ≤ t → Skipping l a t i a 0
skipping_none {l} {a} {t} i s h =
    let e : i - 0 ≡ i = omega arith in
    record { later = omega arith; within = h; most = omega arith; stands = s; same = ap (λ (z : ℕ). skip z (heads l a t)) e }

pub skipping_more : {l : List ℕ} {a t i p j r : ℕ} → Skipping l a t i p j → j < i → Behind l p t r → Skipping l a t i r (j + 1)
skipping_more {i = i} {j = j} k n b =
    record { later = omega arith; within = b.within; most = omega arith; stands = b.rest; same = sym (skip_more i j b n) ∙ k.same }

pub skipping_found : {l : List ℕ} {a t i p j : ℕ} → Skipping l a t i p j → j ≡ i → p < t → PartAt l a t i p
skipping_found {l} {a} {t} {i} {p} {j} k e h = record { later = k.later; before = h; stands = k.stands; found = sym (skip_end l p t i j e) ∙ k.same }

pub skipping_end : {l : List ℕ} {a t i p j : ℕ} → Skipping l a t i p j → t ≤ p → skip i (heads l a t) ≡ []
skipping_end {l} {a} {t} {i} {p} {j} k h = sym k.same ∙ skip_none l p t (i - j) h

pub ruleset skips = (skipping_none, skipping_more, skipping_found, skipping_end)
