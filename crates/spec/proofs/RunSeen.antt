-- What an accepted step shows: a fact that each answer of the step has, and the parts of a step that was accepted.
use Prim.Native.Nat.{ℕ}
use Rattle.std.specs.Prelude.{Option, None, Some}
use mathlib.Core.Path.{◌≡◌, refl}
use native.Mathlib.Omega.{arith}
use Rattle.spec.specs.Hir.{At}
use Rattle.spec.specs.Monad.{Counters, Out, Outcome, refused, done, Lower, prepend, bind_to, ◌>>=◌, own, or_refuse}
use Rattle.spec.proofs.RunPlaces.{QuietAs}

-- refused, or an answer with Q
abbrev pub Seen : {A : Type 0} → (A → Type 0) → Outcome A → Type 0
Seen Q (refused n l) = Unit {0}
Seen Q (done a c o) = Q a

pub record Sees {A : Type 0} (m : Lower A) (Q : A → Type 0) : Type 0 where
  pub sees : (h : At) (c : Counters) → Seen Q (m h c)

prepended : {A : Type 0} (Q : A → Type 0) (o : Out) (x : Outcome A) → Seen Q x → Seen Q (prepend o x)
prepended Q o (refused n l) q = tt
prepended Q o (done a c p) q = q

seen_bound : {A B : Type 0} (P : A → Type 0) (Q : B → Type 0) (f : A → Lower B) (h : At) (x : Outcome A)
    → Seen P x → ((a : A) → P a → Sees (f a) Q) → Seen Q (bind_to f h x)
seen_bound P Q f h (refused n l) p k = tt
seen_bound P Q f h (done a c o) p k = prepended Q o (f a h c) ((k a p).sees h c)

infixr 20 ◌then◌
pub ◌then◌ : {A B : Type 0} {m : Lower A} {f : A → Lower B} {P : A → Type 0} {Q : B → Type 0} → Sees m P → ((a : A) → P a → Sees (f a) Q) → Sees (m >>= f) Q
unfolding ◌>>=◌
◌then◌ {m = m} {f = f} {P = P} {Q = Q} p k = record { sees = λ h c. seen_bound P Q f h (m h c) (p.sees h c) k }

-- known without looking
pub whatever : {A : Type 0} {m : Lower A} {Q : A → Type 0} → ((a : A) → Q a) → Sees m Q
whatever {m = m} {Q = Q} q = record { sees = λ h c. by (m h c) }
  where
    by : (x : Outcome _) → Seen Q x
    by (refused n l) = tt
    by (done a c o) = q a

pub owned : {A : Type 0} {m : Lower A} {Q : A → Type 0} (h : At) → Sees m Q → Sees (own h m) Q
owned h p = record { sees = λ _ c. p.sees h c }

pub known : {A : Type 0} (n : ℕ) (x : Option A) → Sees (or_refuse n x) (λ a. x ≡ Some a)
unfolding or_refuse
known n None = record { sees = λ h c. tt }
known n (Some a) = record { sees = λ h c. refl }

-- a step whose answer is the ticket's alone
pub quietly : {A : Type 0} (Q : A → Type 0) {m : Lower A} (x : Option A) → ((h : At) (c : Counters) → QuietAs Q x c (m h c)) → Sees m (λ a. x ≡ Some a)
quietly Q {m} x q = record { sees = λ h c. by c (m h c) (q h c) }
  where
    by : (c : Counters) (y : Outcome _) → QuietAs Q x c y → Seen (λ a. x ≡ Some a) y
    by c (refused n l) k = tt
    by c (done a d o) k = k.0

pub seen_done : {A : Type 0} {Q : Type 0} {m : Lower A} → Sees m (λ _. Q) → (h : At) (c : Counters) (a : A) (d : Counters) (o : Out) → m h c ≡ done a d o → Q
seen_done p h c a d o e = rw e at (p.sees h c)

-- ---------------------------------------------------------------- an accepted step's parts

pub record Parts {A B : Type 0} (m : Lower A) (f : A → Lower B) (h : At) (c : Counters) (b : B) : Type 0 where
  pub it : A
  pub after : Counters
  pub out : Out
  pub is : m h c ≡ done it after out
  pub end : Counters
  pub rest : Out
  pub goes : f it h after ≡ done b end rest

refused≢done : {A : Type 0} {n l : ℕ} {a : A} {c : Counters} {o : Out} → refused n l ≡ done a c o → ⊥
refused≢done e = let z : ◌≡◌ {A = ℕ} 0 1 = cc in omega arith

pub parted : {A B : Type 0} (m : Lower A) (f : A → Lower B) {h : At} {c d : Counters} {b : B} {o : Out} → (m >>= f) h c ≡ done b d o → Parts m f h c b
unfolding ◌>>=◌
parted m f {h} {c} {d} {b} {o} e = by (m h c) refl
  where
    more : (a : _) (c' : Counters) (p : Out) → m h c ≡ done a c' p → (y : Outcome _) → f a h c' ≡ y → Parts m f h c b
    more a c' p q (refused n l) r = absurd (refused≢done (rw (q, r) at e))
    more a c' p q (done b' d' o') r =
        let e' = rw (q, r) at e in
        let z : b' ≡ b = cc in
        record { it = a; after = c'; out = p; is = q; end = d'; rest = o'; goes = rw z at r }

    by : (x : Outcome _) → m h c ≡ x → Parts m f h c b
    by (refused n l) q = absurd (refused≢done (rw q at e))
    by (done a c' p) q = more a c' p q (f a h c') refl
