-- A logic of two steps of which the second does what the first does, unless the first refuses with the number n (and then P holds).
use Prim.Native.Nat.{ℕ}
use mathlib.Core.Path.{◌≡◌, refl}
use Rattle.spec.specs.Hir.{At}
use Rattle.spec.specs.Lir.{Value}
use Rattle.spec.specs.Ticket.{Tables}
use Rattle.spec.specs.Monad.{Counters, Out, nothing, Outcome, refused, done, Lower, prepend, bind_to, ◌>>=◌, ◌>>◌, own}
use Rattle.spec.specs.Lower.{as_bit}

module _ (n : ℕ) (P : Type 0) where
  pub data Unless {A : Type 0} : Outcome A → Outcome A → Type 0 where
    alike : {x : Outcome A} → Unless x x
    refuses : {l : ℕ} {x : Outcome A} → P → Unless (refused n l) x

  pub record Does {A : Type 0} (m m' : Lower A) : Type 0 where
    pub ends : (h : At) (c : Counters) → Unless (m h c) (m' h c)

module _ {n : ℕ} {P : Type 0} where
  pub unchanged : {A : Type 0} {m : Lower A} → Does n P m m
  unchanged = record { ends = λ h c. alike }

  prepended : {A : Type 0} {x y : Outcome A} (o : Out) → Unless n P x y → Unless n P (prepend o x) (prepend o y)
  prepended o alike = alike
  prepended o (refuses p) = refuses p

  bound : {A B : Type 0} {f f' : A → Lower B} (h : At) (x : Outcome A) {y : Outcome A}
      → Unless n P x y → ((a : A) → Does n P (f a) (f' a)) → Unless n P (bind_to f h x) (bind_to f' h y)
  bound h (refused k l) alike g = alike
  bound h (done a c o) alike g = prepended o ((g a).ends h c)
  bound h x (refuses p) g = refuses p

  infixr 20 ◌then◌
  pub ◌then◌ : {A B : Type 0} {m m' : Lower A} {f f' : A → Lower B} → Does n P m m' → ((a : A) → Does n P (f a) (f' a)) → Does n P (m >>= f) (m' >>= f')
  unfolding ◌>>=◌
  ◌then◌ {m = m} d g = record { ends = λ h c. bound h (m h c) (d.ends h c) g }

  infixr 20 ◌next◌
  pub ◌next◌ : {A B : Type 0} {m m' : Lower A} {k k' : Lower B} → Does n P m m' → Does n P k k' → Does n P (m >> k) (m' >> k')
  unfolding ◌>>◌
  ◌next◌ {m = m} d g = record { ends = λ h c. bound h (m h c) (d.ends h c) (λ _. g) }

  pub owned : {A : Type 0} {m m' : Lower A} (h : At) → Does n P m m' → Does n P (own h m) (own h m')
  owned h d = record { ends = λ _ c. d.ends h c }

  pub as_bit_does : (T : Tables) {m m' : Lower Value} (h : At) → Does n P m m' → Does n P (as_bit T h m) (as_bit T h m')
  unfolding as_bit
  as_bit_does T h d = d then λ v. unchanged

-- nothing appended by a step that has its answer already
pub at_once : {A : Type 0} (x : Outcome A) → prepend nothing x ≡ x
at_once (refused n l) = refl
at_once (done a c o) = refl
