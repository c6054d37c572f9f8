-- A logic of two steps of which the second answers and appends what the first does, wherever the first answers.
use Prim.Native.Nat.{ℕ}
use mathlib.Core.Bool.{Bool, true, false}
use mathlib.Core.List.{List, [], ◌∷◌}
use Rattle.std.specs.Prelude.{Option, None, Some}
use mathlib.Core.Path.{◌≡◌, refl}
use Rattle.spec.specs.Hir.{At}
use Rattle.spec.specs.Lir.{StorageKind, Purpose, InstructionKind}
use Rattle.spec.specs.Monad.{Counters, Out, Outcome, refused, done, Lower, prepend, bind_to, ◌>>=◌, ◌>>◌, pure, refuse, own, made_all, emit, emits, narrow, or_refuse, require}
use Rattle.spec.specs.Allocation.{allocate_storage}

-- an answer is kept, with all that it comes with; a refusal may become anything
abbrev pub Kept : {A : Type 0} → Outcome A → Outcome A → Type 0
Kept (refused n l) x' = Unit {0}
Kept (done a c o) x' = x' ≡ done a c o

-- two steps of the same node, whose lines' numbers may differ
pub record Follows {A : Type 0} (m m' : Lower A) : Type 0 where
  pub keeps : (h h' : At) (c : Counters) → h.node ≡ h'.node → Kept (m h c) (m' h' c)

-- ---------------------------------------------------------------- two steps, one behind the other

prepended : {B : Type 0} (o : Out) (y y' : Outcome B) → Kept y y' → Kept (prepend o y) (prepend o y')
prepended o (refused n l) y' k = tt
prepended o (done b d p) y' k = rw k

bound : {A B : Type 0} (f f' : A → Lower B) (h h' : At) (x x' : Outcome A)
    → h.node ≡ h'.node → Kept x x' → ((a : A) → Follows (f a) (f' a)) → Kept (bind_to f h x) (bind_to f' h' x')
bound f f' h h' (refused n l) x' e k g = tt
bound f f' h h' (done a c o) x' e k g = rw k (prepended o (f a h c) (f' a h' c) ((g a).keeps h h' c e))

infixr 20 ◌then◌
pub ◌then◌ : {A B : Type 0} {m m' : Lower A} {f f' : A → Lower B} → Follows m m' → ((a : A) → Follows (f a) (f' a)) → Follows (m >>= f) (m' >>= f')
unfolding ◌>>=◌
◌then◌ {m = m} {m'} {f} {f'} d g = record { keeps = λ h h' c e. bound f f' h h' (m h c) (m' h' c) e (d.keeps h h' c e) g }

infixr 20 ◌next◌
pub ◌next◌ : {A B : Type 0} {m m' : Lower A} {k k' : Lower B} → Follows m m' → Follows k k' → Follows (m >> k) (m' >> k')
unfolding ◌>>◌
◌next◌ {m = m} {m'} {k} {k'} d g = record { keeps = λ h h' c e. bound (λ _. k) (λ _. k') h h' (m h c) (m' h' c) e (d.keeps h h' c e) (λ _. g) }

-- ---------------------------------------------------------------- the smallest steps

pub answers : {A : Type 0} {a : A} → Follows (pure a) (pure a)
answers = record { keeps = λ h h' c e. refl }

pub refuses : {A : Type 0} {n : ℕ} {m : Lower A} → Follows (refuse n) m
refuses = record { keeps = λ h h' c e. tt }

pub refuses_at : {A : Type 0} {n line : ℕ} {m : Lower A} → Follows (λ _ _. refused n line) m
refuses_at = record { keeps = λ h h' c e. tt }

pub owned : {A : Type 0} {m m' : Lower A} (h h' : At) → h.node ≡ h'.node → Follows m m' → Follows (own h m) (own h' m')
owned h h' e d = record { keeps = λ _ _ c _. d.keeps h h' c e }

-- an option that is kept where there is one
pub found : {A : Type 0} (n : ℕ) (x x' : Option A) → ((a : A) → x ≡ Some a → x' ≡ Some a) → Follows (or_refuse n x) (or_refuse n x')
unfolding or_refuse
found n None x' k = refuses
found n (Some a) x' k = rw (k a refl) answers

pub known : {A : Type 0} (n : ℕ) (x : Option A) → Follows (or_refuse n x) (or_refuse n x)
known n x = found n x x (λ a e. e)

pub required : (n : ℕ) (b : Bool) → Follows (require n b) (require n b)
unfolding require
required n true = answers
required n false = refuses

made_same : (h h' : At) (ks : List InstructionKind) → h.node ≡ h'.node → made_all h ks ≡ made_all h' ks
made_same h h' [] e = refl
made_same h h' (k ∷ ks) e = cc (made_same h h' ks e)

pub emitting : (ks : List InstructionKind) → Follows (emits ks) (emits ks)
emitting ks = record { keeps = λ h h' c e. rw (made_same h h' ks e) }

pub emitting_one : (k : InstructionKind) → Follows (emit k) (emit k)
emitting_one k = emitting (k ∷ [])

pub narrowing : (s : ℕ) → Follows (narrow s) (narrow s)
narrowing s = record { keeps = λ h h' c e. refl }

pub allocating : (k : StorageKind) (p : Purpose) (r : ℕ) → Follows (allocate_storage k p r) (allocate_storage k p r)
unfolding allocate_storage
allocating k p r = record { keeps = λ h h' c e. refl }
