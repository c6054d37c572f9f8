-- What lowering followed by running leads to: a logic over the state-and-refusal monad.
use Prim.Native.Nat.{ℕ, suc}
use mathlib.Core.Bool.{Bool, true, false}
use mathlib.Core.List.{List, [], ◌∷◌}
use Rattle.std.specs.Prelude.{Option, None, Some}
use mathlib.Core.Path.{◌≡◌, refl}
use native.Mathlib.Numerals.{add-one}
use Rattle.spec.specs.Hir.{At}
use Rattle.spec.specs.Lir.{Instruction, InstructionKind, StorageKind, Purpose}
use Rattle.spec.specs.Monad.{Lower, Outcome, refused, done, Out, Counters, ◌>>=◌, ◌>>◌, bind_to, prepend, pure, refuse, own, emits, emit, or_refuse, require}
use Rattle.spec.specs.Allocation.{allocate_storage, allocate_carry, allocate_bit_temporary}
use Rattle.spec.specs.Machine.{Memory, Given, defined, effect, run}
use Rattle.spec.proofs.RunRuns.{kinds, kinds_append, kinds_made, effects, Defined, run_effects, effects_append, defined_append, Total, total_defined}

-- the one outcome
pub data Is {A : Type 0} (a : A) (n : ℕ) (M : Memory) : A → ℕ → Memory → Type 0 where
  it : Is a n M a n M

module _ (G : Given) where
  -- an accepted step: each instruction has a meaning, and what is left has Q: the result, the next storage's number, the memory after the run
  pub record Led {A : Type 0} (M : Memory) (Q : A → ℕ → Memory → Type 0) (a : A) (n : ℕ) (is : List Instruction) : Type 0 where
    pub means : Defined G (kinds is) M
    pub left : Q a n (effects G (kinds is) M)

  -- refused, or led there
  abbrev pub Ok : {A : Type 0} → Memory → (A → ℕ → Memory → Type 0) → Outcome A → Type 0
  Ok M Q (refused n l) = Unit
  Ok M Q (done a c o) = Led M Q a c.storage o.instructions

  -- started with n as the next storage's number, in memory M
  pub record From {A : Type 0} (n : ℕ) (M : Memory) (m : Lower A) (Q : A → ℕ → Memory → Type 0) : Type 0 where
    pub leads : (h : At) (t : ℕ) → Ok M Q (m h (record { storage = n; temporary = t }))

  prepended : {A : Type 0} (M : Memory) (Q : A → ℕ → Memory → Type 0) (o : Out) (x : Outcome A) → Defined G (kinds o.instructions) M
      → Ok (effects G (kinds o.instructions) M) Q x → Ok M Q (prepend o x)
  prepended M Q o (refused n l) d k = tt
  prepended M Q o (done a c p) d k =
      let e = kinds_append o.instructions p.instructions in
      record {
        means = rw e (defined_append G (kinds o.instructions) (kinds p.instructions) M d k.means);
        left = rw (e, effects_append G (kinds o.instructions) (kinds p.instructions) M) k.left;
      }

  -- what follows a step that leads to Q
  pub record After {A B : Type 0} (Q : A → ℕ → Memory → Type 0) (f : A → Lower B) (R : B → ℕ → Memory → Type 0) : Type 0 where
    pub go : (a : A) (n : ℕ) (M : Memory) → Q a n M → From n M (f a) R

  bound : {A B : Type 0} (M : Memory) (Q : A → ℕ → Memory → Type 0) (R : B → ℕ → Memory → Type 0) (f : A → Lower B) (h : At) (x : Outcome A)
      → Ok M Q x → After Q f R → Ok M R (bind_to f h x)
  bound M Q R f h (refused n l) k g = tt
  bound M Q R f h (done a c o) k g = prepended M R o (f a h c) k.means ((g.go a c.storage (effects G (kinds o.instructions) M) k.left).leads h c.temporary)

  pub ◌then◌ : {A B : Type 0} {n : ℕ} {M : Memory} {m : Lower A} {f : A → Lower B} {Q : A → ℕ → Memory → Type 0} {R : B → ℕ → Memory → Type 0}
      → From n M m Q → After Q f R → From n M (m >>= f) R
  unfolding ◌>>=◌
  ◌then◌ {n} {M} {m} {f} {Q} {R} p g = record { leads = λ h t. bound M Q R f h (m h (record { storage = n; temporary = t })) (p.leads h t) g }

  pub ◌next◌ : {A B : Type 0} {n : ℕ} {M : Memory} {m : Lower A} {k : Lower B} {Q : A → ℕ → Memory → Type 0} {R : B → ℕ → Memory → Type 0}
      → From n M m Q → After Q (λ _. k) R → From n M (m >> k) R
  unfolding ◌>>◌
  ◌next◌ {n} {M} {m} {k} {Q} {R} p g = record { leads = λ h t. bound M Q R (λ _. k) h (m h (record { storage = n; temporary = t })) (p.leads h t) g }

  weakened : {A : Type 0} (M : Memory) (Q R : A → ℕ → Memory → Type 0) (x : Outcome A) → Ok M Q x → ((a : A) (n : ℕ) (M' : Memory) → Q a n M' → R a n M') → Ok M R x
  weakened M Q R (refused n l) k g = tt
  weakened M Q R (done a c o) k g = record { means = k.means; left = g a c.storage (effects G (kinds o.instructions) M) k.left }

  pub weaken : {A : Type 0} {n : ℕ} {M : Memory} {m : Lower A} {Q R : A → ℕ → Memory → Type 0}
      → From n M m Q → ((a : A) (n' : ℕ) (M' : Memory) → Q a n' M' → R a n' M') → From n M m R
  weaken {n} {M} {m} {Q} {R} p g = record { leads = λ h t. weakened M Q R (m h (record { storage = n; temporary = t })) (p.leads h t) g }

  -- a step with one outcome, and what follows it
  pub allocates : {n : ℕ} {M : Memory} (k : StorageKind) (p : Purpose) (r : ℕ) → From n M (allocate_storage k p r) (Is n (suc n) M)
  unfolding allocate_storage
  allocates {n} k p r = record { leads = λ h t. record { means = tt; left = rw (add-one n) it } }

  pub allocates_carry : {n : ℕ} {M : Memory} (p : Purpose) → From n M (allocate_carry p) (Is n (suc n) M)
  unfolding allocate_carry
  allocates_carry p = allocates _ _ _

  pub allocates_bit : {n : ℕ} {M : Memory} (p : Purpose) → From n M (allocate_bit_temporary p) (Is n (suc n) M)
  unfolding allocate_bit_temporary
  allocates_bit p = allocates _ _ _

  pub emitting_defined : {n : ℕ} {M : Memory} (ks : List InstructionKind) → Defined G ks M → From n M (emits ks) (Is tt n (effects G ks M))
  emitting_defined {n} {M} ks d = record { leads = λ h t. record { means = rw (kinds_made h ks) d; left = rw (kinds_made h ks) it } }

  pub emitting_one : {n : ℕ} {M : Memory} (k : InstructionKind) → defined k M ≡ true → From n M (emit k) (Is tt n (effect G k M))
  emitting_one k d = emitting_defined (k ∷ []) (d, tt)

  pub emitting : {n : ℕ} {M : Memory} (ks : List InstructionKind) → Total ks → From n M (emits ks) (Is tt n (effects G ks M))
  emitting {n} {M} ks t = emitting_defined ks (total_defined G M t)

  pub purely : {A : Type 0} {n : ℕ} {M : Memory} (a : A) → From n M (pure a) (Is a n M)
  purely a = record { leads = λ h t. record { means = tt; left = it } }

  pub requiring : {n : ℕ} {M : Memory} (x : ℕ) (b : Bool) → From n M (require x b) (Is tt n M)
  unfolding require
  requiring x true = purely tt
  requiring x false = record { leads = λ h t. tt }

  pub got : {A : Type 0} {n : ℕ} {M : Memory} (x : ℕ) (a : A) → From n M (or_refuse x (Some a)) (Is a n M)
  unfolding or_refuse
  got x a = purely a

  pub missing : {A : Type 0} {n : ℕ} {M : Memory} {Q : A → ℕ → Memory → Type 0} (x : ℕ) → From n M (or_refuse {A = A} x None) Q
  unfolding or_refuse
  missing x = record { leads = λ h t. tt }

  pub at_it : {A B : Type 0} {a : A} {n : ℕ} {M : Memory} {f : A → Lower B} {R : B → ℕ → Memory → Type 0} → From n M (f a) R → After (Is a n M) f R
  at_it {a} {n} {M} {f} {R} p = record { go = λ x y N q. same f R p x y N q }
    where
      same : {A B : Type 0} {a : A} {n : ℕ} {M : Memory} (f : A → Lower B) (R : B → ℕ → Memory → Type 0)
          → From n M (f a) R → (x : A) (y : ℕ) (N : Memory) → Is a n M x y N → From y N (f x) R
      same f R p x y N it = p

  pub from_refuse : {A : Type 0} {n x : ℕ} {M : Memory} {Q : A → ℕ → Memory → Type 0} → From n M (refuse {A = A} x) Q
  from_refuse = record { leads = λ h t. tt }

  pub owned : {A : Type 0} {n : ℕ} {M : Memory} {m : Lower A} {Q : A → ℕ → Memory → Type 0} (h : At) → From n M m Q → From n M (own h m) Q
  owned h p = record { leads = λ _ t. p.leads h t }

  pub ending : {A : Type 0} {a : A} {n y : ℕ} {M N : Memory} {m : Lower A} {R : A → ℕ → Memory → Type 0} → From n M m (Is a y N) → R a y N → From n M m R
  ending {a} {n} {y} {M} {N} {m} {R} p r = weaken p (λ x z L q. same R r x z L q)
    where
      same : {A : Type 0} {a : A} {n : ℕ} {M : Memory} (R : A → ℕ → Memory → Type 0) → R a n M → (x : A) (y : ℕ) (N : Memory) → Is a n M x y N → R x y N
      same R r x y N it = r

  pub refused_first : {A B : Type 0} {n : ℕ} {M : Memory} {f : A → Lower B} {R : B → ℕ → Memory → Type 0} (x : ℕ) → After (λ a n M. ⊥) f R → From n M (or_refuse {A = A} x None >>= f) R
  refused_first x g = ◌then◌ (missing x) g

  pub never : {A B : Type 0} {f : A → Lower B} {R : B → ℕ → Memory → Type 0} → After (λ a n M. ⊥) f R
  never = record { go = λ a n M q. absurd q }

  -- an option, refused or there
  pub option_then : {A B : Type 0} {n : ℕ} {M : Memory} {f : A → Lower B} {R : B → ℕ → Memory → Type 0} (x : ℕ) (o : Option A)
      → ((a : A) → o ≡ Some a → From n M (f a) R) → From n M (or_refuse x o >>= f) R
  option_then x None k = refused_first x never
  option_then x (Some a) k = ◌then◌ (got x a) (at_it (k a refl))

  -- what it says of an accepted lowering
  pub outcome : {A : Type 0} {n : ℕ} {M : Memory} {m : Lower A} {Q : A → ℕ → Memory → Type 0} → From n M m Q → (h : At) (t : ℕ) (a : A) (c : Counters) (o : Out)
      → m h (record { storage = n; temporary = t }) ≡ done a c o → Led M Q a c.storage o.instructions
  outcome {n} {M} {m} {Q} p h t a c o e = rw e at (p.leads h t)

  pub ran : {A : Type 0} {n : ℕ} {M : Memory} {a : A} {is : List Instruction} {Q : A → ℕ → Memory → Type 0} → Led M Q a n is → run G is M ≡ Some (effects G (kinds is) M)
  ran {M = M} {is = is} l = run_effects G is M l.means
