-- A logic of what a step appends: how much, under which numbers, and where its instructions write.
-- L stands for all the storages that a listing will have: cost and writes are claimed where L has what the step appends.
use Prim.Native.Nat.{ℕ, suc, ◌+◌, ◌≤◌}
use mathlib.Core.Bool.{true}
use mathlib.Core.List.{List, [], ◌∷◌, ◌++◌}
use Rattle.std.specs.Prelude.{Some}
use mathlib.Core.Path.{◌≡◌}
use native.Mathlib.Omega.{arith}
use lib.Dec.{eqb}
use lib.ListN.{length, length-append}
use Rattle.spec.specs.Hir.{At}
use Rattle.spec.specs.Lir.{Storage, StorageKind, Instruction}
use Rattle.spec.specs.Monad.{Counters, Out, Outcome, refused, done, Lower, ◌⊕◌, prepend, bind_to, ◌>>=◌, ◌>>◌}
use Rattle.spec.specs.Demands.{all_bytes, chosen_bits, kind_of, writes, all_inside, writes_inside, numbered}
use Rattle.spec.proofs.Bools.{and_true, and_left, and_right}

-- ---------------------------------------------------------------- the measures

-- the others are without one of each for each bit that a select chooses for a byte; chosen are such bits
pub record Cost : Type 0 where
  pub instructions : ℕ
  pub storages : ℕ
  pub bytes : ℕ
  pub other_instructions : ℕ
  pub other_storages : ℕ
  pub chosen : ℕ

abbrev pub free : Cost
free = record { instructions = 0; storages = 0; bytes = 0; other_instructions = 0; other_storages = 0; chosen = 0 }

infixl 60 ◌⊞◌
abbrev pub ◌⊞◌ : Cost → Cost → Cost
◌⊞◌ a b =
    record {
      instructions = a.instructions + b.instructions;
      storages = a.storages + b.storages;
      bytes = a.bytes + b.bytes;
      other_instructions = a.other_instructions + b.other_instructions;
      other_storages = a.other_storages + b.other_storages;
      chosen = a.chosen + b.chosen;
    }

pub record Fits (a b : Cost) : Type 0 where
  pub instructions : a.instructions ≤ b.instructions
  pub storages : a.storages ≤ b.storages
  pub bytes : a.bytes ≤ b.bytes
  pub other_instructions : a.other_instructions ≤ b.other_instructions
  pub other_storages : a.other_storages ≤ b.other_storages
  pub chosen : a.chosen ≤ b.chosen

-- what is appended is at most k
pub record Within (o : Out) (k : Cost) : Type 0 where
  pub instructions : length o.instructions ≤ k.instructions
  pub storages : length o.storages ≤ k.storages
  pub bytes : all_bytes o.storages ≤ k.bytes
  pub other_instructions : length o.instructions ≤ k.other_instructions + chosen_bits o.storages
  pub other_storages : length o.storages ≤ k.other_storages + chosen_bits o.storages
  pub chosen : chosen_bits o.storages ≤ k.chosen

-- ---------------------------------------------------------------- what holds of an outcome

infixr 60 ◌also◌
pub data Each {A : Type 0} (P : A → Type 0) : List A → Type 0 where
  none_left : Each P []
  ◌also◌ : {x : A} {xs : List A} → P x → Each P xs → Each P (x ∷ xs)

pub each_first : {A : Type 0} {P : A → Type 0} {x : A} {xs : List A} → Each P (x ∷ xs) → P x
each_first (p also e) = p

pub each_rest : {A : Type 0} {P : A → Type 0} {x : A} {xs : List A} → Each P (x ∷ xs) → Each P xs
each_rest (p also e) = e

-- the storages go on from the counter, and both counters go on by their number
pub record Advanced (c d : Counters) (o : Out) : Type 0 where
  pub storage : d.storage ≡ c.storage + length o.storages
  pub temporary : d.temporary ≡ c.temporary + length o.storages
  pub ids : numbered c.storage o.storages ≡ true

-- the storage that L has under the number s
pub record Kind (L : List Storage) (s : ℕ) (k : StorageKind) : Type 0 where
  pub found : kind_of s L ≡ Some k

-- L has these storages under their numbers
abbrev pub Here : List Storage → List Storage → Type 0
Here L ss = Each (λ s. Kind L s.id s.kind) ss

pub record Effect (L : List Storage) (k : Cost) (o : Out) (Q : Type 0) : Type 0 where
  pub cost : Within o k
  pub inside : writes_inside L o.instructions ≡ true
  pub result : Q

-- refused, or numbered on from c and, given P: at most k appended, writes inside L, and an answer with Q
abbrev pub Ok : {A : Type 0} → List Storage → Type 0 → Cost → (A → Type 0) → Counters → Outcome A → Type 0
Ok L P k Q c (refused n l) = Unit {0}
Ok L P k Q c (done a d o) = Advanced c d o × (P → Here L o.storages → Effect L k o (Q a))

-- such is every run of the step m
pub record Does {A : Type 0} (L : List Storage) (P : Type 0) (m : Lower A) (k : Cost) (Q : A → Type 0) : Type 0 where
  pub run : (h : At) (c : Counters) → Ok L P k Q c (m h c)

abbrev pub Any : {A : Type 0} → A → Type 0
Any a = Unit {0}

-- ---------------------------------------------------------------- two steps, one behind the other

each_left : {A : Type 0} {P : A → Type 0} (xs ys : List A) → Each P (xs ++ ys) → Each P xs
each_left [] ys h = none_left
each_left (x ∷ xs) ys (p also h) = p also each_left xs ys h

each_right : {A : Type 0} {P : A → Type 0} (xs ys : List A) → Each P (xs ++ ys) → Each P ys
each_right [] ys h = h
each_right (x ∷ xs) ys (p also h) = each_right xs ys h

bytes_append : (ss ts : List Storage) → all_bytes (ss ++ ts) ≡ all_bytes ss + all_bytes ts
unfolding all_bytes
bytes_append [] ts = omega arith
bytes_append (s ∷ ss) ts = let h = bytes_append ss ts in omega arith

pub chosen_append : (ss ts : List Storage) → chosen_bits (ss ++ ts) ≡ chosen_bits ss + chosen_bits ts
unfolding chosen_bits
chosen_append [] ts = omega arith
chosen_append (s ∷ ss) ts = let h = chosen_append ss ts in omega arith

writes_append : (L : List Storage) (is js : List Instruction) → writes_inside L is ≡ true → writes_inside L js ≡ true → writes_inside L (is ++ js) ≡ true
unfolding writes_inside
writes_append L [] js p q = q
writes_append L (i ∷ is) js p q =
    and_true (and_left (all_inside L (writes i.kind)) (writes_inside L is) p)
    (writes_append L is js (and_right (all_inside L (writes i.kind)) (writes_inside L is) p) q)

numbered_append : (n m : ℕ) (ss ts : List Storage) → m ≡ n + length ss → numbered n ss ≡ true → numbered m ts ≡ true → numbered n (ss ++ ts) ≡ true
unfolding numbered
numbered_append n m [] ts e p q = let f : n ≡ m = omega arith in rw f q
numbered_append n m (s ∷ ss) ts e p q =
    and_true (and_left (eqb s.id n) (numbered (suc n) ss) p)
    (numbered_append (suc n) m ss ts (omega arith) (and_right (eqb s.id n) (numbered (suc n) ss) p) q)

advanced_append : {c d e : Counters} {o p : Out} → Advanced c d o → Advanced d e p → Advanced c e (◌⊕◌ o p)
advanced_append {c} {d} {e} {o} {p} a b =
    record {
      storage = simp length-append (omega arith);
      temporary = simp length-append (omega arith);
      ids = numbered_append c.storage d.storage o.storages p.storages a.storage a.ids b.ids;
    }

within_append : (a b : Cost) (o p : Out) → Within o a → Within p b → Within (◌⊕◌ o p) (a ⊞ b)
within_append a b o p f g =
    record {
      instructions = simp length-append (omega arith);
      storages = simp length-append (omega arith);
      bytes = simp bytes_append (omega arith);
      other_instructions = simp (length-append, chosen_append) (omega arith);
      other_storages = simp (length-append, chosen_append) (omega arith);
      chosen = simp chosen_append (omega arith);
    }

effect_append : {L : List Storage} {Q : Type 0} (a b : Cost) (o p : Out)
    → Within o a → writes_inside L o.instructions ≡ true → Effect L b p Q → Effect L (a ⊞ b) (◌⊕◌ o p) Q
effect_append {L} a b o p f w e =
    record { cost = within_append a b o p f e.cost; inside = writes_append L o.instructions p.instructions w e.inside; result = e.result }

module _ {A B : Type 0} (L : List Storage) (P : Type 0) (a b : Cost) (Q : A → Type 0) (R : B → Type 0) where
  after : (c d : Counters) (o : Out) (y : A) (x : Outcome B) → Ok L P a Q c (done y d o) → Ok L (P × Q y) b R d x → Ok L P (a ⊞ b) R c (prepend o x)
  after c d o y (refused n l) h k = tt
  after c d o y (done v e p) h k = (
    advanced_append h.0 k.0,
    λ given here.
        let f = h.1 given (each_left o.storages p.storages here) in
        effect_append a b o p f.cost f.inside (k.1 (given, f.result) (each_right o.storages p.storages here)),
  )

  bound : (f : A → Lower B) (h : At) (c : Counters) (x : Outcome A)
      → Ok L P a Q c x → ((y : A) → Does L (P × Q y) (f y) b R) → Ok L P (a ⊞ b) R c (bind_to f h x)
  bound f h c (refused n l) k g = tt
  bound f h c (done y d o) k g = after c d o y (f y h d) k ((g y).run h d)

-- a step and what follows with its answer: costs add up, and what holds of the answer is given on
infixr 20 ◌then◌
pub ◌then◌ : {A B : Type 0} {L : List Storage} {P : Type 0} {m : Lower A} {f : A → Lower B} {a b : Cost} {Q : A → Type 0} {R : B → Type 0}
    → Does L P m a Q → ((y : A) → Does L (P × Q y) (f y) b R) → Does L P (m >>= f) (a ⊞ b) R
unfolding ◌>>=◌
◌then◌ {L} {P} {m} {f} {a} {b} {Q} {R} d g = record { run = λ h c. bound L P a b Q R f h c (m h c) (d.run h c) g }

infixr 20 ◌next◌
pub ◌next◌ : {A B : Type 0} {L : List Storage} {P : Type 0} {m : Lower A} {k : Lower B} {a b : Cost} {Q : A → Type 0} {R : B → Type 0}
    → Does L P m a Q → ((y : A) → Does L (P × Q y) k b R) → Does L P (m >> k) (a ⊞ b) R
unfolding ◌>>◌
◌next◌ {L} {P} {m} {k} {a} {b} {Q} {R} d g = record { run = λ h c. bound L P a b Q R (λ _. k) h c (m h c) (d.run h c) g }

-- ---------------------------------------------------------------- a smaller claim

pub within_more : {o : Out} {a b : Cost} → Within o a → Fits a b → Within o b
within_more f g = omega arith

weaker : {A : Type 0} (L : List Storage) (O P : Type 0) (a b : Cost) (Q R : A → Type 0) → (P → O) → (P → Fits a b) → ((y : A) → P → Q y → R y)
    → (c : Counters) (x : Outcome A) → Ok L O a Q c x → Ok L P b R c x
weaker L O P a b Q R e f g c (refused n l) k = tt
weaker L O P a b Q R e f g c (done y d o) k = (
  k.0,
  λ given here.
      let w = k.1 (e given) here in
      record { cost = within_more w.cost (f given); inside = w.inside; result = g y given w.result },
)

module _ {A : Type 0} {L : List Storage} {P : Type 0} {m : Lower A} {a : Cost} {Q : A → Type 0} where
  -- within a larger budget, and with a weaker answer
  pub giving : {b : Cost} {R : A → Type 0} → Does L P m a Q → (P → Fits a b) → ((y : A) → P → Q y → R y) → Does L P m b R
  giving {b} {R} d f g = record { run = λ h c. weaker L P P a b Q R (λ p. p) f g c (m h c) (d.run h c) }

  pub within : {b : Cost} → Does L P m a Q → (P → Fits a b) → Does L P m b Q
  within d f = giving d f (λ y p q. q)

  -- with more given
  pub under : {R : Type 0} → (R → P) → Does L P m a Q → Does L R m a Q
  under {R} e d = record { run = λ h c. weaker L P R a a Q Q e (λ p. omega arith) (λ y p q. q) c (m h c) (d.run h c) }
