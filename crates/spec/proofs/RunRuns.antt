-- A run as a total effect of instructions one after the other, and that it is the run where all of them have a meaning.
use Prim.Native.Nat.{ℕ, zero, suc}
use mathlib.Core.Bool.{true}
use mathlib.Core.List.{List, [], ◌∷◌, ◌++◌, map}
use Rattle.std.specs.Prelude.{Some}
use mathlib.Core.Path.{◌≡◌, refl, ap}
use Rattle.spec.specs.Hir.{At}
use Rattle.spec.specs.Lir.{ByteStorage, ByteOperand, stored, RotateDirection, InstructionKind, Instruction}
use Rattle.spec.specs.Monad.{made_all}
use Rattle.spec.specs.Arithmetic.{zip3, masks, rotates}
use Rattle.spec.specs.Machine.{Memory, Given, defined, effect, step, run}

abbrev pub kinds : List Instruction → List InstructionKind
kinds [] = []
kinds (i ∷ is) = i.kind ∷ kinds is

pub kinds_append : (is js : List Instruction) → kinds (is ++ js) ≡ kinds is ++ kinds js
kinds_append [] js = refl
kinds_append (i ∷ is) js = ap (λ (l : List InstructionKind). i.kind ∷ l) (kinds_append is js)

pub kinds_made : (h : At) (ks : List InstructionKind) → kinds (made_all h ks) ≡ ks
kinds_made h [] = refl
kinds_made h (k ∷ ks) = ap (λ (l : List InstructionKind). k ∷ l) (kinds_made h ks)

module _ (G : Given) where
  abbrev pub effects : List InstructionKind → Memory → Memory
  effects [] M = M
  effects (k ∷ ks) M = effects ks (effect G k M)

  -- each has a meaning when its turn comes
  abbrev pub Defined : List InstructionKind → Memory → Type 0
  Defined [] M = Unit
  Defined (k ∷ ks) M = (defined k M ≡ true) × Defined ks (effect G k M)

  steps : (i : Instruction) (M : Memory) → defined i.kind M ≡ true → step G i M ≡ Some (effect G i.kind M)
  unfolding step
  steps i M e = rw (e, step)

  pub run_effects : (is : List Instruction) (M : Memory) → Defined (kinds is) M → run G is M ≡ Some (effects (kinds is) M)
  unfolding run
  run_effects [] M d = refl
  run_effects (i ∷ is) M d = rw (steps i M d.0, run) (run_effects is (effect G i.kind M) d.1)

  pub effects_append : (ks ls : List InstructionKind) (M : Memory) → effects (ks ++ ls) M ≡ effects ls (effects ks M)
  effects_append [] ls M = refl
  effects_append (k ∷ ks) ls M = effects_append ks ls (effect G k M)

  pub defined_append : (ks ls : List InstructionKind) (M : Memory) → Defined ks M → Defined ls (effects ks M) → Defined (ks ++ ls) M
  defined_append [] ls M d e = e
  defined_append (k ∷ ks) ls M d e = (d.0, defined_append ks ls (effect G k M) d.1 e)

-- ---------------------------------------------------------------- instructions that have a meaning in every memory

pub data Total : List InstructionKind → Type 0 where
  no_more : Total []
  and_then : {k : InstructionKind} {ks : List InstructionKind} → ((M : Memory) → defined k M ≡ true) → Total ks → Total (k ∷ ks)

pub total_defined : (G : Given) {ks : List InstructionKind} (M : Memory) → Total ks → Defined G ks M
total_defined G M no_more = tt
total_defined G M (and_then {k = k} d t) = (d M, total_defined G (effect G k M) t)

pub total_zip : (f : ℕ → ByteStorage → ByteOperand → ByteOperand → InstructionKind)
    → ((i : ℕ) (d : ByteStorage) (l r : ByteOperand) (M : Memory) → defined (f i d l r) M ≡ true)
    → (i : ℕ) (ds : List ByteStorage) (ls rs : List ByteOperand) → Total (zip3 f i ds ls rs)
unfolding zip3
total_zip f t i [] ls rs = no_more
total_zip f t i (d ∷ ds) [] rs = no_more
total_zip f t i (d ∷ ds) (l ∷ ls) [] = no_more
total_zip f t i (d ∷ ds) (l ∷ ls) (r ∷ rs) = and_then (t i d l r) (total_zip f t (suc i) ds ls rs)

pub total_map : (f : ByteStorage → InstructionKind) → ((d : ByteStorage) (M : Memory) → defined (f d) M ≡ true) → (ds : List ByteStorage) → Total (map f ds)
total_map f t [] = no_more
total_map f t (d ∷ ds) = and_then (t d) (total_map f t ds)

pub total_masks : (k : ℕ) (ds : List ByteStorage) → Total (masks k ds)
unfolding masks defined
total_masks zero ds = no_more
total_masks (suc k) [] = no_more
total_masks (suc k) (d ∷ []) = and_then (λ M. refl) no_more
total_masks (suc k) (d ∷ e ∷ ds) = total_masks (suc k) (e ∷ ds)

pub total_rotates : (dir : RotateDirection) (d : ByteStorage) (x : ByteOperand) (n : ℕ) → Total (rotates dir d x n)
unfolding rotates defined
total_rotates dir d x zero = no_more
total_rotates dir d x (suc n) = and_then (λ M. refl) (total_rotates dir d (stored d) n)
