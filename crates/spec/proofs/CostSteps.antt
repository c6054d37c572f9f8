-- The smallest steps of the monad in the logic of cost.
use Prim.Native.Nat.{ℕ, ◌+◌, ◌*◌, ◌≤◌}
use mathlib.Core.Bool.{Bool, true, false}
use mathlib.Core.List.{List, [], ◌∷◌}
use Rattle.std.specs.Prelude.{Option, None, Some}
use mathlib.Core.Path.{◌≡◌, refl}
use native.Mathlib.Omega.{arith}
use native.Mathlib.Nat.{le_refl}
use borrow.Author.Tests.{eq-eqb}
use lib.ListN.{length}
use Rattle.spec.specs.Hir.{At}
use Rattle.spec.specs.Lir.{Storage, StorageKind, Purpose, Instruction, InstructionKind}
use Rattle.spec.specs.Monad.{Counters, Lower, pure, refuse, own, made_all, emit, emits, narrow, or_refuse, require}
use Rattle.spec.specs.Allocation.{allocate_storage}
use Rattle.spec.specs.Demands.{kind_bytes, all_bytes, chosen_by, chosen_bits, writes, all_inside, writes_inside, numbered}
use Rattle.spec.proofs.Bools.{and_true}
use Rattle.spec.proofs.Lengths.{length_made}
use Rattle.spec.proofs.CostLogic.{Cost, ◌⊞◌, free, Each, none_left, ◌also◌, each_first, Advanced, Kind, Does, Any}

-- so many instructions, and nothing else; so many storages with so many bytes
abbrev pub emitted : ℕ → Cost
emitted n = record { instructions = n; storages = 0; bytes = 0; other_instructions = n; other_storages = 0; chosen = 0 }

abbrev pub allocated : ℕ → ℕ → Cost
allocated n b = record { instructions = 0; storages = n; bytes = b; other_instructions = 0; other_storages = n; chosen = 0 }

-- what a node's own step may append, by the size of its TYPE
abbrev pub budget : ℕ → Cost
budget n = record { instructions = 3 * n + 2; storages = 2 * n + 2; bytes = n + 2; other_instructions = 2 * n + 2; other_storages = n + 2; chosen = n }

-- the same of any node but a select
abbrev pub plain_budget : ℕ → Cost
plain_budget n = emitted (2 * n + 2) ⊞ allocated (n + 2) (n + 2)

-- every write of an instruction is inside L
pub record Inside (L : List Storage) (k : InstructionKind) : Type 0 where
  pub all : all_inside L (writes k) ≡ true

no_storage : (c : Counters) (ns : List ℕ) (is : List Instruction) → Advanced c c (record { storages = []; narrowed = ns; instructions = is })
unfolding numbered
no_storage c ns is = record { storage = omega arith; temporary = omega arith; ids = refl }

pub made_inside : (L : List Storage) (h : At) (ks : List InstructionKind) → Each (Inside L) ks → writes_inside L (made_all h ks) ≡ true
unfolding writes_inside
made_inside L h [] e = refl
made_inside L h (k ∷ ks) (p also e) = and_true p.all (made_inside L h ks e)

module _ {A : Type 0} {L : List Storage} {P : Type 0} where
  pub answers : {a : A} {Q : A → Type 0} → (P → Q a) → Does L P (pure a) free Q
  unfolding writes_inside all_bytes chosen_bits
  answers q = record { run = λ h c. (no_storage c [] [], λ given here. record { cost = omega arith; inside = refl; result = q given }) }

  pub refuses : {n : ℕ} {k : Cost} {Q : A → Type 0} → Does L P (refuse {A = A} n) k Q
  refuses = record { run = λ h c. tt }

  pub owned : {m : Lower A} {k : Cost} {Q : A → Type 0} (h : At) → Does L P m k Q → Does L P (own h m) k Q
  owned h d = record { run = λ _ c. d.run h c }

  pub known : (n : ℕ) (x : Option A) → Does L P (or_refuse n x) free (λ a. x ≡ Some a)
  unfolding or_refuse
  known n None = refuses
  known n (Some a) = answers (λ _. refl)

module _ {L : List Storage} {P : Type 0} where
  pub required : (n : ℕ) (b : Bool) → Does L P (require n b) free (λ _. b ≡ true)
  unfolding require
  required n true = answers (λ _. refl)
  required n false = refuses

  pub emitting : (n : ℕ) (ks : List InstructionKind) → (P → length ks ≤ n) → (P → Each (Inside L) ks) → Does L P (emits ks) (emitted n) Any
  unfolding all_bytes chosen_bits
  emitting n ks f g =
      record {
        run = λ h c. (
          no_storage c [] (made_all h ks),
          λ given here.
              record {
                cost = let e = f given in let m = length_made h ks in omega arith;
                inside = made_inside L h ks (g given);
                result = tt;
              },
        );
      }

  pub emitting_one : (k : InstructionKind) → (P → Inside L k) → Does L P (emit k) (emitted 1) Any
  emitting_one k f = emitting 1 (k ∷ []) (λ p. le_refl 1) (λ p. f p also none_left)

  pub narrowing : (s : ℕ) → Does L P (narrow s) free Any
  unfolding writes_inside all_bytes chosen_bits
  narrowing s = record { run = λ h c. (no_storage c (s ∷ []) [], λ given here. record { cost = omega arith; inside = refl; result = tt }) }

  -- a new storage's number stands for its kind
  pub allocating : (k : StorageKind) (p : Purpose) (r : ℕ) → chosen_by p ≡ 0 → Does L P (allocate_storage k p r) (allocated 1 (kind_bytes k)) (λ s. Kind L s k)
  unfolding allocate_storage numbered writes_inside all_bytes chosen_bits
  allocating k p r e =
      record {
        run = λ h c. (
          record { storage = refl; temporary = refl; ids = and_true (eq-eqb c.storage c.storage refl) refl },
          λ given here. record { cost = omega (arith, e); inside = refl; result = each_first here },
        );
      }
