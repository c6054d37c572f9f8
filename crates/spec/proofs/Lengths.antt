-- How long the lists are that the definitions make.
use Prim.Native.Nat.{ℕ, zero, suc}
use mathlib.Core.List.{List, [], ◌∷◌}
use mathlib.Core.Path.{◌≡◌, refl, ap}
use lib.ListN.{length}
use Rattle.spec.specs.Hir.{At}
use Rattle.spec.specs.Lir.{ByteStorage, ByteOperand, stored, InstructionKind, RotateDirection}
use Rattle.spec.specs.Monad.{made_all}
use Rattle.spec.specs.Allocation.{bytes_from}
use Rattle.spec.specs.Arithmetic.{rotates}

pub length_bytes_from : (s o n : ℕ) → length (bytes_from s o n) ≡ n
unfolding bytes_from
length_bytes_from s o zero = refl
length_bytes_from s o (suc n) = ap suc (length_bytes_from s (suc o) n)

pub length_made : (h : At) (ks : List InstructionKind) → length (made_all h ks) ≡ length ks
length_made h [] = refl
length_made h (k ∷ ks) = ap suc (length_made h ks)

pub length_rotates : (dir : RotateDirection) (d : ByteStorage) (x : ByteOperand) (n : ℕ) → length (rotates dir d x n) ≡ n
unfolding rotates
length_rotates dir d x zero = refl
length_rotates dir d x (suc n) = ap suc (length_rotates dir d (stored d) n)
