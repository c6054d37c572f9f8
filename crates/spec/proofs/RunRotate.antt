-- An 8-bit rotate by a constant: repeated rotates by one place, or a copy.
use Prim.Native.Nat.{ℕ, zero, suc, ◌-◌, ◌%◌, ◌≤◌, ◌<◌}
use mathlib.Core.Bool.{Bool, true, false}
use mathlib.Core.List.{List, [], ◌∷◌}
use Rattle.std.specs.Prelude.{Some}
use mathlib.Core.Path.{◌≡◌, refl, sym, ap, ◌∙◌}
use native.Mathlib.Omega.{arith}
use native.Mathlib.Decide.{ℕ_discrete}
use lib.Dec.{eqb, leb}
use borrow.Author.Tests.{eqb-true, eqb-false}
use Rattle.spec.specs.Lir.{ByteOperand, immediate, stored, ByteStorage, RotateDirection, left, right, ShiftOp}
use Rattle.spec.specs.Lir as lir
use Rattle.spec.specs.Operands.{all_immediate, lowest_byte}
use Rattle.spec.specs.Operators.{rotate_direction, opposite}
use Rattle.spec.specs.Arithmetic.{rotates, byte_rotates, first_operand}
use Rattle.numerics.specs.Numerics.{rotated_left, rotated_right, irotl, irotr}
use Rattle.spec.specs.Machine.{Memory, Given, defined, operand, rotated, bytes_of, shift_op}
use Rattle.spec.proofs.RunWords.{iterate}
use Rattle.spec.proofs.RunRuns.{effects, Total, no_more, and_then, total_rotates}
use Rattle.spec.proofs.RunFrames.{Fixed, agree_refl, Left, rotates_run, copy_run, at, heads, nil_cons}

-- ---------------------------------------------------------------- place by place

-- x turned by k places
abbrev pub turned : RotateDirection → ℕ → ℕ → ℕ
turned left x k = rotated_left 8 x k
turned right x k = rotated_right 8 x k

turned_0 : (dir : RotateDirection) (x : ℕ) → x < 256 → turned dir x 0 ≡ x
unfolding rotated_left rotated_right
turned_0 left x h = omega arith
turned_0 right x h = omega arith

-- a rule for all numbers below n, by one computed test
abbrev all_below : ℕ → (ℕ → Bool) → Bool
all_below zero p = true
all_below (suc n) p = elim (p n) [ true ↦ all_below n p | false ↦ false ]

all_below_true : (n : ℕ) (p : ℕ → Bool) → all_below n p ≡ true → (i : ℕ) → i < n → p i ≡ true
all_below_true zero p e i h = absurd (omega arith)
all_below_true (suc n) p e i h = go (p n) refl e (ℕ_discrete i n) (λ t l. all_below_true n p t i l)
  where
    go : (b : Bool) → p n ≡ b → elim b [ true ↦ all_below n p | false ↦ false ] ≡ true → Dec (i ≡ n) → (all_below n p ≡ true → i < n → p i ≡ true) → p i ≡ true
    go true q t (yes k) ih = ap p k ∙ q
    go true q t (no k) ih = ih t (omega arith)
    go false q t d ih = cc

abbrev one_further : RotateDirection → ℕ → ℕ → Bool
one_further dir i x = eqb (rotated dir (turned dir x i)) (turned dir x (suc i))

by_test : (dir : RotateDirection) → all_below 7 (λ i. all_below 256 (one_further dir i)) ≡ true
    → (i x : ℕ) → i < 7 → x < 256 → rotated dir (turned dir x i) ≡ turned dir x (suc i)
by_test dir e i x h k =
    eqb-true _ _ (all_below_true 256 (one_further dir i) (all_below_true 7 (λ j. all_below 256 (one_further dir j)) e i h) x k)

-- one place more, computed for every byte
one_place : (dir : RotateDirection) (i x : ℕ) → i < 7 → x < 256 → rotated dir (turned dir x i) ≡ turned dir x (suc i)
unfolding rotated_left rotated_right
one_place left = by_test left refl
one_place right = by_test right refl

iterate_out : (n : ℕ) (f : ℕ → ℕ) (x : ℕ) → iterate (suc n) f x ≡ f (iterate n f x)
iterate_out zero f x = refl
iterate_out (suc n) f x = iterate_out n f (f x)

places : (dir : RotateDirection) (n x : ℕ) → n < 8 → x < 256 → iterate n (rotated dir) x ≡ turned dir x n
places dir zero x h k = sym (turned_0 dir x k)
places dir (suc n) x h k = iterate_out n (rotated dir) x ∙ ap (rotated dir) (places dir n x (omega arith) k) ∙ one_place dir n x (omega arith) k

-- the other way round
other_way : (dir : RotateDirection) (n x : ℕ) → n < 8 → turned (opposite dir) x (8 - n) ≡ turned dir x n
unfolding rotated_left rotated_right
other_way left n x h = rw (let e : 8 - (8 - n) ≡ n = omega arith in e) (omega arith)
other_way right n x h = rw (let e : 8 - (8 - n) ≡ n = omega arith in e) (omega arith)

-- ---------------------------------------------------------------- the instructions

module _ (G : Given) {b D v : ℕ} {M : Memory} (h : b ≤ D) (x : ByteOperand) (e : operand M x ≡ v) (k : v < 256) where
  some_rotates : (dir : RotateDirection) (m y : ℕ) → 0 < m → iterate m (rotated dir) v ≡ y → Left b D 0 1 M (effects G (rotates dir (at D 0) x m) M) (y ∷ [])
  some_rotates dir zero y p q = absurd (omega arith)
  some_rotates dir (suc m) y p q = rw (ap (iterate (suc m) (rotated dir)) e ∙ q) at (rotates_run G b D h dir m x M)

  pub byte_rotates_run : (dir : RotateDirection) (m : ℕ) → m < 8 → Left b D 0 1 M (effects G (byte_rotates dir (at D 0) x m) M) (turned dir v m ∷ [])
  unfolding byte_rotates
  byte_rotates_run dir m l = go (eqb m 0) refl (leb m 4) refl
    where
      positive : eqb m 0 ≡ false → 0 < m
      positive z = let f = eqb-false m 0 z in omega arith

      go : (z : Bool) → eqb m 0 ≡ z → (few : Bool) → leb m 4 ≡ few → Left b D 0 1 M (effects G (byte_rotates dir (at D 0) x m) M) (turned dir v m ∷ [])
      go true z few f = rw (z, ap (turned dir v) (eqb-true m 0 z) ∙ turned_0 dir v k ∙ sym e) (copy_run G b D h x M)
      go false z true f = rw (z, f) (some_rotates dir m _ (positive z) (places dir m v l k))
      go false z false f =
          let p = positive z in
          rw (z, f) (some_rotates (opposite dir) (8 - m) _ (omega arith) (places (opposite dir) (8 - m) v (omega arith) k ∙ other_way dir m v l))

pub total_byte_rotates : (dir : RotateDirection) (d : ByteStorage) (x : ByteOperand) (m : ℕ) → Total (byte_rotates dir d x m)
unfolding byte_rotates defined
total_byte_rotates dir d x m = go (eqb m 0) refl (leb m 4) refl
  where
    go : (z : Bool) → eqb m 0 ≡ z → (few : Bool) → leb m 4 ≡ few → Total (byte_rotates dir d x m)
    go true z few f = rw z (and_then (λ M. refl) no_more)
    go false z true f = rw (z, f) (total_rotates dir d x m)
    go false z false f = rw (z, f) (total_rotates (opposite dir) d x (8 - m))

-- ---------------------------------------------------------------- operands of one byte

pub first_is : {n : ℕ} {M : Memory} (a : ℕ) (ls : List ByteOperand) → Fixed n M ls (bytes_of 1 a) → operand M (first_operand ls) ≡ a % 256
unfolding bytes_of first_operand
first_is {M} a [] h = absurd (nil_cons (h.holds M agree_refl))
first_is {M} a (l ∷ ls) h = heads (h.holds M agree_refl)

pub lowest_is : {n : ℕ} {M : Memory} (b : ℕ) (rs : List ByteOperand) → Fixed n M rs (bytes_of 1 b) → all_immediate rs ≡ true → lowest_byte rs ≡ b % 256
unfolding bytes_of all_immediate lowest_byte
lowest_is {M} b [] h e = absurd (nil_cons (h.holds M agree_refl))
lowest_is {M} b (immediate y ∷ rs) h e = heads (h.holds M agree_refl)
lowest_is {M} b (stored s ∷ rs) h e = absurd (let z : ◌≡◌ {A = ℕ} 0 1 = cc in omega arith)

-- the rotates are the shifts of their direction
pub turned_shift : (op : ShiftOp) (dir : RotateDirection) (a b : ℕ) → rotate_direction op ≡ Some dir → turned dir a (b % 8) ≡ shift_op op 8 a b
unfolding rotate_direction shift_op irotl irotr
turned_shift lir.shift_left dir a b e = cc
turned_shift lir.shift_right_unsigned dir a b e = cc
turned_shift lir.shift_right_signed dir a b e = cc
turned_shift lir.rotate_left dir a b e = let q : left ≡ dir = cc in rw (← q) refl
turned_shift lir.rotate_right dir a b e = let q : right ≡ dir = cc in rw (← q) refl
