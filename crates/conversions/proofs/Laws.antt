-- Bytes resized, operators by their numbers, and a value under another type.
use Rattle.std.specs.Prelude.{◌≡◌, refl, List, ◌∷◌, [], ℕ, zero, suc, ◌+◌, ◌-◌, ◌≤◌, ◌<◌, min, ltb, length, take}
use Rattle.std.proofs.Common.{ap, arith}
use Rattle.std.proofs.lemmas.Bool.Decides.{nat_tests}
use borrow.Author.Tests.{le-ltb}
use lib.ListN.{get_or-eq_default}
use Rattle.spec.specs.Hir as hir
use Rattle.spec.specs.Ticket as ticket
use Rattle.spec.specs.Lir.{ByteOperand, immediate}
use Rattle.spec.specs.Operands.{resize}
use Rattle.spec.specs.Operators.{of_float, conversion_form}
use Rattle.lir.specs.Abstract.{tab, byte_at, bytes_of, source_reach}
use Rattle.lir.specs.declared.Bytes.{Bytes}
use Rattle.lir.specs.declared.Source.{Source}
use Rattle.conversions.specs.Converting.{Resizes}

-- ---------------------------------------------------------------- bytes resized

module _ (f g : ℕ → ByteOperand) where
  -- the same as far as there are bytes, and zeros behind them
  resize_tab : (j m n : ℕ) → ((i : ℕ) → j ≤ i → i < j + m → g i ≡ f i) → ((i : ℕ) → j + m ≤ i → g i ≡ immediate 0) → tab g j n ≡ resize n (tab f j m)
  unfolding tab resize
  resize_tab j m zero h k = refl
  resize_tab j zero (suc n) h k = rw (k j (omega arith), resize_tab (suc j) zero n (λ i x y. absurd (omega arith)) (λ i x. k i (omega arith)))
  resize_tab j (suc m) (suc n) h k = rw (h j (omega arith) (omega arith), resize_tab (suc j) m n (λ i x y. h i (omega arith) (omega arith)) (λ i x. k i (omega arith)))

reach_less : (s : Source) (k c : ℕ) → k ≤ c → source_reach s k ≤ source_reach s c
reach_less (Source.Constant n) k c h = omega arith
reach_less (Source.Storage b) k c h = omega arith

below_min : (i c t : ℕ) → i < t → ltb i (min c t) ≡ ltb i c
below_min i c t h = grind (arith, nat_tests)

-- the run ends with the bytes, or before them
pub resizes : (b : Bytes) (n : ℕ) → Resizes b n (record { source = b.source; count = min b.count b.total; total = n })
unfolding bytes_of
resizes b n =
    let k = min b.count b.total in
    record {
      is = resize_tab (byte_at b) (byte_at (record { source = b.source; count = k; total = n })) 0 b.total n (λ i x y. rw (below_min i b.count b.total (omega arith))) (λ i x. rw (le-ltb i k (omega arith)));
      small = λ s l. record { reach_most = omega (arith, reach_less b.source k b.count (omega arith), s.reach_most); total_most = l };
    }

pub take_resize : (n : ℕ) (bs : List ByteOperand) → n ≤ length bs → take n bs ≡ resize n bs
unfolding resize
take_resize zero bs h = refl
take_resize (suc n) [] h = absurd (omega arith)
take_resize (suc n) (b ∷ bs) h = ap (λ (l : List ByteOperand). b ∷ l) (take_resize n bs (omega arith))

-- ---------------------------------------------------------------- operators by their numbers

-- a number behind the last operator's
pub conversion_past : (op : ℕ) → 14 ≤ op → conversion_form (ticket.conversion_op op) ≡ conversion_form hir.truncate
conversion_past op h = ap conversion_form (get_or-eq_default hir.conversion_ops hir.truncate {n = op} h)

-- eight of them are of floats
floats_from : (d : ℕ) → d ≤ 7 → conversion_form (ticket.conversion_op (3 + d)) ≡ of_float
unfolding conversion_form
floats_from zero h = refl
floats_from (suc zero) h = refl
floats_from (suc (suc zero)) h = refl
floats_from (suc (suc (suc zero))) h = refl
floats_from (suc (suc (suc (suc zero)))) h = refl
floats_from (suc (suc (suc (suc (suc zero))))) h = refl
floats_from (suc (suc (suc (suc (suc (suc zero)))))) h = refl
floats_from (suc (suc (suc (suc (suc (suc (suc zero))))))) h = refl
floats_from (suc (suc (suc (suc (suc (suc (suc (suc d)))))))) h = absurd (omega arith)

pub conversion_floats : (op : ℕ) → 3 ≤ op → op ≤ 10 → conversion_form (ticket.conversion_op op) ≡ of_float
conversion_floats op h k = let e : 3 + (op - 3) ≡ op = omega arith in rw e at (floats_from (op - 3) (omega arith))

pub ruleset operators = (conversion_past, conversion_floats)
