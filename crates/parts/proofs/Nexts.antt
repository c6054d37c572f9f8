-- The operand at a place of one record, and what is left behind it.
use Rattle.std.specs.Prelude.{◌≡◌, refl, List, ◌∷◌, ◌++◌, map, [], ℕ, zero, suc, ◌+◌, ◌≤◌, ◌<◌, length, drop, Option, Some, None, slice_get, option_map}
use Rattle.std.proofs.Common.{sym, ap, ◌∙◌, arith, add-one}
use Rattle.std.proofs.lemmas.List.{length-map}
use Rattle.std.proofs.lemmas.Option.{none-some, same_Some, slice_get-map, slice_get_past}
use Rattle.spec.specs.Lir.{ValueOperand, byte_operand}
use Rattle.lir.specs.Abstract.{tab, byte_at, bytes_of}
use Rattle.lir.specs.declared.Bytes.{Bytes}
use Rattle.emission.specs.Operands.{length_bytes}
use Rattle.values.specs.declared.Value.{Value as Val}
use Rattle.values.specs.Heads.{operands_of}
use Rattle.values.specs.Stack.{value_at}
use Rattle.parts.specs.declared.Operand.{Operand}
use Rattle.parts.specs.Records.{heads_in, AreRecords, first_record, heads_none}
use Rattle.parts.specs.Operands.{operand_of, own, left_operands, Ready}

-- ---------------------------------------------------------------- the operands of one record

tab_get : {A : Type 0} (f : ℕ → A) (j n i : ℕ) → i < n → slice_get (tab f j n) i ≡ Some (f (j + i))
unfolding tab
tab_get f j zero i h = absurd (omega arith)
tab_get f j (suc n) zero h = let e : j ≡ j + 0 = omega arith in ap (λ (z : ℕ). Some (f z)) e
tab_get f j (suc n) (suc i) h = let e : suc j + i ≡ j + suc i = omega arith in tab_get f (suc j) n i (omega arith) ∙ ap (λ (z : ℕ). Some (f z)) e

pub own_byte : (b : Bytes) (i : ℕ) → i < b.total → slice_get (map byte_operand (bytes_of b)) i ≡ Some (byte_operand (byte_at b i))
unfolding bytes_of
own_byte b i h =
    let e : 0 + i ≡ i = omega arith in
    slice_get-map byte_operand (tab (byte_at b) 0 b.total) i ∙ ap (option_map byte_operand) (tab_get (byte_at b) 0 b.total i h) ∙ ap (λ (z : ℕ). Some (byte_operand (byte_at b z))) e

pub no_byte : (b : Bytes) (i : ℕ) → b.total ≤ i → slice_get (map byte_operand (bytes_of b)) i ≡ None
no_byte b i h = slice_get_past (map byte_operand (bytes_of b)) i (omega (arith, length-map (bytes_of b) byte_operand ∙ length_bytes b))

-- ---------------------------------------------------------------- the next

drop_some : {A : Type 0} (l : List A) (i : ℕ) (x : A) → slice_get l i ≡ Some x → drop i l ≡ x ∷ drop (suc i) l
drop_some [] i x e = absurd (none-some x e)
drop_some {A} (y ∷ l) zero x e = ap (λ (z : A). z ∷ l) (same_Some y x e)
drop_some (y ∷ l) (suc i) x e = drop_some l i x e

drop_none : {A : Type 0} (l : List A) (i : ℕ) → slice_get l i ≡ None → drop i l ≡ []
drop_none [] zero e = refl
drop_none [] (suc i) e = refl
drop_none (y ∷ l) zero e = absurd (none-some y (sym e))
drop_none (y ∷ l) (suc i) e = drop_none l i e

-- an operand of the record
pub left_more : (v : Val) (i : ℕ) (ws : List ℕ) {r : Option Operand} (x : Operand) → option_map operand_of r ≡ slice_get (own v) i → r ≡ Some x
    → left_operands v i ws ≡ operand_of x ∷ left_operands v (i + 1) ws
unfolding left_operands
left_more v i ws x e f =
    let g : slice_get (own v) i ≡ Some (operand_of x) = sym e ∙ ap (option_map operand_of) f in
    rw add-one (ap (λ (z : List ValueOperand). z ++ operands_of (heads_in ws)) (drop_some (own v) i (operand_of x) g))

module _ (v : Val) (i : ℕ) (ws : List ℕ) {r : Option Operand} (e : option_map operand_of r ≡ slice_get (own v) i) (f : r ≡ None) where
  over : left_operands v i ws ≡ operands_of (heads_in ws)
  unfolding left_operands
  over = ap (λ (z : List ValueOperand). z ++ operands_of (heads_in ws)) (drop_none (own v) i (sym e ∙ ap (option_map operand_of) f))

  -- none: those of the next record
  pub left_opened : AreRecords ws → 0 < length ws → left_operands v i ws ≡ left_operands (value_at ws 0) 0 (drop 8 ws)
  unfolding left_operands
  left_opened a h = over ∙ ap operands_of (first_record a h).heads

  -- none, and no record
  pub left_none : AreRecords ws → length ws < 8 → left_operands v i ws ≡ []
  left_none a h = over ∙ ap operands_of (heads_none a h)

pub ready_next : {v : Val} {ws : List ℕ} → Ready v ws → 0 < length ws → Ready (value_at ws 0) (drop 8 ws)
ready_next a h = let f = first_record a.records h in record { sound = f.sound; records = f.rest }
