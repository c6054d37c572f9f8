-- What has a value: operators, parts of data, and what an accepted step of its own must have found.
use Prim.Native.Nat.{ℕ, zero, suc}
use mathlib.Core.Bool.{true}
use mathlib.Core.List.{List}
use Rattle.std.specs.Prelude.{Option, None, Some}
use Rattle.std.proofs.lemmas.Option.{none-some}
use mathlib.Core.Path.{◌≡◌, refl}
use Rattle.spec.specs.Hir.{boolean, integer, static_address, read, compare, convert, address_of, Place, IntegerBinaryOp, CompareOp, ConversionOp}
use Rattle.spec.specs.Hir as hir
use Rattle.spec.specs.Ticket.{Tables}
use Rattle.spec.specs.Lir.{Value}
use Rattle.spec.specs.Monad.{Lower}
use Rattle.spec.specs.Operands.{nth}
use Rattle.spec.specs.Operators.{compare_op}
use Rattle.spec.specs.Conversions.{lower_compare}
use Rattle.spec.specs.Select.{lower_address_of, lower_static_address}
use Rattle.spec.specs.Lower.{lower_read}
use Rattle.spec.specs.Machine.{is_some}
use Rattle.spec.specs.Typed.{conversion_typed}
use Rattle.spec.specs.Eval.{Data, Datas, parts_in, part_at, set_part, binary_numeric, compare_numeric, conversion_data, located, based}
use Rattle.spec.specs.RunNeeds.{NeedsOf}
use Rattle.spec.proofs.RunLogic.{never_true}
use Rattle.spec.proofs.RunTyping.{Has, has_unit, has_bool, has_number, has_array, has_struct, has_tuple, plain_bits, plain_pointer, plain_opaque, HasAll, has_none, has_more}
use Rattle.spec.proofs.RunParts.{parts_of}
use Rattle.spec.proofs.RunPlaces.{Resolved, quiet_place, quiet_base}
use Rattle.spec.proofs.RunSeen.{Sees, ◌then◌, whatever, known, quietly}
use Rattle.spec.proofs.RunDivides.{divided}

-- ---------------------------------------------------------------- operators

pub record There {A : Type 0} (x : Option A) : Type 0 where
  pub it : A
  pub is : x ≡ Some it

is_there : {A : Type 0} (x : Option A) → is_some x ≡ true → There x
is_there None e = never_true e
is_there (Some a) e = record { it = a; is = refl }

pub there : {A : Type 0} {a : A} → There (Some a)
there {a = a} = record { it = a; is = refl }

pub binary_there : (op : IntegerBinaryOp) (N i j : ℕ) → divided op N i j ≡ true → There (binary_numeric op N i j)
unfolding binary_numeric
binary_there hir.add N i j e = there
binary_there hir.subtract N i j e = there
binary_there hir.multiply N i j e = there
binary_there (hir.divide x) N i j e = is_there _ e
binary_there (hir.remainder x) N i j e = is_there _ e
binary_there hir.and N i j e = there
binary_there hir.or N i j e = there
binary_there hir.xor N i j e = there
binary_there hir.shift_left N i j e = there
binary_there (hir.shift_right hir.signed) N i j e = there
binary_there (hir.shift_right hir.unsigned) N i j e = there
binary_there hir.rotate_left N i j e = there
binary_there hir.rotate_right N i j e = there
binary_there (hir.saturating_add hir.signed) N i j e = there
binary_there (hir.saturating_add hir.unsigned) N i j e = there
binary_there (hir.saturating_subtract hir.signed) N i j e = there
binary_there (hir.saturating_subtract hir.unsigned) N i j e = there

-- a comparison that has a lowering is no float's
pub compare_there : (op : CompareOp) (N i j : ℕ) → There (compare_op op) → There (compare_numeric op N i j)
unfolding compare_op compare_numeric
compare_there hir.equal N i j s = there
compare_there hir.not_equal N i j s = there
compare_there (hir.less_than hir.signed) N i j s = there
compare_there (hir.less_than hir.unsigned) N i j s = there
compare_there (hir.less_than_or_equal hir.signed) N i j s = there
compare_there (hir.less_than_or_equal hir.unsigned) N i j s = there
compare_there (hir.greater_than hir.signed) N i j s = there
compare_there (hir.greater_than hir.unsigned) N i j s = there
compare_there (hir.greater_than_or_equal hir.signed) N i j s = there
compare_there (hir.greater_than_or_equal hir.unsigned) N i j s = there
compare_there hir.float_equal N i j s = absurd (none-some _ s.is)
compare_there hir.float_not_equal N i j s = absurd (none-some _ s.is)
compare_there hir.float_less_than N i j s = absurd (none-some _ s.is)
compare_there hir.float_less_than_or_equal N i j s = absurd (none-some _ s.is)
compare_there hir.float_greater_than N i j s = absurd (none-some _ s.is)
compare_there hir.float_greater_than_or_equal N i j s = absurd (none-some _ s.is)

pub convert_there : (T : Tables) (op : ConversionOp) (s t : ℕ) (d : Data) → conversion_typed T op s t ≡ true → There (conversion_data T op s t d)
unfolding conversion_typed conversion_data
convert_there T hir.truncate s t d e = there
convert_there T hir.zero_extend s t d e = there
convert_there T hir.sign_extend s t d e = there
convert_there T (hir.integer_to_float x) s t d e = never_true e
convert_there T (hir.float_to_integer x y) s t d e = never_true e
convert_there T hir.promote_float s t d e = never_true e
convert_there T hir.demote_float s t d e = never_true e
convert_there T hir.reinterpret s t d e = there
convert_there T hir.boolean_to_integer s t d e = there
convert_there T hir.integer_to_boolean s t d e = there

-- ---------------------------------------------------------------- parts

module _ (T : Tables) where
  pub part_there : {ts : List ℕ} {ds : Datas} (i : ℕ) {t : ℕ} → HasAll T ts ds → nth ts i ≡ Some t → There (part_at ds i)
  unfolding nth part_at
  part_there i has_none e = absurd (none-some _ e)
  part_there zero (has_more q qs) e = there
  part_there (suc i) (has_more q qs) e = part_there i qs e

  pub set_there : {ts : List ℕ} {ds : Datas} (i : ℕ) {t : ℕ} (u : ℕ) (x : Data) → HasAll T ts ds → nth ts i ≡ Some t → There (set_part ds i u x)
  unfolding nth set_part
  set_there i u x has_none e = absurd (none-some _ e)
  set_there zero u x (has_more q qs) e = there
  set_there (suc i) u x (has_more q qs) e = let z = set_there i u x qs e in rw z.is there

  -- data of a type that has a part
  pub parts_there : {ty t : ℕ} {d : Data} (i : ℕ) → Has T ty d → nth (parts_of T ty) i ≡ Some t → HasAll T (parts_of T ty) (parts_in d)
  unfolding nth
  parts_there i (has_unit e) p = absurd (none-some _ (rw e at p))
  parts_there i (has_bool e l) p = absurd (none-some _ (rw e at p))
  parts_there i (has_number (plain_bits e l) z) p = absurd (none-some _ (rw e at p))
  parts_there i (has_number (plain_pointer e l) z) p = absurd (none-some _ (rw e at p))
  parts_there i (has_number (plain_opaque e l) z) p = absurd (none-some _ (rw e at p))
  parts_there i (has_array e qs) p = rw e qs
  parts_there i (has_struct e qs) p = rw e qs
  parts_there i (has_tuple e qs) p = rw e qs

-- ---------------------------------------------------------------- steps

pass : {A : Type 0} {m : Lower A} → Sees m (λ _. Unit {0})
pass = whatever (λ _. tt)

module _ (T : Tables) where
  pub compare_seen : (op : CompareOp) (l r : Value) → Sees (lower_compare T op l r) (λ _. There (compare_op op))
  unfolding lower_compare
  compare_seen op l r =
      ◌then◌ pass (λ _ _. ◌then◌ pass (λ _ _. ◌then◌ pass (λ _ _. ◌then◌ pass (λ _ _.
      ◌then◌ (known 24 (compare_op op)) (λ c e. whatever (λ _. record { it = c; is = e }))))))

  pub static_seen : (k o : ℕ) → Sees (lower_static_address T k o) (λ _. There (nth T.statics k))
  unfolding lower_static_address
  static_seen k o = ◌then◌ (known 20 (nth T.statics k)) (λ p e. whatever (λ _. record { it = p; is = e }))

  module _ (N : NeedsOf T) where
    pub read_seen : (p : Place) (ty : ℕ) → Sees (lower_read T p ty) (λ _. There (located T p ty))
    unfolding lower_read located
    read_seen p ty =
        ◌then◌ (quietly (Resolved T ty) (located T p ty) (λ h c. (quiet_place T N p ty).is h c)) (λ l e. whatever (λ _. record { it = l; is = e }))

    pub address_seen : (p : Place) → Sees (lower_address_of T p) (λ _. There (based T p))
    unfolding lower_address_of based
    address_seen p = ◌then◌ (quietly _ (based T p) (λ h c. (quiet_base T N p).is h c)) (λ b e. whatever (λ _. record { it = b; is = e }))
