-- Values: their lines, outer first, and the value read back from them.
use Prim.Native.Nat.{ℕ, zero, suc, ◌≤◌}
use mathlib.Core.List.{List, [], ◌∷◌, ◌++◌}
use Rattle.std.specs.Prelude.{Some}
use mathlib.Core.Path.{◌≡◌, refl}
use native.Mathlib.Omega.{arith}
use lib.ListN.{length, length-append}
use Rattle.spec.specs.Text.{digits, bytes, same}
use Rattle.spec.specs.Lir
use Rattle.spec.specs.Lir.{◌∷ᵛ◌}
use Rattle.spec.specs.Print as print
use Rattle.spec.specs.ReadBack as read
use Rattle.spec.specs.ReadBack.{Field, Line, Shape, plain, parted, find, shape_words}
use Rattle.spec.proofs.ListingReaders.{Takes, takes_pure, takes_then, takes_last, takes_next}
use Rattle.spec.proofs.ListingFields.{Fields, nothing, then_next, last, word, number_field, bit_field, operands_fields}
use Rattle.spec.proofs.ListingLines.{Lines, no_lines, lines_append, one_line, line_back}

-- ---------------------------------------------------------------- a value's own line

-- the fields behind its type
unfoldable pub shape_fields : Lir.Repr → List Field
shape_fields Lir.unit = bytes "unit" ∷ []
shape_fields (Lir.bit_value b) = bytes "bit" ∷ print.bit_operand b ∷ []
shape_fields (Lir.bytes_value bs) = bytes "bytes" ∷ print.operands bs
shape_fields (Lir.aggregate vs) = bytes "aggregate" ∷ digits (print.parts vs) ∷ []

unfoldable pub shape_of : Lir.Repr → Shape
shape_of Lir.unit = plain Lir.unit
shape_of (Lir.bit_value b) = plain (Lir.bit_value b)
shape_of (Lir.bytes_value bs) = plain (Lir.bytes_value bs)
shape_of (Lir.aggregate vs) = parted (print.parts vs)

shape_back : (r : Lir.Repr) → Fields read.shape (shape_fields r) (shape_of r)
unfolding shape_fields shape_of find shape_words same read.bit_shape read.bytes_shape read.aggregate_shape
shape_back Lir.unit = word shape_words refl (nothing (plain Lir.unit))
shape_back (Lir.bit_value b) = word shape_words refl (last (λ c. plain (Lir.bit_value c)) (bit_field b))
shape_back (Lir.bytes_value bs) = word shape_words refl (last (λ cs. plain (Lir.bytes_value cs)) (operands_fields bs))
shape_back (Lir.aggregate vs) = word shape_words refl (last parted (number_field (print.parts vs)))

abbrev pub own_line : ℕ → Lir.Repr → Line
own_line ty r = bytes "value" ∷ digits ty ∷ shape_fields r

top_back : (ty : ℕ) (r : Lir.Repr) → Fields read.top (digits ty ∷ shape_fields r) (record { ty = ty; shape = shape_of r })
unfolding read.top
top_back ty r = then_next _ (number_field ty) (last (λ s. record { ty = ty; shape = s }) (shape_back r))

own_line_back : (ty : ℕ) (r : Lir.Repr) → read.line_of "value" read.top (own_line ty r) ≡ Some (record { ty = ty; shape = shape_of r })
own_line_back ty r = line_back "value" (top_back ty r)

own_line_cut : (ty : ℕ) (r : Lir.Repr) → Lines (print.value_line ty (shape_fields r)) (own_line ty r ∷ [])
unfolding print.value_line
own_line_cut ty r = one_line (record { no_comma = refl; no_feed = refl }) (top_back ty r).clean

-- ---------------------------------------------------------------- all its lines

unfoldable mutual
  pub value_lines : Lir.Value → List Line
  value_lines (Lir.value ty r) = own_line ty r ∷ part_lines r

  pub part_lines : Lir.Repr → List Line
  part_lines Lir.unit = []
  part_lines (Lir.bit_value b) = []
  part_lines (Lir.bytes_value bs) = []
  part_lines (Lir.aggregate vs) = values_lines vs

  pub values_lines : Lir.Values → List Line
  values_lines Lir.no_values = []
  values_lines (v ∷ᵛ vs) = value_lines v ++ values_lines vs

mutual
  unfolding print.value_lines print.repr_lines print.values_lines value_lines part_lines values_lines shape_fields

  pub value_cut : (v : Lir.Value) → Lines (print.value_lines v) (value_lines v)
  value_cut (Lir.value ty r) = repr_cut r ty

  repr_cut : (r : Lir.Repr) (ty : ℕ) → Lines (print.repr_lines ty r) (own_line ty r ∷ part_lines r)
  repr_cut Lir.unit ty = own_line_cut ty Lir.unit
  repr_cut (Lir.bit_value b) ty = own_line_cut ty (Lir.bit_value b)
  repr_cut (Lir.bytes_value bs) ty = own_line_cut ty (Lir.bytes_value bs)
  repr_cut (Lir.aggregate vs) ty = lines_append (own_line_cut ty (Lir.aggregate vs)) (values_cut vs)

  values_cut : (vs : Lir.Values) → Lines (print.values_lines vs) (values_lines vs)
  values_cut Lir.no_values = no_lines
  values_cut (v ∷ᵛ vs) = lines_append (value_cut v) (values_cut vs)

-- ---------------------------------------------------------------- read back

-- a value is as deep as its lines allow, or less
mutual
  unfolding value_lines part_lines values_lines shape_of print.parts read.value read.shaped read.values

  pub value_back : (v : Lir.Value) (k : ℕ) → length (value_lines v) ≤ k → Takes (read.value k) (value_lines v) v
  value_back (Lir.value ty r) zero h = absurd (omega arith)
  value_back (Lir.value ty r) (suc k) h = takes_then _ (takes_next _ (own_line_back ty r)) (repr_back r ty k (omega arith))

  repr_back : (r : Lir.Repr) (ty k : ℕ) → length (part_lines r) ≤ k → Takes (read.shaped (read.value k) ty (shape_of r)) (part_lines r) (Lir.value ty r)
  repr_back Lir.unit ty k h = takes_pure _
  repr_back (Lir.bit_value b) ty k h = takes_pure _
  repr_back (Lir.bytes_value bs) ty k h = takes_pure _
  repr_back (Lir.aggregate vs) ty k h = takes_last (λ ws. Lir.value ty (Lir.aggregate ws)) (values_back vs k h)

  values_back : (vs : Lir.Values) (k : ℕ) → length (values_lines vs) ≤ k → Takes (read.values (read.value k) (print.parts vs)) (values_lines vs) vs
  values_back Lir.no_values k h = takes_pure _
  values_back (v ∷ᵛ vs) k h =
      let n = length-append (value_lines v) (values_lines vs) in
      takes_then _ (value_back v k (omega arith)) (takes_last (λ ws. v ∷ᵛ ws) (values_back vs k (omega arith)))
