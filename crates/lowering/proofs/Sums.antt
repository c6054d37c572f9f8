-- What the lowering of a tree uses of the room that it has.
use Rattle.std.specs.Prelude.{◌≡◌, refl, List, ℕ, suc, ◌+◌, ◌*◌, ◌≤◌, length}
use Rattle.std.proofs.Common.{sym, ap, ◌∙◌, arith, length-append}
use Prim.Native.Nat.{zero-le}
use Rattle.spec.specs.Hir.{Expr, boolean, integer, float32, float64, null_pointer, static_address, function_address, read, integer_unary, integer_binary, float_unary, float_binary, compare, convert, select, address_of, pointer_offset, aggregate, extract_element, insert_element, Exprs, no_exprs, ◌∷ᵉ◌}
use Rattle.spec.specs.Ticket.{Tables, nowhere}
use Rattle.spec.specs.Readable.{TypesRight, node_sum, node_sums}
use Rattle.spec.specs.Lir.{Value, value, Repr, unit, bit_value, bytes_value, Values, no_values, ◌∷ᵛ◌}
use Rattle.spec.specs.Lir as lir
use Rattle.spec.specs.Monad.{Outcome}
use Rattle.spec.specs.Lower.{lower_expression}
use Rattle.spec.proofs.CostReads.{records, records_in, records_of}
use Rattle.spec.proofs.CostClosed.{lowers}
use Rattle.lir.specs.declared.NodeId.{NodeId}
use Rattle.emission.specs.Appends.{Room, room_after}
use Rattle.values.specs.declared.Lowering.{Lowering}
use Rattle.values.specs.declared.Value.{Value as Val}
use Rattle.values.specs.Heads.{Head, parts_of, repr_parts_of, preorders, length_heads}
use Rattle.values.specs.Left.{counters_in, Done, IsValue, DoneValue}
use Rattle.reads.specs.Reading.{size_of, weight_of}

-- ---------------------------------------------------------------- sums

module _ (f : ℕ → ℕ) (k : (t : ℕ) → 1 ≤ f t) where
  pub sum_least : (e : Expr) → 1 ≤ node_sum f e
  unfolding node_sum
  sum_least (boolean h b) = k h.ty
  sum_least (integer h v) = k h.ty
  sum_least (float32 h v) = k h.ty
  sum_least (float64 h v) = k h.ty
  sum_least (null_pointer h) = k h.ty
  sum_least (static_address h s o) = k h.ty
  sum_least (function_address h g) = k h.ty
  sum_least (read h p) = k h.ty
  sum_least (integer_unary h op e) = omega (arith, k h.ty)
  sum_least (integer_binary h op l r) = omega (arith, k h.ty)
  sum_least (float_unary h e) = k h.ty
  sum_least (float_binary h l r) = k h.ty
  sum_least (compare h op l r) = omega (arith, k h.ty)
  sum_least (convert h op e) = omega (arith, k h.ty)
  sum_least (select h t e c) = omega (arith, k h.ty)
  sum_least (address_of h p) = k h.ty
  sum_least (pointer_offset h b o) = omega (arith, k h.ty)
  sum_least (aggregate h es) = omega (arith, k h.ty)
  sum_least (extract_element h e i) = omega (arith, k h.ty)
  sum_least (insert_element h e i w) = omega (arith, k h.ty)

module _ (f g : ℕ → ℕ) (k : (t : ℕ) → f t ≤ g t) where
  mutual
    unfolding node_sum

    pub sum_le : (e : Expr) → node_sum f e ≤ node_sum g e
    sum_le (boolean h b) = k h.ty
    sum_le (integer h v) = k h.ty
    sum_le (float32 h v) = k h.ty
    sum_le (float64 h v) = k h.ty
    sum_le (null_pointer h) = k h.ty
    sum_le (static_address h s o) = k h.ty
    sum_le (function_address h x) = k h.ty
    sum_le (read h p) = k h.ty
    sum_le (integer_unary h op e) = omega (arith, k h.ty, sum_le e)
    sum_le (integer_binary h op l r) = omega (arith, k h.ty, sum_le l, sum_le r)
    sum_le (float_unary h e) = k h.ty
    sum_le (float_binary h l r) = k h.ty
    sum_le (compare h op l r) = omega (arith, k h.ty, sum_le l, sum_le r)
    sum_le (convert h op e) = omega (arith, k h.ty, sum_le e)
    sum_le (select h t e c) = omega (arith, k h.ty, sum_le t, sum_le e, sum_le c)
    sum_le (address_of h p) = k h.ty
    sum_le (pointer_offset h b o) = omega (arith, k h.ty, sum_le b, sum_le o)
    sum_le (aggregate h es) = omega (arith, k h.ty, sums_le es)
    sum_le (extract_element h e i) = omega (arith, k h.ty, sum_le e)
    sum_le (insert_element h e i w) = omega (arith, k h.ty, sum_le e, sum_le w)

    sums_le : (es : Exprs) → node_sums f es ≤ node_sums g es
    sums_le no_exprs = zero-le
    sums_le (e ∷ᵉ es) = omega (arith, sum_le e, sums_le es)

-- ---------------------------------------------------------------- a value's records are its head and its parts

mutual
  unfolding records

  pub records_parts : (v : Value) → records v ≡ suc (length (parts_of v))
  records_parts (value ty r) = ap suc (records_repr r)

  records_repr : (r : Repr) → records_in r ≡ length (repr_parts_of r)
  records_repr unit = refl
  records_repr (bit_value b) = refl
  records_repr (bytes_value bs) = refl
  records_repr (lir.aggregate vs) = records_values vs

  records_values : (vs : Values) → records_of vs ≡ length (preorders vs)
  records_values no_values = refl
  records_values (v ∷ᵛ vs) = omega (arith, records_parts v, records_values vs, length-append (parts_of v) (preorders vs))

-- ---------------------------------------------------------------- what is left

module _ {A B : Type 0} {P : A → B → Type 0} {hs : A → List Head} {l : Lowering} {o : Outcome A} {l1 : Lowering} {x : B} (d : Done P hs l o l1 x) where
  -- the node in hand is kept
  pub node_after : {n : ℕ} → n ≡ l.out.node.0 → n ≡ l1.out.node.0
  node_after e = e ∙ sym (ap (λ (z : NodeId). z.0) d.left.appends.node)

  -- as many records as the answer has parts
  pub topped : l1.top ≡ l.top + 8 * length (hs d.v)
  topped =
      let p : length d.left.parts ≡ length (hs d.v) = sym (length_heads d.left.parts) ∙ ap length d.left.shows in
      omega (arith, p, d.left.topped)

-- what a node of a type uses of each counter, at most
abbrev pub cost : Tables → ℕ → ℕ
cost T ty = 3 * size_of T ty + 2

module _ (T : Tables) (R : TypesRight T) where
  module _ (e : Expr) {l : Lowering} {l1 : Lowering} {x : Val} where
    -- the room behind a node
    pub after : {hs : Value → List Head} → Done IsValue hs l (lower_expression T e nowhere (counters_in l)) l1 x → (m : ℕ) → Room (node_sum (cost T) e + m) l.out → Room m l1.out
    after d m r =
        let k = lowers T R nowhere (counters_in l) e d.v (counters_in l1) d.out d.is in
        let z = sum_le (λ ty. 2 * size_of T ty + 2) (cost T) (λ t. omega arith) e in
        room_after m (omega (arith, z, k.cost.storages)) (omega (arith, k.cost.instructions)) r d.left.appends

    -- its records but one
    pub top_after : DoneValue l (lower_expression T e nowhere (counters_in l)) l1 x → l1.top + 8 ≤ l.top + 8 * node_sum (weight_of T) e
    top_after d =
        let k = lowers T R nowhere (counters_in l) e d.v (counters_in l1) d.out d.is in
        omega (arith, topped d, records_parts d.v, k.result)
