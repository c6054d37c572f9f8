-- THE SUM: what a whole expression appends, as the sum of its nodes' budgets.
use Prim.Native.Nat.{ℕ, ◌+◌, ◌*◌, ◌≤◌, zero-le}
use mathlib.Core.List.{List}
use native.Mathlib.Omega.{arith}
use Rattle.spec.specs.Hir.{At, Expr, boolean, integer, float32, float64, null_pointer, static_address, function_address, read, integer_unary, integer_binary, float_unary, float_binary, compare, convert, select, address_of, pointer_offset, aggregate, extract_element, insert_element, Exprs, no_exprs, ◌∷ᵉ◌}
use Rattle.spec.specs.Ticket.{Tables}
use Rattle.spec.specs.Readable.{TypesRight, node_sum, node_sums}
use Rattle.spec.specs.Lir.{Storage, Value}
use Rattle.spec.specs.Monad.{Lower}
use Rattle.spec.specs.Lower.{as_bit, lower_expression, lower_expressions, expression_as_bit}
use Rattle.spec.proofs.CostLogic.{Cost, ◌⊞◌, Any, Does, ◌then◌, within, giving}
use Rattle.spec.proofs.CostSteps.{budget, answers, owned}
use Rattle.spec.proofs.CostReads.{reading, size_of, weight_of, records, records_of, Small}
use Rattle.spec.proofs.CostConversions.{value_as_bit_does}
use Rattle.spec.proofs.CostSelect.{lower_select_does}
use Rattle.spec.proofs.CostLocal.{Own, own_step}

-- the nodes' budgets, added up
abbrev pub tree_budget : Tables → Expr → Cost
tree_budget T e =
    record {
      instructions = node_sum (λ ty. 3 * size_of T ty + 2) e;
      storages = node_sum (λ ty. 2 * size_of T ty + 2) e;
      bytes = node_sum (λ ty. size_of T ty + 2) e;
      other_instructions = node_sum (λ ty. 2 * size_of T ty + 2) e;
      other_storages = node_sum (λ ty. size_of T ty + 2) e;
      chosen = node_sum (size_of T) e;
    }

abbrev pub trees_budget : Tables → Exprs → Cost
trees_budget T es =
    record {
      instructions = node_sums (λ ty. 3 * size_of T ty + 2) es;
      storages = node_sums (λ ty. 2 * size_of T ty + 2) es;
      bytes = node_sums (λ ty. size_of T ty + 2) es;
      other_instructions = node_sums (λ ty. 2 * size_of T ty + 2) es;
      other_storages = node_sums (λ ty. size_of T ty + 2) es;
      chosen = node_sums (size_of T) es;
    }

module _ (T : Tables) (R : TypesRight T) {L : List Storage} where
  -- a node's own step behind its operands, whose values are among the q
  behind : {P : Type 0} {n : ℕ} {m : Lower Value} (h : At) (q : ℕ)
      → Own T h n m → (P → n + weight_of T h.ty ≤ q) → Does L P m (budget (size_of T h.ty)) (Small q)
  behind h q s f = giving (own_step T R s) (λ p. omega arith) (λ v p g. omega (arith, f p))

  leaf : {P : Type 0} {m : Lower Value} (h : At) → Own T h 0 m → Does L P m (budget (size_of T h.ty)) (Small (weight_of T h.ty))
  leaf h s = behind h (weight_of T h.ty) s (λ p. omega arith)

  -- a select's condition: its own value, and a bit
  as_bit_does : {P : Type 0} {m : Lower Value} {k : Cost} {Q : Value → Type 0} (h : At) → Does L P m k Q → Does L P (as_bit T h m) (k ⊞ reading 1) Any
  unfolding as_bit
  as_bit_does h d = d then λ v. owned h (value_as_bit_does T v)

  mutual
    unfolding lower_expression node_sum records

    pub expression_does : {P : Type 0} (e : Expr) → Does L P (lower_expression T e) (tree_budget T e) (Small (node_sum (weight_of T) e))
    expression_does (boolean h b) = leaf h (Own.boolean b)
    expression_does (integer h v) = leaf h (Own.integer v)
    expression_does (float32 h v) = leaf h (Own.float 23)
    expression_does (float64 h v) = leaf h (Own.float 23)
    expression_does (null_pointer h) = leaf h Own.null_pointer
    expression_does (static_address h k o) = leaf h (Own.static_address k o)
    expression_does (function_address h f) = leaf h (Own.function_address f)
    expression_does (read h p) = leaf h (Own.read p)
    expression_does (integer_unary h op e) =
        within (expression_does e then λ v. behind h _ (Own.integer_unary op v) (λ p. omega arith)) (λ p. omega arith)
    expression_does (integer_binary h op l r) =
        within (expression_does l then λ v. expression_does r then λ w. behind h _ (Own.integer_binary op v w) (λ p. omega arith)) (λ p. omega arith)
    expression_does (float_unary h e) = leaf h (Own.float 24)
    expression_does (float_binary h l r) = leaf h (Own.float 24)
    expression_does (compare h op l r) =
        within (expression_does l then λ v. expression_does r then λ w. behind h _ (Own.compare op v w) (λ p. omega arith)) (λ p. omega arith)
    expression_does (convert h op e) =
        within (expression_does e then λ v. behind h _ (Own.convert op v) (λ p. omega arith)) (λ p. omega arith)
    expression_does (select h t f c) =
        giving
        (expression_does t then λ v.
        expression_does f then λ w.
        as_bit_does h (expression_does c) then λ b.
        owned h (lower_select_does T R b v w h.ty))
        (λ p. omega arith) (λ x p q. omega arith)
    expression_does (address_of h p) = leaf h (Own.address_of p)
    expression_does (pointer_offset h b o) =
        within (expression_does b then λ v. expression_does o then λ w. behind h _ (Own.pointer_offset v w) (λ p. omega arith)) (λ p. omega arith)
    expression_does (aggregate h es) =
        within (expressions_does es then λ vs. behind h _ (Own.aggregates vs) (λ p. omega arith)) (λ p. omega arith)
    expression_does (extract_element h e i) =
        within (expression_does e then λ v. behind h _ (Own.extract_element v i) (λ p. omega arith)) (λ p. omega arith)
    expression_does (insert_element h e i w) =
        within (expression_does e then λ v. expression_does w then λ x. behind h _ (Own.insert_element v i x) (λ p. omega arith)) (λ p. omega arith)

    pub expressions_does : {P : Type 0} (es : Exprs) → Does L P (lower_expressions T es) (trees_budget T es) (λ vs. records_of vs ≤ node_sums (weight_of T) es)
    expressions_does no_exprs = answers (λ p. zero-le)
    expressions_does (e ∷ᵉ es) = within (expression_does e then λ v. expressions_does es then λ vs. answers (λ p. omega arith)) (λ p. omega arith)

  pub expression_as_bit_does : {P : Type 0} (h : At) (e : Expr) → Does L P (expression_as_bit T h e) (tree_budget T e ⊞ reading 1) Any
  unfolding expression_as_bit
  expression_as_bit_does h e = as_bit_does h (expression_does e)
