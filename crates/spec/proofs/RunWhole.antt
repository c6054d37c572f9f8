-- The whole expression: an accepted, rightly typed expression, run, leaves older storages as they were and its meaning in the value's pieces.
use Prim.Native.Nat.{ℕ, suc, ◌+◌, ◌≤◌}
use mathlib.Core.Bool.{Bool, true, false, not, ◌||◌}
use Rattle.std.specs.Prelude.{Some}
use Rattle.std.proofs.lemmas.Option.{same_Some}
use mathlib.Core.Path.{◌≡◌, refl, sym, ap, ◌∙◌}
use native.Mathlib.Omega.{arith}
use native.Mathlib.Nat.{le_trans}
use lib.Dec.{eqb}
use borrow.Author.Tests.{eqb-true}
use lib.ListN.{length}
use Rattle.spec.specs.Hir.{At, Expr, boolean, integer, float32, float64, null_pointer, static_address, function_address, read, integer_unary, integer_binary, float_unary, float_binary, compare, convert, select, address_of, pointer_offset, aggregate, extract_element, insert_element, Exprs, no_exprs, ◌∷ᵉ◌, ConversionOp}
use Rattle.spec.specs.Ticket.{Tables, type_at}
use Rattle.spec.specs.Readable.{TypesRight}
use Rattle.spec.specs.Lir.{BitOperand, Value}
use Rattle.spec.specs.Monad.{Lower}
use Rattle.spec.specs.Lower.{as_bit, lower_expression, lower_expressions}
use Rattle.numerics.specs.Numerics.{truth, ine}
use Rattle.spec.specs.Machine.{Memory, Proper, Given, pick}
use Rattle.spec.specs.Typed.{type_of, is_bits, width, has_parts, part_type, typed, parts_typed}
use Rattle.spec.specs.Eval.{Data, parts, Datas, number_in, parts_in, set_part, eval, evals, in_order, all_in_order}
use Rattle.spec.proofs.RunLogic.{both, either, never_true}
use Rattle.spec.proofs.RunFrames.{Agree, agree_trans}
use Rattle.spec.proofs.RunHoare.{From, ◌then◌, weaken, owned}
use Rattle.spec.proofs.RunTyping.{bits_of_test}
use Rattle.spec.proofs.RunValues.{Gives, GivesAll, rebased, word_later, denotes_later, gathered, nothing_read, one_more}
use Rattle.spec.proofs.RunConvert.{Bit, bit_as_bit, number_as_bit}
use Rattle.spec.specs.RunNeeds.{NeedsOf, bools_in_range, all_bools_in_range}
use Rattle.spec.proofs.RunPointer.{offset_step}
use Rattle.spec.proofs.RunSelect.{select_step}
use Rattle.spec.proofs.RunParts.{types_of, type_is, parts_of, part_type_is, have_parts, part_typed, all_typed, extract_step, insert_step}
use Rattle.spec.proofs.RunAfters.{number_after, pointer_after, flag_after, retyped}
use Rattle.spec.proofs.RunConverting.{conversion_step}
use Rattle.spec.proofs.RunOperations.{found, found_map, Lowers, boolean_case, integer_case, null_case, static_case, function_case, address_case, read_case, unary_case, binary_case, compare_case}

-- whether x is 0 is whether y is
pub record Decides (G : Given) (T : Tables) (n : ℕ) (M : Memory) (y : ℕ) (b : BitOperand) (n' : ℕ) (M' : Memory) : Type 0 where
  pub x : ℕ
  pub same : eqb x 0 ≡ eqb y 0
  pub bit : Bit G T n M x b n' M'

zero_again : (w a : ℕ) → eqb (ine w a 0) 0 ≡ eqb a 0
unfolding ine
zero_again w a = go (eqb a 0)
  where
    go : (b : Bool) → eqb (truth (not b)) 0 ≡ b
    go true = refl
    go false = refl

pick_not : {A : Type 0} (b : Bool) (x y : A) → pick b y x ≡ pick (not b) x y
pick_not true x y = refl
pick_not false x y = refl

module _ (G : Given) (T : Tables) (R : TypesRight T) (N : NeedsOf T) (n₀ : ℕ) (older : length T.storages ≤ n₀) (M₀ : Memory) (P : Proper M₀) where
  abbrev Rightly : Expr → Type 0
  Rightly e = Lowers G T R N n₀ older M₀ P e

  pub convert_case : (h : At) (op : ConversionOp) (e : Expr) → typed T (convert h op e) ≡ true → (typed T e ≡ true → Rightly e) → Rightly (convert h op e)
  unfolding typed eval lower_expression
  convert_case h op e t ih d v n M z a =
      let t₁ = both _ _ t in
      let s = found (eval T G M₀ e) _ v in
      ◌then◌ G (ih t₁.1 s.it s.is n M z a) (conversion_step G T R h op (type_of e) h.ty s.it t₁.0 s.goes)

  -- ------------------------------------------------------------ select

  condition_step : {n : ℕ} {M : Memory} {m : Lower Value} {d : Data} (h : At) (t : ℕ) → eqb t 0 || is_bits T t ≡ true → From G n M m (Gives T n M t d)
      → From G n M (as_bit T h m) (Decides G T n M (number_in d))
  unfolding as_bit
  condition_step {n} {M} {m} {d} h t e p = either (eqb t 0) (is_bits T t) e
      (λ b. ◌then◌ G p (flag_after G T R (eqb-true t 0 b) (λ c n₁ M₁ l₁ a₁ l f₁.
      owned G h (weaken G (bit_as_bit G T 0 f₁) (λ o n' M' q. record { x = number_in d; same = refl; bit = from l₁ a₁ q })))))
      (λ b. (let B = bits_of_test T R t b in ◌then◌ G p (number_after G T refl B (λ bs n₁ M₁ l₁ a₁ w₁.
      owned G h (weaken G (number_as_bit G T bs t B w₁) (λ o n' M' q. record { x = _; same = zero_again (width T t) (number_in d); bit = from l₁ a₁ q }))))))
    where
      from : {n₁ n' x : ℕ} {M₁ M' : Memory} {o : BitOperand} → n ≤ n₁ → Agree n M M₁ → Bit G T n₁ M₁ x o n' M' → Bit G T n M x o n' M'
      from l a q = record { later = le_trans l q.later; agree = agree_trans l a q.agree; fixed = q.fixed }

  pub select_case : (h : At) (x y c : Expr) → typed T (select h x y c) ≡ true
      → (typed T x ≡ true → Rightly x) → (typed T y ≡ true → Rightly y) → (typed T c ≡ true → Rightly c) → Rightly (select h x y c)
  unfolding typed eval lower_expression
  select_case h x y c t ix iy ic d v n M z a =
      let t₆ = both _ _ t in
      let t₅ = both _ _ t₆.0 in
      let t₄ = both _ _ t₅.0 in
      let t₃ = both _ _ t₄.0 in
      let t₂ = both _ _ t₃.0 in
      let s = found (eval T G M₀ x) _ v in
      let u = found (eval T G M₀ y) _ s.goes in
      let w = found (eval T G M₀ c) _ u.goes in
      let ex : type_of x ≡ h.ty = eqb-true _ _ t₂.0 in
      let ey : type_of y ≡ h.ty = eqb-true _ _ t₂.1 in
      rw (← same_Some _ _ w.goes)
      (◌then◌ G (ix t₄.1 s.it s.is n M z a) (record {
        go = λ p n₁ M₁ k₁.
            ◌then◌ G (iy t₅.1 u.it u.is n₁ M₁ (le_trans z k₁.later) (agree_trans z a k₁.agree)) (record {
              go = λ q n₂ M₂ k₂.
                  ◌then◌ G (condition_step h (type_of c) t₃.1 (ic t₆.1 w.it w.is n₂ M₂ (le_trans z (le_trans k₁.later k₂.later))
                  (agree_trans z a (agree_trans k₁.later k₁.agree k₂.agree)))) (record {
                    go = λ b n₃ M₃ k₃. (
                        let k = k₃.bit in
                        owned G h (rebased G (le_trans k₁.later (le_trans k₂.later k.later)) (agree_trans k₁.later k₁.agree (agree_trans k₂.later k₂.agree k.agree))
                        (rw (ap (λ (b : Bool). pick b u.it s.it) k₃.same ∙ pick_not (eqb (number_in w.it) 0) s.it u.it) at
                        (select_step G T R h.ty p q k.fixed
                        (denotes_later (le_trans k₂.later k.later) (agree_trans k₂.later k₂.agree k.agree) k₁.denotes) (denotes_later k.later k.agree k₂.denotes)
                        (rw ex at k₁.has) (rw ey at k₂.has)))));
                  });
            });
      }))

  -- ------------------------------------------------------------ a pointer plus an offset

  pub offset_case : (h : At) (b o : Expr) → typed T (pointer_offset h b o) ≡ true
      → (typed T b ≡ true → Rightly b) → (typed T o ≡ true → Rightly o) → Rightly (pointer_offset h b o)
  unfolding typed eval lower_expression
  offset_case h b o t ib io d v n M z a =
      let t₅ = both _ _ t in
      let t₄ = both _ _ t₅.0 in
      let t₃ = both _ _ t₄.0 in
      let t₂ = both _ _ t₃.0 in
      let B = bits_of_test T R (type_of o) t₃.1 in
      let s = found (eval T G M₀ b) _ v in
      let u = found (eval T G M₀ o) _ s.goes in
      rw (← same_Some _ _ u.goes)
      (◌then◌ G (ib t₄.1 s.it s.is n M z a) (pointer_after G T R (eqb-true _ _ t₂.1) (λ ls n₁ M₁ l₁ a₁ w₁.
      ◌then◌ G (io t₅.1 u.it u.is n₁ M₁ (le_trans z l₁) (agree_trans z a a₁)) (number_after G T refl B (λ rs n₂ M₂ l₂ a₂ w₂.
      owned G h (rebased G (le_trans l₁ l₂) (agree_trans l₁ a₁ a₂) (retyped G T (sym (eqb-true h.ty 1 t₂.0))
      (offset_step G T R ls rs 1 (type_of o) (word_later l₂ a₂ w₁) w₂))))))))

  -- ------------------------------------------------------------ aggregates

  abbrev pub AllRightly : Exprs → Type 0
  AllRightly es = (ds : Datas) → evals T G M₀ es ≡ Some ds → (n : ℕ) (M : Memory) → n₀ ≤ n → Agree n₀ M₀ M
      → From G n M (lower_expressions T es) (GivesAll T n M (types_of es) ds)

  pub aggregate_case : (h : At) (es : Exprs) → typed T (aggregate h es) ≡ true → (parts_typed T es h.ty 0 ≡ true → AllRightly es) → Rightly (aggregate h es)
  unfolding typed eval lower_expression
  aggregate_case h es t ih d v n M z a =
      let t₁ = both (has_parts (type_at T h.ty).word) (parts_typed T es h.ty 0) t in
      let s = found_map parts (evals T G M₀ es) v in
      let e = all_typed T es h.ty 0 (parts_of T h.ty) (λ j. ap (part_type T h.ty) (let y : 0 + j ≡ j = omega arith in y) ∙ part_type_is T h.ty j) t₁.1 in
      rw (← s.same) (◌then◌ G (ih t₁.1 s.it s.is n M z a) (gathered G T (λ q. have_parts T h.ty t₁.0 (rw e at q))))

  pub nothing_case : AllRightly no_exprs
  unfolding evals lower_expressions
  nothing_case ds v n M z a = rw (← same_Some _ _ v) (nothing_read G T)

  pub more_case : (e : Expr) (es : Exprs) (ty i : ℕ) → parts_typed T (e ∷ᵉ es) ty i ≡ true
      → (typed T e ≡ true → Rightly e) → (parts_typed T es ty (suc i) ≡ true → AllRightly es) → AllRightly (e ∷ᵉ es)
  unfolding evals lower_expressions
  more_case e es ty i t ih ihs ds v n M z a =
      let p = part_typed T e es ty i t in
      let s = found (eval T G M₀ e) _ v in
      let u = found_map _ (evals T G M₀ es) s.goes in
      rw (← u.same) (◌then◌ G (ih p.1 s.it s.is n M z a) (one_more G T (λ n₁ M₁ l₁ a₁. ihs p.2 u.it u.is n₁ M₁ (le_trans z l₁) (agree_trans z a a₁))))

  pub extract_case : (h : At) (e : Expr) (i : ℕ) → typed T (extract_element h e i) ≡ true → (typed T e ≡ true → Rightly e) → Rightly (extract_element h e i)
  unfolding typed eval lower_expression
  extract_case h e i t ih d v n M z a =
      let t₁ = both _ _ t in
      let s = found (eval T G M₀ e) _ v in
      let k = sym (part_type_is T (type_of e) i) ∙ type_is (part_type T (type_of e) i) h.ty t₁.0 in
      ◌then◌ G (ih t₁.1 s.it s.is n M z a) (record {
        go = λ u n₁ M₁ g.
            owned G h (rebased G g.later g.agree (extract_step G T u i g.denotes g.has k s.goes));
      })

  pub insert_case : (h : At) (e : Expr) (i : ℕ) (w : Expr) → typed T (insert_element h e i w) ≡ true
      → (typed T e ≡ true → Rightly e) → (typed T w ≡ true → Rightly w) → Rightly (insert_element h e i w)
  unfolding typed eval lower_expression
  insert_case h e i w t ie iw d v n M z a =
      let t₄ = both _ _ t in
      let t₃ = both _ _ t₄.0 in
      let t₂ = both _ _ t₃.0 in
      let s = found (eval T G M₀ e) _ v in
      let u = found (eval T G M₀ w) _ s.goes in
      let x = found_map parts (set_part (parts_in s.it) i (type_of w) u.it) u.goes in
      let k = sym (part_type_is T h.ty i) ∙ type_is (part_type T h.ty i) (type_of w) t₂.1 in
      let q : type_of e ≡ h.ty = eqb-true _ _ t₂.0 in
      rw (← x.same)
      (◌then◌ G (ie t₃.1 s.it s.is n M z a) (record {
        go = λ p n₁ M₁ k₁.
            ◌then◌ G (iw t₄.1 u.it u.is n₁ M₁ (le_trans z k₁.later) (agree_trans z a k₁.agree)) (record {
              go = λ r n₂ M₂ k₂.
                  owned G h (rebased G (le_trans k₁.later k₂.later) (agree_trans k₁.later k₁.agree k₂.agree)
                  (insert_step G T p r i x.it (denotes_later k₂.later k₂.agree k₁.denotes) (rw q at k₁.has) k k₂.has k₂.typed k₂.denotes x.is));
            });
      }))

  -- ------------------------------------------------------------ the induction

  mutual
    unfolding typed bools_in_range in_order

    pub rightly : (e : Expr) → typed T e ≡ true → bools_in_range e ≡ true → in_order T M₀ e ≡ true → Rightly e
    rightly (boolean h b) t s o = boolean_case G T R N n₀ older M₀ P h b t s
    rightly (integer h v) t s o = integer_case G T R N n₀ older M₀ P h v t o
    rightly (float32 h v) t s o = never_true t
    rightly (float64 h v) t s o = never_true t
    rightly (null_pointer h) t s o = null_case G T R N n₀ older M₀ P h t
    rightly (static_address h k x) t s o = static_case G T R N n₀ older M₀ P h k x t
    rightly (function_address h f) t s o = function_case G T R N n₀ older M₀ P h f t
    rightly (read h p) t s o = read_case G T R N n₀ older M₀ P h p o
    rightly (integer_unary h op e) t s o = unary_case G T R N n₀ older M₀ P h op e t (λ q. rightly e q s o)
    rightly (integer_binary h op l r) t s o =
        let s₁ = both _ _ s in
        let o₁ = both _ _ o in
        binary_case G T R N n₀ older M₀ P h op l r t (λ q. rightly l q s₁.0 o₁.0) (λ q. rightly r q s₁.1 o₁.1)
    rightly (float_unary h e) t s o = never_true t
    rightly (float_binary h l r) t s o = never_true t
    rightly (compare h op l r) t s o =
        let s₁ = both _ _ s in
        let o₁ = both _ _ o in
        compare_case G T R N n₀ older M₀ P h op l r t (λ q. rightly l q s₁.0 o₁.0) (λ q. rightly r q s₁.1 o₁.1)
    rightly (convert h op e) t s o = convert_case h op e t (λ q. rightly e q s o)
    rightly (select h x y c) t s o =
        let s₁ = both _ _ s in
        let s₂ = both _ _ s₁.0 in
        let o₁ = both _ _ o in
        let o₂ = both _ _ o₁.0 in
        select_case h x y c t (λ q. rightly x q s₂.0 o₂.0) (λ q. rightly y q s₂.1 o₂.1) (λ q. rightly c q s₁.1 o₁.1)
    rightly (address_of h p) t s o = address_case G T R N n₀ older M₀ P h p t
    rightly (pointer_offset h b x) t s o =
        let s₁ = both _ _ s in
        let o₁ = both _ _ o in
        offset_case h b x t (λ q. rightly b q s₁.0 o₁.0) (λ q. rightly x q s₁.1 o₁.1)
    rightly (aggregate h es) t s o = aggregate_case h es t (λ q. all_rightly es h.ty 0 q s o)
    rightly (extract_element h e i) t s o = extract_case h e i t (λ q. rightly e q s o)
    rightly (insert_element h e i w) t s o =
        let s₁ = both _ _ s in
        let o₁ = both _ _ o in
        insert_case h e i w t (λ q. rightly e q s₁.0 o₁.0) (λ q. rightly w q s₁.1 o₁.1)

    pub all_rightly : (es : Exprs) (ty i : ℕ) → parts_typed T es ty i ≡ true → all_bools_in_range es ≡ true → all_in_order T M₀ es ≡ true → AllRightly es
    all_rightly no_exprs ty i t s o = nothing_case
    all_rightly (e ∷ᵉ es) ty i t s o =
        let s₁ = both _ _ s in
        let o₁ = both _ _ o in
        more_case e es ty i t (λ q. rightly e q s₁.0 o₁.0) (λ q. all_rightly es ty (suc i) q s₁.1 o₁.1)
