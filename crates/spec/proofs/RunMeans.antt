-- An accepted, rightly typed expression whose reads are in order has a meaning, where no division or remainder is undefined.
use Prim.Native.Nat.{ℕ, suc, ◌≤◌}
use mathlib.Core.Bool.{true}
use Rattle.std.specs.Prelude.{Some}
use mathlib.Core.Path.{◌≡◌, sym, ◌∙◌}
use native.Mathlib.Nat.{le_trans}
use borrow.Author.Tests.{eqb-true}
use lib.ListN.{length}
use Rattle.spec.specs.Hir.{At, Expr, boolean, integer, float32, float64, null_pointer, static_address, function_address, read, integer_unary, integer_binary, float_unary, float_binary, compare, convert, select, address_of, pointer_offset, aggregate, extract_element, insert_element, Exprs, no_exprs, ◌∷ᵉ◌, IntegerUnaryOp, IntegerBinaryOp, CompareOp, ConversionOp}
use Rattle.spec.specs.Ticket.{Tables}
use Rattle.spec.specs.Readable.{TypesRight}
use Rattle.spec.specs.Lir.{Value, Values}
use Rattle.spec.specs.Monad.{Lower, Counters, Out, done, ◌>>=◌}
use Rattle.spec.specs.Operators.{compare_op}
use Rattle.spec.specs.Lower.{as_bit, lower_expression, lower_expressions}
use Rattle.spec.specs.Machine.{Memory, Proper, Given}
use Rattle.spec.specs.Typed.{type_of, width, part_type, conversion_typed, typed, parts_typed}
use Rattle.spec.specs.Eval.{Data, Datas, number_in, read_data, eval, evals, in_order, all_in_order}
use Rattle.spec.specs.RunNeeds.{NeedsOf, bools_in_range, all_bools_in_range}
use Rattle.spec.proofs.RunLogic.{both, never_true}
use Rattle.spec.proofs.RunFrames.{agree_refl}
use Rattle.spec.proofs.RunHoare.{outcome}
use Rattle.spec.proofs.RunTyping.{Has}
use Rattle.spec.proofs.RunParts.{part_type_is, type_is}
use Rattle.spec.proofs.RunSeen.{owned, seen_done, parted}
use Rattle.spec.proofs.RunOperations.{Lowers}
use Rattle.spec.proofs.RunWhole.{rightly}
use Rattle.spec.proofs.RunDivides.{divided, number_of, divides, all_divide}
use Rattle.spec.proofs.RunThere.{There, there, binary_there, compare_there, convert_there, part_there, set_there, parts_there, compare_seen, static_seen, read_seen, address_seen}

module _ (G : Given) (T : Tables) (R : TypesRight T) (N : NeedsOf T) (n₀ : ℕ) (older : length T.storages ≤ n₀) (M : Memory) (P : Proper M) where
  abbrev pub Means : Expr → Type 0
  Means e = There (eval T G M e)

  -- lowered, where the next storage is no older one
  abbrev pub Shows : Expr → Type 0
  Shows e = (h : At) (c : Counters) → n₀ ≤ c.storage → (v : Value) (d : Counters) (o : Out) → lower_expression T e h c ≡ done v d o → Means e

  abbrev pub AllShow : Exprs → Type 0
  AllShow es = (h : At) (c : Counters) → n₀ ≤ c.storage → (vs : Values) (d : Counters) (o : Out) → lower_expressions T es h c ≡ done vs d o → There (evals T G M es)

  -- an operand that is lowered: its meaning, of its type, and where the next storage is then
  record Operand (e : Expr) (c : Counters) : Type 0 where
    pub it : Data
    pub is : eval T G M e ≡ Some it
    pub has : Has T (type_of e) it
    pub next : n₀ ≤ c.storage

  abbrev Left : Expr → Type 0
  Left e = (h : At) (c : Counters) → n₀ ≤ c.storage → (v : Value) (d : Counters) (o : Out) → lower_expression T e h c ≡ done v d o → Operand e d

  operand : (e : Expr) → Lowers G T R N n₀ older M P e → Shows e → Left e
  operand e l s h c z v d o q =
      let m = s h c z v d o q in
      let k = (outcome G (l m.it m.is c.storage M z agree_refl) h c.temporary v d o q).left in
      record { it = m.it; is = m.is; has = k.has; next = le_trans z k.later }

  left : (e : Expr) → typed T e ≡ true → bools_in_range e ≡ true → in_order T M e ≡ true → Shows e → Left e
  left e t s o = operand e (rightly G T R N n₀ older M P e t s o)

  -- two operands, and what is lowered of their values
  record Pair {A : Type 0} (l r : Expr) (f : Value → Value → Lower A) (h : At) (v : A) : Type 0 where
    pub x : Data
    pub y : Data
    pub is_x : eval T G M l ≡ Some x
    pub is_y : eval T G M r ≡ Some y
    pub has : Has T (type_of l) x
    pub a : Value
    pub b : Value
    pub after : Counters
    pub end : Counters
    pub rest : Out
    pub goes : f a b h after ≡ done v end rest

  pair : {A : Type 0} (l r : Expr) (f : Value → Value → Lower A) → Left l → Shows r → (h : At) (c : Counters) → n₀ ≤ c.storage → {v : A} {d : Counters} {o : Out}
      → (lower_expression T l >>= (λ a. lower_expression T r >>= (λ b. f a b))) h c ≡ done v d o → Pair l r f h v
  pair l r f left shows h c z q =
      let s = parted (lower_expression T l) _ q in
      let t = parted (lower_expression T r) _ s.goes in
      let m = left h c z s.it s.after s.out s.is in
      let k = shows h s.after m.next t.it t.after t.out t.is in
      record {
        x = m.it;
        y = k.it;
        is_x = m.is;
        is_y = k.is;
        has = m.has;
        a = s.it;
        b = t.it;
        after = t.after;
        end = t.end;
        rest = t.rest;
        goes = t.goes;
      }

  -- ------------------------------------------------------------ of the operands' meanings

  unary_means : (h : At) (op : IntegerUnaryOp) (e : Expr) (x : Data) → eval T G M e ≡ Some x → Means (integer_unary h op e)
  unfolding eval
  unary_means h op e x a = rw a there

  binary_means : (h : At) (op : IntegerBinaryOp) (l r : Expr) (x y : Data) → eval T G M l ≡ Some x → eval T G M r ≡ Some y
      → divided op (width T h.ty) (number_of (eval T G M l)) (number_of (eval T G M r)) ≡ true → Means (integer_binary h op l r)
  unfolding eval
  binary_means h op l r x y e f d = let w = binary_there op (width T h.ty) (number_in x) (number_in y) (rw (e, f) at d) in rw (e, f, w.is) there

  compare_means : (h : At) (op : CompareOp) (l r : Expr) (x y : Data) → eval T G M l ≡ Some x → eval T G M r ≡ Some y
      → There (compare_op op) → Means (compare h op l r)
  unfolding eval
  compare_means h op l r x y e f c = let w = compare_there op (width T (type_of l)) (number_in x) (number_in y) c in rw (e, f, w.is) there

  convert_means : (h : At) (op : ConversionOp) (e : Expr) (x : Data) → eval T G M e ≡ Some x → conversion_typed T op (type_of e) h.ty ≡ true → Means (convert h op e)
  unfolding eval
  convert_means h op e x a t = let w = convert_there T op (type_of e) h.ty x t in rw (a, w.is) there

  select_means : (h : At) (a b c : Expr) (x y z : Data) → eval T G M a ≡ Some x → eval T G M b ≡ Some y → eval T G M c ≡ Some z → Means (select h a b c)
  unfolding eval
  select_means h a b c x y z p q r = rw (p, q, r) there

  offset_means : (h : At) (b o : Expr) (x y : Data) → eval T G M b ≡ Some x → eval T G M o ≡ Some y → Means (pointer_offset h b o)
  unfolding eval
  offset_means h b o x y p q = rw (p, q) there

  aggregate_means : (h : At) (es : Exprs) (ds : Datas) → evals T G M es ≡ Some ds → Means (aggregate h es)
  unfolding eval
  aggregate_means h es ds p = rw p there

  more_means : (e : Expr) (es : Exprs) (x : Data) (ds : Datas) → eval T G M e ≡ Some x → evals T G M es ≡ Some ds → There (evals T G M (e ∷ᵉ es))
  unfolding evals
  more_means e es x ds p q = rw (p, q) there

  extract_means : (h : At) (e : Expr) (i : ℕ) (x : Data) → eval T G M e ≡ Some x → Has T (type_of e) x → part_type T (type_of e) i ≡ Some h.ty
      → Means (extract_element h e i)
  unfolding eval
  extract_means h e i x a q p =
      let p' = sym (part_type_is T (type_of e) i) ∙ p in
      let w = part_there T i (parts_there T i q p') p' in
      rw (a, w.is) there

  insert_means : (h : At) (e : Expr) (i : ℕ) (w : Expr) (x y : Data) → eval T G M e ≡ Some x → eval T G M w ≡ Some y
      → type_of e ≡ h.ty → Has T (type_of e) x → part_type T h.ty i ≡ Some (type_of w) → Means (insert_element h e i w)
  unfolding eval
  insert_means h e i w x y a b t q p =
      let p' = sym (part_type_is T h.ty i) ∙ p in
      let j = set_there T i (type_of w) y (parts_there T i (rw t at q) p') p' in
      rw (a, b, j.is) there

  mutual
    unfolding typed parts_typed bools_in_range all_bools_in_range in_order all_in_order divides all_divide lower_expression lower_expressions eval evals read_data as_bit

    pub means : (e : Expr) → typed T e ≡ true → bools_in_range e ≡ true → in_order T M e ≡ true → divides T G M e ≡ true → Shows e
    means (boolean h b) t s o d H c z v c' u q = there
    means (integer h n) t s o d H c z v c' u q = there
    means (float32 h n) t s o d H c z v c' u q = never_true t
    means (float64 h n) t s o d H c z v c' u q = never_true t
    means (null_pointer h) t s o d H c z v c' u q = there
    means (static_address h k n) t s o d H c z v c' u q = let x = seen_done (owned h (static_seen T k n)) H c v c' u q in rw x.is there
    means (function_address h f) t s o d H c z v c' u q = there
    means (read h p) t s o d H c z v c' u q = let x = seen_done (owned h (read_seen T N p h.ty)) H c v c' u q in rw x.is there
    means (integer_unary h op e) t s o d H c z v c' u q =
        let t₁ = both _ _ t in
        let x = parted (lower_expression T e) _ q in
        let m = means e t₁.1 s o d H c z x.it x.after x.out x.is in
        unary_means h op e m.it m.is
    means (integer_binary h op l r) t s o d H c z v c' u q =
        let t₂ = both _ _ t in
        let t₁ = both _ _ t₂.0 in
        let s₁ = both _ _ s in
        let o₁ = both _ _ o in
        let d₂ = both _ _ d in
        let d₁ = both _ _ d₂.0 in
        let p = pair l r _ (left l t₁.1 s₁.0 o₁.0 (means l t₁.1 s₁.0 o₁.0 d₁.0)) (means r t₂.1 s₁.1 o₁.1 d₁.1) H c z q in
        binary_means h op l r p.x p.y p.is_x p.is_y d₂.1
    means (float_unary h e) t s o d H c z v c' u q = never_true t
    means (float_binary h l r) t s o d H c z v c' u q = never_true t
    means (compare h op l r) t s o d H c z v c' u q =
        let t₂ = both _ _ t in
        let t₁ = both _ _ t₂.0 in
        let s₁ = both _ _ s in
        let o₁ = both _ _ o in
        let d₁ = both _ _ d in
        let p = pair l r _ (left l t₁.1 s₁.0 o₁.0 (means l t₁.1 s₁.0 o₁.0 d₁.0)) (means r t₂.1 s₁.1 o₁.1 d₁.1) H c z q in
        compare_means h op l r p.x p.y p.is_x p.is_y (seen_done (owned h (compare_seen T op p.a p.b)) H p.after v p.end p.rest p.goes)
    means (convert h op e) t s o d H c z v c' u q =
        let t₁ = both _ _ t in
        let x = parted (lower_expression T e) _ q in
        let m = means e t₁.1 s o d H c z x.it x.after x.out x.is in
        convert_means h op e m.it m.is t₁.0
    means (select h a b e) t s o d H c z v c' u q =
        let t₃ = both _ _ t in
        let t₂ = both _ _ t₃.0 in
        let t₁ = both _ _ t₂.0 in
        let s₂ = both _ _ s in
        let s₁ = both _ _ s₂.0 in
        let o₂ = both _ _ o in
        let o₁ = both _ _ o₂.0 in
        let d₂ = both _ _ d in
        let d₁ = both _ _ d₂.0 in
        let x = parted (lower_expression T a) _ q in
        let y = parted (lower_expression T b) _ x.goes in
        let w = parted (as_bit T h (lower_expression T e)) _ y.goes in
        let f = parted (lower_expression T e) _ w.is in
        let m = left a t₁.1 s₁.0 o₁.0 (means a t₁.1 s₁.0 o₁.0 d₁.0) H c z x.it x.after x.out x.is in
        let k = left b t₂.1 s₁.1 o₁.1 (means b t₂.1 s₁.1 o₁.1 d₁.1) H x.after m.next y.it y.after y.out y.is in
        let j = means e t₃.1 s₂.1 o₂.1 d₂.1 H y.after k.next f.it f.after f.out f.is in
        select_means h a b e m.it k.it j.it m.is k.is j.is
    means (address_of h p) t s o d H c z v c' u q = let x = seen_done (owned h (address_seen T N p)) H c v c' u q in rw x.is there
    means (pointer_offset h l r) t s o d H c z v c' u q =
        let t₂ = both _ _ t in
        let t₁ = both _ _ t₂.0 in
        let s₁ = both _ _ s in
        let o₁ = both _ _ o in
        let d₁ = both _ _ d in
        let p = pair l r _ (left l t₁.1 s₁.0 o₁.0 (means l t₁.1 s₁.0 o₁.0 d₁.0)) (means r t₂.1 s₁.1 o₁.1 d₁.1) H c z q in
        offset_means h l r p.x p.y p.is_x p.is_y
    means (aggregate h es) t s o d H c z v c' u q =
        let t₁ = both _ _ t in
        let x = parted (lower_expressions T es) _ q in
        let m = all_mean es h.ty 0 t₁.1 s o d H c z x.it x.after x.out x.is in
        aggregate_means h es m.it m.is
    means (extract_element h e i) t s o d H c z v c' u q =
        let t₁ = both _ _ t in
        let x = parted (lower_expression T e) _ q in
        let m = left e t₁.1 s o (means e t₁.1 s o d) H c z x.it x.after x.out x.is in
        extract_means h e i m.it m.is m.has (type_is (part_type T (type_of e) i) h.ty t₁.0)
    means (insert_element h e i w) t s o d H c z v c' u q =
        let t₃ = both _ _ t in
        let t₂ = both _ _ t₃.0 in
        let t₁ = both _ _ t₂.0 in
        let s₁ = both _ _ s in
        let o₁ = both _ _ o in
        let d₁ = both _ _ d in
        let p = pair e w _ (left e t₂.1 s₁.0 o₁.0 (means e t₂.1 s₁.0 o₁.0 d₁.0)) (means w t₃.1 s₁.1 o₁.1 d₁.1) H c z q in
        insert_means h e i w p.x p.y p.is_x p.is_y (eqb-true (type_of e) h.ty t₁.0) p.has (type_is (part_type T h.ty i) (type_of w) t₁.1)

    all_mean : (es : Exprs) (ty i : ℕ) → parts_typed T es ty i ≡ true → all_bools_in_range es ≡ true → all_in_order T M es ≡ true
        → all_divide T G M es ≡ true → AllShow es
    all_mean no_exprs ty i t s o d H c z vs c' u q = there
    all_mean (e ∷ᵉ es) ty i t s o d H c z vs c' u q =
        let t₂ = both _ _ t in
        let t₁ = both _ _ t₂.0 in
        let s₁ = both _ _ s in
        let o₁ = both _ _ o in
        let d₁ = both _ _ d in
        let x = parted (lower_expression T e) _ q in
        let y = parted (lower_expressions T es) _ x.goes in
        let m = left e t₁.1 s₁.0 o₁.0 (means e t₁.1 s₁.0 o₁.0 d₁.0) H c z x.it x.after x.out x.is in
        let k = all_mean es ty (suc i) t₂.1 s₁.1 o₁.1 d₁.1 H x.after m.next y.it y.after y.out y.is in
        more_means e es m.it k.it m.is k.is
