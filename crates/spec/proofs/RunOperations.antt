-- Each kind of expression over operands that are lowered rightly: what an accepted lowering leaves is what the expression means.
use Prim.Native.Nat.{ℕ, zero, suc, ◌/◌, ◌%◌, ◌^◌, ◌≤◌, ◌<◌}
use mathlib.Core.Bool.{Bool, true}
use mathlib.Core.List.{List, [], ◌∷◌}
use Rattle.std.specs.Prelude.{Option, None, Some}
use Rattle.std.proofs.lemmas.Option.{none-some, same_Some}
use mathlib.Core.Path.{◌≡◌, refl, sym, ap, ◌∙◌}
use native.Mathlib.Omega.{arith}
use native.Mathlib.Nat.{le_trans}
use lib.Dec.{leb}
use borrow.Author.Tests.{eqb-true, leb-true, ltb-true}
use lib.ListN.{length}
use Rattle.spec.specs.Limits.{type_depth_limit}
use Rattle.spec.specs.Hir.{At, Expr, boolean, integer, null_pointer, static_address, function_address, read, integer_unary, integer_binary, compare, address_of, Place, IntegerUnaryOp, IntegerBinaryOp, CompareOp}
use Rattle.spec.specs.Ticket.{Tables}
use Rattle.spec.specs.Readable.{TypesRight}
use Rattle.spec.specs.Lir.{immediate, value, bytes_value}
use Rattle.spec.specs.Operands.{integer_bytes, nth}
use Rattle.spec.specs.Allocation.{type_size}
use Rattle.spec.specs.Lower.{lower_integer, lower_expression}
use Rattle.spec.specs.Machine.{Memory, Proper, Given, bytes_of, operands}
use Rattle.spec.specs.Typed.{type_of, width, typed}
use Rattle.spec.specs.Eval.{Data, flag, number, number_in, binary_numeric, compare_numeric, eval, based, read_data, read_inside, fits, in_order}
use Rattle.spec.proofs.RunLogic.{both}
use Rattle.spec.proofs.RunWords.{size}
use Rattle.spec.proofs.RunFrames.{Agree, agree_trans}
use Rattle.spec.proofs.RunHoare.{From, ◌then◌, ◌next◌, ending, purely, at_it, requiring, owned}
use Rattle.spec.proofs.RunTyping.{IsBits, has_bits, has_bool, by_width, bits_of_test, has_pointer}
use Rattle.spec.proofs.RunValues.{of_bit, of_bytes, Gives, here, rebased, word_later}
use Rattle.spec.proofs.RunBinary.{binary_step}
use Rattle.spec.proofs.RunUnary.{unary_step, compare_step}
use Rattle.spec.specs.RunNeeds.{NeedsOf, bools_in_range}
use Rattle.spec.proofs.RunPlaces.{read_step}
use Rattle.spec.proofs.RunPointer.{function_step, static_step, address_of_step}
use Rattle.spec.proofs.RunAfters.{number_after, retyped}

-- ---------------------------------------------------------------- the meaning's own chaining of options

abbrev chained : {A B : Type 0} → Option A → (A → Option B) → Option B
chained None f = None
chained (Some a) f = f a

abbrev mapped : {A B : Type 0} → (A → B) → Option A → Option B
mapped f None = None
mapped f (Some a) = Some (f a)

pub record Found {A B : Type 0} (x : Option A) (f : A → Option B) (b : B) : Type 0 where
  pub it : A
  pub is : x ≡ Some it
  pub goes : f it ≡ Some b

pub found : {A B : Type 0} (x : Option A) (f : A → Option B) {b : B} → chained x f ≡ Some b → Found x f b
found None f {b} e = absurd (none-some b e)
found (Some a) f e = record { it = a; is = refl; goes = e }

pub record Mapped {A B : Type 0} (f : A → B) (x : Option A) (b : B) : Type 0 where
  pub it : A
  pub is : x ≡ Some it
  pub same : f it ≡ b

pub found_map : {A B : Type 0} (f : A → B) (x : Option A) {b : B} → mapped f x ≡ Some b → Mapped f x b
found_map f None {b} e = absurd (none-some b e)
found_map f (Some a) e = record { it = a; is = refl; same = cc }

module _ (G : Given) (T : Tables) (R : TypesRight T) (N : NeedsOf T) (n₀ : ℕ) (older : length T.storages ≤ n₀) (M₀ : Memory) (P : Proper M₀) where
  -- lowered later, with the older storages as they were at the start, it gives what it means at the start
  abbrev pub Lowers : Expr → Type 0
  Lowers e = (d : Data) → eval T G M₀ e ≡ Some d → (n : ℕ) (M : Memory) → n₀ ≤ n → Agree n₀ M₀ M → From G n M (lower_expression T e) (Gives T n M (type_of e) d)

  -- ------------------------------------------------------------ leaves

  pub boolean_case : (h : At) (b : ℕ) → typed T (boolean h b) ≡ true → bools_in_range (boolean h b) ≡ true → Lowers (boolean h b)
  unfolding typed bools_in_range eval lower_expression
  boolean_case h b t s d v n M z a =
      let k : flag b ≡ d = same_Some _ _ v in
      let e : h.ty ≡ 0 = eqb-true h.ty 0 t in
      let l : b < 2 = omega (arith, leb-true b 1 s) in
      rw (← k) (ending G (purely G _) (here (rw e (has_bool R.bool_first l)) (of_bit (record { holds = λ M' q. refl }))))

  integer_operands : (k v : ℕ) (M : Memory) → operands M (integer_bytes v k) ≡ bytes_of k v
  unfolding integer_bytes bytes_of
  integer_operands zero v M = refl
  integer_operands (suc k) v M = ap (λ (l : List ℕ). v % 256 ∷ l) (integer_operands k (v / 256) M)

  integer_step : {w ty : ℕ} (v : ℕ) → IsBits T ty w → v < 2 ^ w → (n : ℕ) (M : Memory) → From G n M (lower_integer T v ty) (Gives T n M ty (number (size w) v))
  unfolding lower_integer type_size
  integer_step {w} {ty} v B l n M = rw B.sized
      (◌next◌ G (requiring G 26 (leb (size w) 16)) (at_it G (ending G (purely G (value ty (bytes_value (integer_bytes v (size w)))))
      (here (has_bits T B l) (of_bytes (record { holds = λ M' q. integer_operands (size w) v M' }))))))

  fits_width : {w : ℕ} (ty v : ℕ) → IsBits T ty w → fits T type_depth_limit ty (number 0 v) ≡ true → v < 2 ^ w
  unfolding fits
  fits_width ty v B f = ltb-true _ _ (rw (B.word, B.wide) at f)

  pub integer_case : (h : At) (v : ℕ) → typed T (integer h v) ≡ true → in_order T M₀ (integer h v) ≡ true → Lowers (integer h v)
  unfolding typed in_order eval lower_expression
  integer_case h v t o d e n M z a =
      let B = bits_of_test T R h.ty t in
      rw (← by_width T B (same_Some _ _ e)) (owned G h (integer_step v B (fits_width h.ty v B o) n M))

  zeros : (M : Memory) → operands M (immediate 0 ∷ immediate 0 ∷ []) ≡ bytes_of 2 0
  unfolding bytes_of
  zeros M = refl

  pub null_case : (h : At) → typed T (null_pointer h) ≡ true → Lowers (null_pointer h)
  unfolding typed eval lower_expression
  null_case h t d v n M z a =
      let k : number 2 0 ≡ d = same_Some _ _ v in
      let e : h.ty ≡ 1 = eqb-true h.ty 1 t in
      rw (← k) (ending G (purely G _) (here (rw e (has_pointer T R 0 (omega arith))) (of_bytes (record { holds = λ M' q. zeros M' }))))

  pub static_case : (h : At) (k o : ℕ) → typed T (static_address h k o) ≡ true → Lowers (static_address h k o)
  unfolding typed eval lower_expression
  static_case h k o t d v n M z a =
      let s = found (nth T.statics k) _ v in
      rw (← same_Some _ _ s.goes) (owned G h (retyped G T (sym (eqb-true h.ty 1 t)) (static_step G T R k o s.it s.is)))

  pub function_case : (h : At) (f : ℕ) → typed T (function_address h f) ≡ true → Lowers (function_address h f)
  unfolding typed eval lower_expression
  function_case h f t d v n M z a = rw (← same_Some _ _ v) (owned G h (retyped G T (sym (eqb-true h.ty 1 t)) (function_step G T R f)))

  pub address_case : (h : At) (p : Place) → typed T (address_of h p) ≡ true → Lowers (address_of h p)
  unfolding typed eval lower_expression
  address_case h p t d v n M z a =
      let s = found (based T p) _ v in
      rw (← same_Some _ _ s.goes) (owned G h (retyped G T (sym (eqb-true h.ty 1 t)) (address_of_step G T R N p s.it s.is)))

  -- the meaning's own test of what is read
  abbrev fits_by : ℕ → Option Data → Bool
  fits_by ty None = true
  fits_by ty (Some d) = fits T type_depth_limit ty d

  pub read_case : (h : At) (p : Place) → in_order T M₀ (read h p) ≡ true → Lowers (read h p)
  unfolding in_order eval lower_expression
  read_case h p o d v n M z a =
      let f = both (read_inside T p h.ty) (fits_by h.ty (read_data T M₀ p h.ty)) o in
      owned G h (read_step G T R N M₀ P p h.ty d older v (ap (fits_by h.ty) (sym v) ∙ f.1) n M z a)

  -- ------------------------------------------------------------ operations

  pub unary_case : (h : At) (op : IntegerUnaryOp) (e : Expr) → typed T (integer_unary h op e) ≡ true → (typed T e ≡ true → Lowers e) → Lowers (integer_unary h op e)
  unfolding typed eval lower_expression
  unary_case h op e t ih d v n M z a =
      let t₁ = both _ _ t in
      let t₂ = both _ _ t₁.0 in
      let B = bits_of_test T R h.ty t₂.0 in
      let s = found (eval T G M₀ e) _ v in
      rw (← by_width T B (same_Some _ _ s.goes))
      (◌then◌ G (ih t₁.1 s.it s.is n M z a) (number_after G T (eqb-true _ _ t₂.1) B (λ bs n₁ M₁ l₁ a₁ w₁.
      owned G h (rebased G l₁ a₁ (unary_step G T h.ty B w₁ op h.ty)))))

  pub binary_case : (h : At) (op : IntegerBinaryOp) (l r : Expr) → typed T (integer_binary h op l r) ≡ true
      → (typed T l ≡ true → Lowers l) → (typed T r ≡ true → Lowers r) → Lowers (integer_binary h op l r)
  unfolding typed eval lower_expression
  binary_case h op l r t il ir d v n M z a =
      let t₅ = both _ _ t in
      let t₄ = both _ _ t₅.0 in
      let t₃ = both _ _ t₄.0 in
      let t₂ = both _ _ t₃.0 in
      let B = bits_of_test T R h.ty t₂.0 in
      let s = found (eval T G M₀ l) _ v in
      let u = found (eval T G M₀ r) _ s.goes in
      let x = found_map _ (binary_numeric op (width T h.ty) (number_in s.it) (number_in u.it)) u.goes in
      rw (← by_width T B x.same)
      (◌then◌ G (il t₄.1 s.it s.is n M z a) (number_after G T (eqb-true _ _ t₂.1) B (λ ls n₁ M₁ l₁ a₁ w₁.
      ◌then◌ G (ir t₅.1 u.it u.is n₁ M₁ (le_trans z l₁) (agree_trans z a a₁)) (number_after G T (eqb-true _ _ t₃.1) B (λ rs n₂ M₂ l₂ a₂ w₂.
      owned G h (rebased G (le_trans l₁ l₂) (agree_trans l₁ a₁ a₂) (binary_step G T h.ty B (word_later l₂ a₂ w₁) w₂ op h.ty h.ty x.it x.is)))))))

  pub compare_case : (h : At) (op : CompareOp) (l r : Expr) → typed T (compare h op l r) ≡ true
      → (typed T l ≡ true → Lowers l) → (typed T r ≡ true → Lowers r) → Lowers (compare h op l r)
  unfolding typed eval lower_expression
  compare_case h op l r t il ir d v n M z a =
      let t₅ = both _ _ t in
      let t₄ = both _ _ t₅.0 in
      let t₃ = both _ _ t₄.0 in
      let t₂ = both _ _ t₃.0 in
      let B = bits_of_test T R (type_of l) t₂.1 in
      let s = found (eval T G M₀ l) _ v in
      let u = found (eval T G M₀ r) _ s.goes in
      let x = found_map _ (compare_numeric op (width T (type_of l)) (number_in s.it) (number_in u.it)) u.goes in
      rw (← x.same)
      (◌then◌ G (il t₄.1 s.it s.is n M z a) (number_after G T refl B (λ ls n₁ M₁ l₁ a₁ w₁.
      ◌then◌ G (ir t₅.1 u.it u.is n₁ M₁ (le_trans z l₁) (agree_trans z a a₁)) (number_after G T (eqb-true _ _ t₃.1) B (λ rs n₂ M₂ l₂ a₂ w₂.
      owned G h (rebased G (le_trans l₁ l₂) (agree_trans l₁ a₁ a₂) (retyped G T (sym (eqb-true h.ty 0 t₂.0))
      (compare_step G T R.bool_first (word_later l₂ a₂ w₁) w₂ op (type_of l) (type_of l) x.it B x.is))))))))
