-- Each conversion, by the types that it goes between.
use Prim.Native.Nat.{ℕ, ◌^◌, ◌≤◌, ◌<◌}
use mathlib.Core.Bool.{true, ◌&&◌}
use Rattle.std.specs.Prelude.{Some}
use Rattle.std.proofs.lemmas.Option.{same_Some}
use mathlib.Core.Path.{◌≡◌, refl, sym}
use native.Mathlib.Nat.{le_trans, mod-eq_of_lt}
use lib.Pow.{pow_mono}
use lib.Dec.{eqb}
use borrow.Author.Tests.{eqb-true, leb-true}
use Rattle.spec.specs.Hir.{At, ConversionOp}
use Rattle.spec.specs.Hir as hir
use Rattle.spec.specs.Ticket.{Tables}
use Rattle.spec.specs.Readable.{TypesRight}
use Rattle.spec.specs.Monad.{own}
use Rattle.spec.specs.Operators.{conversion_form}
use Rattle.spec.specs.Conversions.{lower_conversion}
use Rattle.numerics.specs.Numerics.{wrap, extend_u}
use Rattle.spec.specs.Machine.{Memory, Given}
use Rattle.spec.specs.Typed.{is_bits, width, conversion_typed}
use Rattle.spec.specs.Eval.{Data, number_in, conversion_data}
use Rattle.spec.proofs.RunLogic.{both, either, never_true}
use Rattle.spec.proofs.RunHoare.{After, owned}
use Rattle.spec.proofs.RunTyping.{Has, has_bits, bits_data, pointer_data, by_width, bits_of_test, has_pointer, pointer_size}
use Rattle.spec.proofs.RunValues.{Gives, rebased}
use Rattle.spec.proofs.RunConvert.{resize_step, sign_step, to_boolean_step, from_boolean_step, reinterpret_step}
use Rattle.spec.proofs.RunAfters.{number_after, flag_after, retyped}

-- extension keeps a number that fits the smaller width
extend_wraps : (v w a : ℕ) → a < 2 ^ v → v ≤ w → wrap v w a ≡ extend_u v w a
unfolding wrap extend_u
extend_wraps v w a h l = mod-eq_of_lt (le_trans h (pow_mono l))

module _ (G : Given) (T : Tables) (R : TypesRight T) where
  -- a type's data is that of the type that it is reinterpreted as
  reinterpreted_has : (s t : ℕ) (d : Data) → conversion_typed T hir.reinterpret s t ≡ true → Has T s d → Has T t d
  unfolding conversion_typed
  reinterpreted_has s t d e q = either _ _ e (λ e. either _ _ e same to_pointer) to_bits
    where
      same : eqb s t ≡ true → Has T t d
      same e = rw (eqb-true s t e) at q

      to_pointer : is_bits T s && eqb (width T s) 16 && eqb t 1 ≡ true → Has T t d
      to_pointer e =
          let b = both _ _ e in
          let c = both _ _ b.0 in
          let w : width T s ≡ 16 = eqb-true _ _ c.1 in
          let k = bits_data T (rw w at (bits_of_test T R s c.0)) q in
          rw (eqb-true t 1 b.1, k.0) (has_pointer T R (number_in d) k.1)

      to_bits : is_bits T t && eqb (width T t) 16 && eqb s 1 ≡ true → Has T t d
      to_bits e =
          let b = both _ _ e in
          let c = both _ _ b.0 in
          let w : width T t ≡ 16 = eqb-true _ _ c.1 in
          let k = pointer_data T R.pointer_second (pointer_size T R) (rw (eqb-true s 1 b.1) at q) in
          rw k.0 (has_bits T (rw w at (bits_of_test T R t c.0)) k.1)

  -- THE STEP of every conversion
  pub conversion_step : {n : ℕ} {M : Memory} {d' : Data} (h : At) (op : ConversionOp) (s t : ℕ) (d : Data) → conversion_typed T op s t ≡ true → conversion_data T op s t d ≡ Some d'
      → After G (Gives T n M s d) (λ v. own h (lower_conversion T op v t)) (Gives T n M t d')
  unfolding conversion_typed conversion_data lower_conversion conversion_form
  conversion_step h hir.truncate s t d e v =
      let b = both _ _ (both _ _ e).0 in
      let B = bits_of_test T R t b.1 in
      number_after G T refl (bits_of_test T R s b.0) (λ bs n₁ M₁ l₁ a₁ w₁. rw (← by_width T B (same_Some _ _ v)) (owned G h (rebased G l₁ a₁ (resize_step G T bs s t B w₁))))
  conversion_step h hir.zero_extend s t d e v =
      let c = both _ _ e in
      let b = both _ _ c.0 in
      let B = bits_of_test T R t b.1 in
      number_after G T refl (bits_of_test T R s b.0) (λ bs n₁ M₁ l₁ a₁ w₁.
      rw (← by_width T B (same_Some _ _ v), ← extend_wraps (width T s) (width T t) (number_in d) w₁.fits (leb-true _ _ c.1))
      (owned G h (rebased G l₁ a₁ (resize_step G T bs s t B w₁))))
  conversion_step h hir.sign_extend s t d e v =
      let b = both _ _ (both _ _ e).0 in
      let A = bits_of_test T R s b.0 in
      let B = bits_of_test T R t b.1 in
      number_after G T refl A (λ bs n₁ M₁ l₁ a₁ w₁. rw (← by_width T B (same_Some _ _ v)) (owned G h (rebased G l₁ a₁ (sign_step G T bs s t A B w₁))))
  conversion_step h (hir.integer_to_float x) s t d e v = never_true e
  conversion_step h (hir.float_to_integer x y) s t d e v = never_true e
  conversion_step h hir.promote_float s t d e v = never_true e
  conversion_step h hir.demote_float s t d e v = never_true e
  conversion_step h hir.reinterpret s t d e v =
      record { go = λ u n₁ M₁ g. rw (← same_Some _ _ v) (owned G h (rebased G g.later g.agree (reinterpret_step G T u t (reinterpreted_has s t d e g.has) g.denotes))) }
  conversion_step h hir.boolean_to_integer s t d e v =
      let b = both _ _ e in
      let B = bits_of_test T R t b.1 in
      flag_after G T R (eqb-true _ _ b.0) (λ c n₁ M₁ l₁ a₁ l f₁. rw (← by_width T B (same_Some _ _ v)) (owned G h (rebased G l₁ a₁ (from_boolean_step G T 0 t B l f₁))))
  conversion_step h hir.integer_to_boolean s t d e v =
      let b = both _ _ e in
      let A = bits_of_test T R s b.0 in
      number_after G T refl A (λ bs n₁ M₁ l₁ a₁ w₁.
      rw (← same_Some _ _ v) (owned G h (rebased G l₁ a₁ (retyped G T (sym (eqb-true _ _ b.1)) (to_boolean_step G T R.bool_first bs s A w₁)))))
