-- THE STEP of the five unary operators and of the ten comparisons of integers, at every width.
use Prim.Native.Nat.{ℕ, suc, ◌^◌, ◌<◌}
use mathlib.Core.List.{List, [], ◌∷◌}
use Rattle.std.specs.Prelude.{Some}
use mathlib.Core.Path.{◌≡◌, refl, sym, ◌∙◌}
use native.Mathlib.Omega.{arith}
use lib.ListN.{length}
use Rattle.spec.specs.Hir.{IntegerUnaryOp, CompareOp}
use Rattle.spec.specs.Hir as hir
use Rattle.spec.specs.Ticket.{Tables, type_at, t_bool}
use Rattle.spec.specs.Lir.{ByteOperand, stored_bit, compare_bytes, value, bytes_value, bit_value}
use Rattle.spec.specs.Lir as lir
use Rattle.spec.specs.Operands.{value_bytes}
use Rattle.spec.specs.Allocation.{bytes_from}
use Rattle.spec.specs.Operators.{UnaryForm, negating, inverting, counting, unary_form, compare_op}
use Rattle.spec.specs.Arithmetic.{negates, unary_instructions, lower_integer_unary}
use Rattle.spec.specs.Conversions.{lower_compare}
use Rattle.numerics.specs.Numerics.{ineg, inot}
use Rattle.spec.specs.Machine.{Memory, Given, unary_op, defined, effect}
use Rattle.spec.specs.Machine as machine
use Rattle.spec.specs.Eval.{flag, number, unary_numeric, compare_numeric}
use Rattle.spec.proofs.RunWords.{size}
use Rattle.spec.proofs.RunLaws.{neg_word, not_word}
use Rattle.spec.proofs.RunBounds.{counts_lt, neg_lt, not_lt, compare_lt}
use Rattle.spec.proofs.RunRuns.{effects, total_zip}
use Rattle.spec.proofs.RunFrames.{neg_loop, not_loop, zip2_zip3}
use Rattle.spec.proofs.RunHoare.{From, ◌then◌, ◌next◌, ending, allocates_carry, allocates_bit, emitting, emitting_one, purely, got, at_it, option_then}
use Rattle.spec.proofs.RunTyping.{IsBits, has_bool}
use Rattle.spec.proofs.RunValues.{Word, Gives, sets}
use Rattle.spec.proofs.RunSteps.{Wrote, temporary, destinations, width_is, finish, number_is, looped, spreads}

-- ---------------------------------------------------------------- unary

abbrev form_number : UnaryForm → ℕ → ℕ → ℕ
form_number negating w a = ineg w a
form_number inverting w a = inot w a
form_number (counting op) w a = unary_op op w a

form_numeric : (op : IntegerUnaryOp) (w a : ℕ) → form_number (unary_form op) w a ≡ unary_numeric op w a
unfolding unary_form unary_numeric unary_op
form_numeric hir.negate w a = refl
form_numeric hir.not w a = refl
form_numeric hir.count_leading_zeros w a = refl
form_numeric hir.count_trailing_zeros w a = refl
form_numeric hir.population_count w a = refl

form_lt : (form : UnaryForm) (w a : ℕ) → form_number form w a < 2 ^ w
form_lt negating w a = neg_lt w a
form_lt inverting w a = not_lt w a
form_lt (counting op) w a = counts_lt op w a

module _ (G : Given) (T : Tables) {w n a : ℕ} {M : Memory} {bs : List ByteOperand} (ty : ℕ) (B : IsBits T ty w) (hb : Word w n M bs a) where
  instructed : (form : UnaryForm) → From G (suc n) M (unary_instructions T form ty (bytes_from n 0 (size w)) bs) (Wrote w n (form_number form w a) M)
  unfolding unary_instructions negates defined effect
  instructed negating =
      let L = neg_loop G n (length (bytes_from n 0 (size w))) (suc n) (omega arith) in
      ◌then◌ G (allocates_carry G _) (at_it G (rw (zip2_zip3 _ 0 (bytes_from n 0 (size w)) bs) (ending G (emitting G _ (total_zip _ L.total 0 _ bs bs))
      (looped G a a (suc (suc n)) L hb.fixed hb.fixed (omega arith) refl (neg_word w a hb.fits)))))
  instructed inverting =
      let L = not_loop G n (length (bytes_from n 0 (size w))) in
      rw (zip2_zip3 _ 0 (bytes_from n 0 (size w)) bs) (ending G (emitting G _ (total_zip _ L.total 0 _ bs bs))
      (looped G a a (suc n) L hb.fixed hb.fixed (omega arith) refl (not_word w a a hb.fits)))
  instructed (counting op) =
      ◌then◌ G (width_is G T ty B) (at_it G (ending G (emitting_one G _ refl) (rw (number_is hb) (spreads (counts_lt op w a)))))

  -- an operand that denotes a: the value denotes the operator's number
  pub unary_step : (op : IntegerUnaryOp) (t : ℕ)
      → From G n M (lower_integer_unary T op (value t (bytes_value bs)) ty) (Gives T n M ty (number (size w) (unary_numeric op w a)))
  unfolding lower_integer_unary value_bytes
  unary_step op t =
      rw (← form_numeric op w a)
      (◌then◌ G (got G 24 bs) (at_it G (◌then◌ G (temporary G T ty B) (at_it G (◌then◌ G (destinations G T ty _ B) (at_it G
      (◌next◌ G (instructed (unary_form op)) (finish G T ty B (form_lt (unary_form op) w a)))))))))

-- ---------------------------------------------------------------- comparisons

-- each operator's truth value is its instruction's
compared_as : (op : CompareOp) (w a b : ℕ) → (o : lir.CompareOp) → compare_op op ≡ Some o → compare_numeric op w a b ≡ Some (machine.compare_op o w a b)
unfolding compare_op compare_numeric machine.compare_op
compared_as hir.equal w a b o e = let q : lir.equal ≡ o = cc in rw (← q) refl
compared_as hir.not_equal w a b o e = let q : lir.not_equal ≡ o = cc in rw (← q) refl
compared_as (hir.less_than hir.signed) w a b o e = let q : lir.less_than_signed ≡ o = cc in rw (← q) refl
compared_as (hir.less_than hir.unsigned) w a b o e = let q : lir.less_than_unsigned ≡ o = cc in rw (← q) refl
compared_as (hir.less_than_or_equal hir.signed) w a b o e = let q : lir.less_than_or_equal_signed ≡ o = cc in rw (← q) refl
compared_as (hir.less_than_or_equal hir.unsigned) w a b o e = let q : lir.less_than_or_equal_unsigned ≡ o = cc in rw (← q) refl
compared_as (hir.greater_than hir.signed) w a b o e = let q : lir.greater_than_signed ≡ o = cc in rw (← q) refl
compared_as (hir.greater_than hir.unsigned) w a b o e = let q : lir.greater_than_unsigned ≡ o = cc in rw (← q) refl
compared_as (hir.greater_than_or_equal hir.signed) w a b o e = let q : lir.greater_than_or_equal_signed ≡ o = cc in rw (← q) refl
compared_as (hir.greater_than_or_equal hir.unsigned) w a b o e = let q : lir.greater_than_or_equal_unsigned ≡ o = cc in rw (← q) refl
compared_as hir.float_equal w a b o e = cc
compared_as hir.float_not_equal w a b o e = cc
compared_as hir.float_less_than w a b o e = cc
compared_as hir.float_less_than_or_equal w a b o e = cc
compared_as hir.float_greater_than w a b o e = cc
compared_as hir.float_greater_than_or_equal w a b o e = cc

module _ (G : Given) (T : Tables) (bool_0 : (type_at T 0).word ≡ t_bool) {w n a b : ℕ} {M : Memory} {ls rs : List ByteOperand}
    (hl : Word w n M ls a) (hr : Word w n M rs b) where
  compared : (o : lir.CompareOp)
      → Gives T n M 0 (flag (machine.compare_op o w a b)) (value 0 (bit_value (stored_bit n))) (suc n) (effects G (compare_bytes o w n ls rs ∷ []) M)
  unfolding effect
  compared o = rw (number_is hl, number_is hr) (sets _ (has_bool bool_0 (compare_lt o w a b)))

  -- operands that denote a and b: the value denotes the comparison's truth value
  pub compare_step : (op : CompareOp) (t₁ t₂ x : ℕ) → IsBits T t₁ w → compare_numeric op w a b ≡ Some x
      → From G n M (lower_compare T op (value t₁ (bytes_value ls)) (value t₂ (bytes_value rs))) (Gives T n M 0 (flag x))
  unfolding lower_compare value_bytes defined
  compare_step op t₁ t₂ x B e =
      ◌then◌ G (width_is G T t₁ B) (at_it G (◌then◌ G (got G 24 ls) (at_it G (◌then◌ G (got G 24 rs) (at_it G (◌then◌ G (allocates_bit G _) (at_it G
      (option_then G 24 (compare_op op) (λ o q. ◌next◌ G (emitting_one G _ refl) (at_it G (ending G (purely G _) (same o q))))))))))))
    where
      same : (o : lir.CompareOp) → compare_op op ≡ Some o → Gives T n M 0 (flag x) (value 0 (bit_value (stored_bit n))) (suc n) (effects G (compare_bytes o w n ls rs ∷ []) M)
      same o q =
          let z : Some x ≡ Some (machine.compare_op o w a b) = sym e ∙ compared_as op w a b o q in
          let y : x ≡ machine.compare_op o w a b = cc in
          rw y (compared o)
