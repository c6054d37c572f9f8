-- THE STEP of the nineteen binary operators, at every width.
use Prim.Native.Nat.{ℕ, suc, ◌%◌, ◌^◌, ◌<◌}
use mathlib.Core.Bool.{Bool, true, false}
use mathlib.Core.List.{List, [], ◌∷◌}
use Rattle.std.specs.Prelude.{Option, None, Some}
use mathlib.Core.Path.{◌≡◌, refl, sym, ap, ◌∙◌}
use native.Mathlib.Omega.{arith}
use native.Mathlib.Nat.{le_refl, mod-eq_of_lt}
use lib.Dec.{eqb}
use borrow.Author.Tests.{eqb-true}
use lib.ListN.{length}
use Rattle.spec.specs.Hir.{IntegerBinaryOp}
use Rattle.spec.specs.Hir as hir
use Rattle.spec.specs.Ticket.{Tables}
use Rattle.spec.specs.Lir.{ByteOperand, ByteBinaryOp, RotateDirection, ShiftOp, IntegerBinaryBytesOp, InstructionKind, shift_bytes, value, bytes_value}
use Rattle.spec.specs.Operands.{value_bytes, all_immediate, lowest_byte}
use Rattle.spec.specs.Allocation.{bytes_from}
use Rattle.spec.specs.Operators.{BinaryForm, adding, subtracting, bytewise, shifting, whole, binary_form, rotate_direction}
use Rattle.spec.specs.Arithmetic.{adds, subtracts, first_storage, first_operand, byte_rotates, byte_rotate, shifts, binary_instructions, lower_integer_binary}
use Rattle.numerics.specs.Numerics.{iadd, isub, iand, ior, ixor}
use Rattle.spec.specs.Machine.{Memory, Given, bytes_of, byte_op, distance, shift_op, binary_op, defined, effect}
use Rattle.spec.specs.Eval.{number, binary_numeric}
use Rattle.spec.proofs.RunLogic.{both}
use Rattle.spec.proofs.RunWords.{size, mask_last}
use Rattle.spec.proofs.RunLaws.{add_word, sub_word, bitwise_word}
use Rattle.spec.proofs.RunBounds.{shift_lt, whole_lt, add_lt, sub_lt, bitwise_lt}
use Rattle.spec.proofs.RunRuns.{effects, Total, no_more, and_then, total_zip}
use Rattle.spec.proofs.RunFrames.{at, add_loop, sub_loop, bitwise_loop}
use Rattle.spec.proofs.RunRotate.{turned, byte_rotates_run, total_byte_rotates, first_is, lowest_is, turned_shift}
use Rattle.spec.proofs.RunHoare.{From, ◌then◌, ◌next◌, ending, allocates_carry, emitting, emitting_one, got, at_it}
use Rattle.spec.proofs.RunTyping.{IsBits}
use Rattle.spec.proofs.RunValues.{Word, Gives}
use Rattle.spec.proofs.RunSteps.{Wrote, temporary, destinations, width_is, finish, amount_is, number_is, looped, spreads}

-- ---------------------------------------------------------------- the forms' numbers

-- what a form of lowering works out: undefined only among the whole operations
abbrev pub form_number : BinaryForm → ℕ → ℕ → ℕ → Option ℕ
form_number adding w a b = Some (iadd w a b)
form_number subtracting w a b = Some (isub w a b)
form_number (bytewise op) w a b = Some (byte_op op a b)
form_number (shifting op) w a b = Some (shift_op op w a b)
form_number (whole op) w a b = binary_op op w a b

-- each operator's number is its form's
pub form_numeric : (op : IntegerBinaryOp) (w a b : ℕ) → form_number (binary_form op) w a b ≡ binary_numeric op w a b
unfolding binary_form binary_numeric binary_op shift_op iand ior ixor
form_numeric hir.add w a b = refl
form_numeric hir.subtract w a b = refl
form_numeric hir.multiply w a b = refl
form_numeric (hir.divide hir.signed) w a b = refl
form_numeric (hir.divide hir.unsigned) w a b = refl
form_numeric (hir.remainder hir.signed) w a b = refl
form_numeric (hir.remainder hir.unsigned) w a b = refl
form_numeric hir.and w a b = refl
form_numeric hir.or w a b = refl
form_numeric hir.xor w a b = refl
form_numeric hir.shift_left w a b = refl
form_numeric (hir.shift_right hir.signed) w a b = refl
form_numeric (hir.shift_right hir.unsigned) w a b = refl
form_numeric hir.rotate_left w a b = refl
form_numeric hir.rotate_right w a b = refl
form_numeric (hir.saturating_add hir.signed) w a b = refl
form_numeric (hir.saturating_add hir.unsigned) w a b = refl
form_numeric (hir.saturating_subtract hir.signed) w a b = refl
form_numeric (hir.saturating_subtract hir.unsigned) w a b = refl

-- ---------------------------------------------------------------- shifts

-- instructions that write x
pub record Writes (G : Given) (w n x : ℕ) (M : Memory) (ks : List InstructionKind) : Type 0 where
  pub total : Total ks
  pub wrote : Wrote w n x M tt (suc n) (effects G ks M)

module _ (G : Given) where
  rotate_8 : {n a b : ℕ} {M : Memory} (ls rs : List ByteOperand) (op : ShiftOp) (dir : RotateDirection) → Word 8 n M ls a → Word 8 n M rs b
      → rotate_direction op ≡ Some dir → all_immediate rs ≡ true
      → Writes G 8 n (shift_op op 8 a b) M (byte_rotates dir (at n 0) (first_operand ls) (lowest_byte rs % 8))
  unfolding mask_last bytes_of
  rotate_8 {n} {a} {b} {M} ls rs op dir hl hr e i =
      record {
        total = total_byte_rotates dir _ _ _;
        wrote = record {
          later = le_refl (suc n);
          found = turned dir a (lowest_byte rs % 8) ∷ [];
          left = byte_rotates_run G (le_refl n) (first_operand ls) (first_is a ls hl.fixed ∙ mod-eq_of_lt hl.fits) hl.fits dir (lowest_byte rs % 8) (omega arith);
          word = ap (λ (x : ℕ). x ∷ [])
              (ap (turned dir a) (ap (λ (x : ℕ). x % 8) (lowest_is b rs hr.fixed i ∙ mod-eq_of_lt hr.fits)) ∙ turned_shift op dir a b e
              ∙ sym (mod-eq_of_lt (shift_lt op 8 a b (omega arith) hl.fits)));
        };
      }

  module _ {w n a b : ℕ} {M : Memory} {ls rs : List ByteOperand} (p : 0 < w) (hl : Word w n M ls a) (hr : Word w n M rs b) where
    eight : byte_rotate w (bytes_from n 0 (size w)) ls rs ≡ true → (w ≡ 8) × (all_immediate rs ≡ true)
    unfolding byte_rotate
    eight e =
        let c = both _ (all_immediate rs) e in
        (eqb-true w 8 (both (eqb w 8) _ (both _ (eqb (length ls) 1) c.0).0).0, c.1)

    one_shift : (op : ShiftOp) → Writes G w n (shift_op op w a b) M (shift_bytes op w (bytes_from n 0 (size w)) ls rs ∷ [])
    unfolding defined effect distance
    one_shift op =
        record {
          total = and_then (λ M. refl) no_more;
          wrote = rw (number_is hl, amount_is hr) (spreads (shift_lt op w a b p hl.fits));
        }

    -- a byte turned by a constant, or one instruction
    turned_or_shifted : (op : ShiftOp) (dir : RotateDirection) → rotate_direction op ≡ Some dir → (t : Bool) → byte_rotate w (bytes_from n 0 (size w)) ls rs ≡ t
        → Writes G w n (shift_op op w a b) M (shifts op w (bytes_from n 0 (size w)) ls rs)
    unfolding shifts first_storage bytes_from
    turned_or_shifted op dir d true e =
        let c = eight e in
        rw (d, e) (rw c.0 (rotate_8 ls rs op dir (rw c.0 at hl) (rw c.0 at hr) d c.1))
    turned_or_shifted op dir d false e = rw (d, e) (one_shift op)

    shifted : (op : ShiftOp) (o : Option RotateDirection) → rotate_direction op ≡ o → Writes G w n (shift_op op w a b) M (shifts op w (bytes_from n 0 (size w)) ls rs)
    unfolding shifts
    shifted op None d = rw d (one_shift op)
    shifted op (Some dir) d = turned_or_shifted op dir d _ refl

  -- ------------------------------------------------------------ the forms

  module _ (T : Tables) {w n a b : ℕ} {M : Memory} {ls rs : List ByteOperand} (ty : ℕ) (B : IsBits T ty w) (hl : Word w n M ls a) (hr : Word w n M rs b) where
    added : From G (suc n) M (binary_instructions T adding ty (bytes_from n 0 (size w)) ls rs) (Wrote w n (iadd w a b) M)
    unfolding binary_instructions adds
    added =
        let L = add_loop G n (length (bytes_from n 0 (size w))) (suc n) (omega arith) in
        ◌then◌ G (allocates_carry G _) (at_it G (ending G (emitting G _ (total_zip _ L.total 0 _ ls rs))
        (looped G a b (suc (suc n)) L hl.fixed hr.fixed (omega arith) refl (add_word w a b))))

    subtracted : From G (suc n) M (binary_instructions T subtracting ty (bytes_from n 0 (size w)) ls rs) (Wrote w n (isub w a b) M)
    unfolding binary_instructions subtracts
    subtracted =
        let L = sub_loop G n (length (bytes_from n 0 (size w))) (suc n) (omega arith) in
        ◌then◌ G (allocates_carry G _) (at_it G (ending G (emitting G _ (total_zip _ L.total 0 _ ls rs))
        (looped G a b (suc (suc n)) L hl.fixed hr.fixed (omega arith) refl (sub_word w a b hr.fits))))

    bytes_worked : (op : ByteBinaryOp) → From G (suc n) M (binary_instructions T (bytewise op) ty (bytes_from n 0 (size w)) ls rs) (Wrote w n (byte_op op a b) M)
    unfolding binary_instructions
    bytes_worked op =
        let L = bitwise_loop G n (length (bytes_from n 0 (size w))) op in
        ending G (emitting G _ (total_zip _ L.total 0 _ ls rs))
        (looped G a b (suc n) L hl.fixed hr.fixed (omega arith) refl (bitwise_word op w a b hl.fits hr.fits))

    all_shifted : (op : ShiftOp)
        → From G (suc n) M (binary_instructions T (shifting op) ty (bytes_from n 0 (size w)) ls rs) (Wrote w n (shift_op op w a b) M)
    unfolding binary_instructions shifts
    all_shifted op =
        let W = shifted B.some_width hl hr op (rotate_direction op) refl in
        ◌then◌ G (width_is G T ty B) (at_it G (ending G (emitting G _ W.total) W.wrote))

    worked_whole : (op : IntegerBinaryBytesOp) (x : ℕ) → binary_op op w a b ≡ Some x
        → From G (suc n) M (binary_instructions T (whole op) ty (bytes_from n 0 (size w)) ls rs) (Wrote w n x M)
    unfolding binary_instructions defined effect
    worked_whole op x e =
        let r = number_is hl in
        let s = number_is hr in
        ◌then◌ G (width_is G T ty B) (at_it G (ending G (emitting_one G _ (rw (r, s, e) refl)) (rw (r, s, e) (spreads (whole_lt op w a b hl.fits e)))))

    instructed : (form : BinaryForm) (x : ℕ) → form_number form w a b ≡ Some x
        → From G (suc n) M (binary_instructions T form ty (bytes_from n 0 (size w)) ls rs) (Wrote w n x M)
    instructed adding x e = let q : iadd w a b ≡ x = cc in rw (← q) added
    instructed subtracting x e = let q : isub w a b ≡ x = cc in rw (← q) subtracted
    instructed (bytewise op) x e = let q : byte_op op a b ≡ x = cc in rw (← q) (bytes_worked op)
    instructed (shifting op) x e = let q : shift_op op w a b ≡ x = cc in rw (← q) (all_shifted op)
    instructed (whole op) x e = worked_whole op x e

    below : (form : BinaryForm) (x : ℕ) → form_number form w a b ≡ Some x → x < 2 ^ w
    below adding x e = let q : iadd w a b ≡ x = cc in rw (← q) (add_lt w a b)
    below subtracting x e = let q : isub w a b ≡ x = cc in rw (← q) (sub_lt w a b)
    below (bytewise op) x e = let q : byte_op op a b ≡ x = cc in rw (← q) (bitwise_lt op w a b hl.fits hr.fits)
    below (shifting op) x e = let q : shift_op op w a b ≡ x = cc in rw (← q) (shift_lt op w a b B.some_width hl.fits)
    below (whole op) x e = whole_lt op w a b hl.fits e

    -- operands that denote a and b, a defined result x: the value denotes x
    pub binary_step : (op : IntegerBinaryOp) (t₁ t₂ x : ℕ) → binary_numeric op w a b ≡ Some x
        → From G n M (lower_integer_binary T op (value t₁ (bytes_value ls)) (value t₂ (bytes_value rs)) ty) (Gives T n M ty (number (size w) x))
    unfolding lower_integer_binary value_bytes
    binary_step op t₁ t₂ x e =
        let e' = form_numeric op w a b ∙ e in
        ◌then◌ G (got G 24 ls) (at_it G (◌then◌ G (got G 24 rs) (at_it G (◌then◌ G (temporary G T ty B) (at_it G (◌then◌ G (destinations G T ty _ B) (at_it G
        (◌next◌ G (instructed (binary_form op) x e') (finish G T ty B (below (binary_form op) x e'))))))))))
