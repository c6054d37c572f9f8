-- THE STEP of the conversions between bits, bool and pointer, and of a condition, at every width.
use Prim.Native.Nat.{ℕ, zero, suc, ◌+◌, ◌-◌, ◌*◌, ◌/◌, ◌%◌, ◌^◌, ◌≤◌, ◌<◌}
use mathlib.Core.Bool.{Bool, true, false, not}
use mathlib.Core.List.{List, [], ◌∷◌}
use mathlib.Core.Path.{◌≡◌, refl, sym, ap, ◌∙◌}
use native.Mathlib.Omega.{arith}
use native.Mathlib.Nat.{le_refl, le_trans, zero-mod}
use lib.Pow.{pow_mono}
use lib.Dec.{eqb}
use borrow.Author.Tests.{eqb-true}
use lib.ListN.{length}
use Rattle.spec.specs.Ticket.{Tables, type_at, t_bool}
use Rattle.spec.specs.Lir.{ByteStorage, ByteOperand, BitOperand, copy_byte, sign_extend, Purpose, Value, value, bytes_value, bit_value}
use Rattle.spec.specs.Monad.{emits}
use Rattle.spec.specs.Operands.{value_bytes, value_bit, value_type, value_repr, resize}
use Rattle.spec.specs.Allocation.{type_size, odd_bits, bytes_from, bytes_at}
use Rattle.spec.specs.Arithmetic.{zip2}
use Rattle.spec.specs.Conversions.{bit_to_bytes, not_zero, value_as_bit, normalized_bytes, resized, sign_extended, boolean_to_integer, integer_to_bool, reinterpreted}
use Rattle.numerics.specs.Numerics.{ine, wrap, extend_s}
use Rattle.spec.specs.Machine.{Memory, Given, bytes_of, bit_of, set_bit, set_byte, compare_op, defined, effect}
use Rattle.spec.specs.Eval.{Data, flag, number}
use Rattle.spec.proofs.RunWords.{size, length_bytes_of, ripple_bytes, copying, masked, mask_last}
use Rattle.spec.proofs.RunWords as words
use Rattle.spec.proofs.RunLaws.{room_le, extend_wrap}
use Rattle.spec.proofs.RunBounds.{wrap_lt, extend_lt, truth_lt}
use Rattle.spec.proofs.RunRuns.{effects, Total, no_more, and_then, total_zip, total_map}
use Rattle.spec.proofs.Lengths.{length_bytes_from}
use Rattle.spec.proofs.RunFrames.{Agree, agree_refl, agree_bit, bit_here, agree_byte, Fixed, fixed_stored, Left, left_cons, set_bytes_left, set_here, at, copy_loop, zeros_run, zeros_le, resize_run, zip2_zip3}
use Rattle.spec.proofs.RunHoare.{From, ◌then◌, ◌next◌, ending, Is, allocates_bit, emitting, emitting_one, purely, got, at_it, requiring}
use Rattle.spec.proofs.RunTyping.{IsBits, Has, has_bits, has_bool}
use Rattle.spec.proofs.RunValues.{FixedBit, Word, Denotes, of_bytes, Gives, here, sets}
use Rattle.spec.proofs.RunSteps.{Wrote, at_next, temporary, destinations, width_is, read_back, finish, number_is, looped}

module _ (G : Given) (T : Tables) where
  -- ------------------------------------------------------------ Truncate and ZeroExtend

  module _ {w : ℕ} where
    copied : {n : ℕ} {M : Memory} {bs : List ByteOperand} (v a ty : ℕ) → IsBits T ty w → Fixed n M bs (bytes_of (size w) a)
        → From G (suc n) M (emits (zip2 (λ i d b. copy_byte d b) 0 (bytes_at T (at_next ty n)) bs)) (Wrote w n (wrap v w a) M)
    unfolding bytes_at type_size wrap
    copied {n} {M} {bs} v a ty B h =
        let L = copy_loop G n (length (bytes_from n 0 (size w))) in
        rw (B.sized, zip2_zip3 (λ i d b. copy_byte d b) 0 (bytes_from n 0 (size w)) bs)
        (ending G (emitting G _ (total_zip _ L.total 0 _ bs bs)) (looped G a a (suc n) L h h (omega arith) refl
        (ap (mask_last (w % 8)) (ripple_bytes copying (size w) 0 a a a refl) ∙ masked w a)))

    odd_is : (ty : ℕ) → IsBits T ty w → odd_bits T ty ≡ w % 8
    unfolding odd_bits
    odd_is ty B = rw (B.word, B.wide) refl

    normalized : {n : ℕ} {M : Memory} (v a : ℕ) (bs : List ByteOperand) (ty : ℕ) → IsBits T ty w → Fixed n M bs (bytes_of (size w) a)
        → From G n M (normalized_bytes T ty bs) (Gives T n M ty (number (size w) (wrap v w a)))
    unfolding normalized_bytes wrap mask_last
    normalized {n} {M} v a bs ty B h = go (eqb (odd_bits T ty) 0) refl
      where
        go : (t : Bool) → eqb (odd_bits T ty) 0 ≡ t → From G n M (normalized_bytes T ty bs) (Gives T n M ty (number (size w) (wrap v w a)))
        go true e =
            let z : w % 8 ≡ 0 = sym (odd_is ty B) ∙ eqb-true (odd_bits T ty) 0 e in
            rw e (ending G (purely G _) (here (has_bits T B (wrap_lt v w a)) (of_bytes (rw (rw z at (masked w a)) at h))))
        go false e = rw e (◌then◌ G (temporary G T ty B) (at_it G (◌next◌ G (copied v a ty B h) (finish G T ty B (wrap_lt v w a)))))

    pub resize_step : {v n a : ℕ} {M : Memory} (bs : List ByteOperand) (t ty : ℕ) → IsBits T ty w → Word v n M bs a
        → From G n M (resized T (value t (bytes_value bs)) ty) (Gives T n M ty (number (size w) (wrap v w a)))
    unfolding resized value_bytes type_size
    resize_step {v} {n} {a} {M} bs t ty B h =
        ◌then◌ G (got G 24 bs) (at_it G (rw B.sized (normalized v a (resize (size w) bs) ty B
        (record { holds = λ M' p. resize_run (size w) M' bs ∙ words.resized (size w) (size v) a _ (h.fixed.holds M' p) (le_trans h.fits (room_le v)) }))))

  -- ------------------------------------------------------------ SignExtend

  module _ {v w : ℕ} where
    signs : {n a : ℕ} {M : Memory} {bs : List ByteOperand} → Word v n M bs a
        → Wrote w n (extend_s v w a) M tt (suc n) (effects G (sign_extend v (bytes_from n 0 (size w)) bs ∷ []) M)
    unfolding effect
    signs {n} {a} {M} {bs} h =
        rw (number_is h, length_bytes_from n 0 (size w))
        (record {
          later = omega arith;
          found = bytes_of (size w) (extend_s v (8 * size w) a);
          left = set_bytes_left n n (le_refl n) (size w) 0 _ M (length_bytes_of (size w) _);
          word = masked w _ ∙ ap (bytes_of (size w))
              (ap (λ (x : ℕ). extend_s v x a % 2 ^ w) (let e : 8 * size w ≡ (8 * size w - w) + w = omega arith in e) ∙ extend_wrap v w (8 * size w - w) a);
        })

    pub sign_step : {n a : ℕ} {M : Memory} (bs : List ByteOperand) (t ty : ℕ) → IsBits T t v → IsBits T ty w → Word v n M bs a
        → From G n M (sign_extended T (value t (bytes_value bs)) ty) (Gives T n M ty (number (size w) (extend_s v w a)))
    unfolding sign_extended value_bytes defined
    sign_step {n} {a} bs t ty A B h =
        ◌then◌ G (width_is G T t A) (at_it G (◌then◌ G (got G 24 bs) (at_it G (◌then◌ G (temporary G T ty B) (at_it G (◌then◌ G (destinations G T ty _ B) (at_it G
        (◌next◌ G (ending G (emitting_one G _ refl) (signs h)) (finish G T ty B (extend_lt v w a))))))))))

  -- ------------------------------------------------------------ IntegerToBoolean, and a condition

  -- a number that is not 0, as a bit
  not_zero_run : {w n a : ℕ} {M : Memory} (bs : List ByteOperand) (t : ℕ) (p : Purpose) → IsBits T t w → Word w n M bs a
      → From G n M (not_zero T p (value t (bytes_value bs))) (Is n (suc n) (set_bit n (ine w a 0) M))
  unfolding not_zero value_bytes defined effect compare_op
  not_zero_run {w} {n} {a} {M} bs t p B h =
      ◌then◌ G (width_is G T t B) (at_it G (◌then◌ G (got G 24 bs) (at_it G (◌then◌ G (allocates_bit G p) (at_it G
      (◌next◌ G (emitting_one G _ refl) (at_it G (rw (number_is h, zeros_le (length bs) M, zero-mod (2 ^ w)) (purely G n)))))))))

  not_equal_lt : (w a : ℕ) → ine w a 0 < 2
  unfolding ine
  not_equal_lt w a = truth_lt (not (eqb a 0))

  pub to_boolean_step : {w n a : ℕ} {M : Memory} → (type_at T 0).word ≡ t_bool → (bs : List ByteOperand) (t : ℕ) → IsBits T t w → Word w n M bs a
      → From G n M (integer_to_bool T (value t (bytes_value bs))) (Gives T n M 0 (flag (ine w a 0)))
  unfolding integer_to_bool
  to_boolean_step {w} {n} {a} z bs t B h = ◌then◌ G (not_zero_run bs t _ B h) (at_it G (ending G (purely G _) (sets _ (has_bool z (not_equal_lt w a)))))

  -- a condition: a bit as it is, or a number that is not 0
  pub record Bit (n : ℕ) (M : Memory) (x : ℕ) (b : BitOperand) (n' : ℕ) (M' : Memory) : Type 0 where
    pub later : n ≤ n'
    pub agree : Agree n M M'
    pub fixed : FixedBit n' M' b x

  pub bit_as_bit : {n x : ℕ} {M : Memory} {b : BitOperand} (t : ℕ) → FixedBit n M b x → From G n M (value_as_bit T (value t (bit_value b))) (Bit n M x)
  unfolding value_as_bit
  bit_as_bit {n} t h = ending G (purely G _) (record { later = le_refl n; agree = agree_refl; fixed = h })

  pub number_as_bit : {w n a : ℕ} {M : Memory} (bs : List ByteOperand) (t : ℕ) → IsBits T t w → Word w n M bs a
      → From G n M (value_as_bit T (value t (bytes_value bs))) (Bit n M (ine w a 0))
  unfolding value_as_bit
  number_as_bit {w} {n} {a} {M} bs t B h =
      ◌then◌ G (not_zero_run bs t _ B h) (at_it G (ending G (purely G _)
      (record { later = omega arith; agree = agree_bit n _ M (le_refl n); fixed = record { holds = λ M' p. p.bits n (omega arith) ∙ bit_here n _ M } })))

  -- ------------------------------------------------------------ BooleanToInteger

  total_bit : (ds : List ByteStorage) (b : BitOperand) → Total (bit_to_bytes ds b)
  unfolding bit_to_bytes defined
  total_bit [] b = no_more
  total_bit (d ∷ ds) b = and_then (λ M. refl) (total_map _ (λ d M. refl) ds)

  -- the bit in the first byte, 0 in the others
  spelled : {n x : ℕ} {M : Memory} {b : BitOperand} (k : ℕ) → FixedBit n M b x
      → Left n n 0 (suc k) M (effects G (bit_to_bytes (bytes_from n 0 (suc k)) b) M) (x ∷ bytes_of k 0)
  unfolding bit_to_bytes effect bytes_from
  spelled {n} {x} {M} {b} k h =
      left_cons (agree_byte (at n 0) _ M (le_refl n)) (λ q l. absurd (omega arith)) (set_here (at n 0) _ M ∙ h.holds M agree_refl)
      (zeros_run G n n (le_refl n) k 1 (set_byte (at n 0) (bit_of M b) M))

  bit_bytes : (k x : ℕ) → x < 2 → x ∷ bytes_of k 0 ≡ bytes_of (suc k) x
  unfolding bytes_of
  bit_bytes k x l =
      let e₀ : x % 256 ≡ x = omega arith in
      let e₁ : x / 256 ≡ 0 = omega arith in
      rw (e₀, e₁) refl

  spelled_bit : {n x : ℕ} {M : Memory} {b : BitOperand} (k : ℕ) → 0 < k → x < 2 → FixedBit n M b x
      → Left n n 0 k M (effects G (bit_to_bytes (bytes_from n 0 k) b) M) (bytes_of k x)
  spelled_bit zero p l h = absurd (omega arith)
  spelled_bit {x = x} (suc k) p l h = rw (bit_bytes k x l) at (spelled k h)

  pub from_boolean_step : {w n x : ℕ} {M : Memory} {b : BitOperand} (t ty : ℕ) → IsBits T ty w → x < 2 → FixedBit n M b x
      → From G n M (boolean_to_integer T (value t (bit_value b)) ty) (Gives T n M ty (number (size w) x))
  unfolding boolean_to_integer value_bit
  from_boolean_step {w} {n} {x} {M} {b} t ty B l h =
      ◌then◌ G (got G 24 b) (at_it G (◌then◌ G (temporary G T ty B) (at_it G (◌then◌ G (destinations G T ty _ B) (at_it G
      (◌next◌ G (emitting G _ (total_bit _ b)) (at_it G (ending G (read_back G T ty n B)
      (let L = spelled_bit (size w) (omega (arith, B.some_width)) l h in
      record {
        later = omega arith;
        agree = L.agree;
        typed = refl;
        has = has_bits T B (le_trans l (pow_mono {i = 1} {j = w} B.some_width));
        denotes = of_bytes (fixed_stored (suc n) n (omega arith) (size w) 0 _ _ L.written);
      })))))))))

  -- ------------------------------------------------------------ Reinterpret

  pub reinterpret_step : {n : ℕ} {M : Memory} {d : Data} (v : Value) (ty : ℕ) → Has T ty d → Denotes n M (value_repr v) d → From G n M (reinterpreted T v ty) (Gives T n M ty d)
  unfolding reinterpreted
  reinterpret_step v ty q p = ◌next◌ G (requiring G 22 (eqb (type_size T (value_type v)) (type_size T ty))) (at_it G (ending G (purely G _) (here q p)))
