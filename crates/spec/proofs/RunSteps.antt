-- What the steps of all operations share: the temporary, its bytes, the mask, and reading it back.
use Prim.Native.Nat.{ℕ, zero, suc, ◌%◌, ◌^◌, ◌≤◌, ◌<◌}
use mathlib.Core.Bool.{false}
use mathlib.Core.List.{List, map}
use Rattle.std.specs.Prelude.{Option}
use mathlib.Core.Path.{◌≡◌, refl, ap, ◌∙◌}
use native.Mathlib.Omega.{arith}
use native.Mathlib.Nat.{le_refl, le_trans, mod-eq_of_lt}
use lib.ListN.{length}
use Rattle.spec.specs.Ticket.{Tables}
use Rattle.spec.specs.Lir.{ByteStorage, ByteOperand, stored, InstructionKind, value, bytes_value}
use Rattle.spec.specs.Monad.{◌>>◌}
use Rattle.spec.specs.Allocation.{Location, type_size, integer_width, odd_bits, allocate_sized, allocate_temporary, bytes_from, bytes_at, location_bytes}
use Rattle.spec.specs.ReadBytes.{read_plain, read_word, read_bytes_as_type, read_location}
use Rattle.spec.specs.Arithmetic.{zip3, masks, mask_location}
use Rattle.spec.specs.Machine.{Memory, Given, le, bytes_of, operands, carry_of, spread}
use Rattle.spec.specs.Eval.{number}
use Rattle.spec.proofs.RunWords.{size, length_bytes_of, le_exact, mask_last, ripple}
use Rattle.spec.proofs.RunLaws.{room_le, masked_fits}
use Rattle.spec.proofs.RunRuns.{effects, total_masks}
use Rattle.spec.proofs.Lengths.{length_bytes_from}
use Rattle.spec.proofs.RunFrames.{agree_refl, Fixed, fixed_stored, Left, left_then, set_bytes_left, Loop, loop_run, mask_run}
use Rattle.spec.proofs.RunHoare.{From, After, ◌then◌, ◌next◌, ending, Is, allocates, emitting, purely, got, at_it, from_refuse}
use Rattle.spec.proofs.RunTyping.{IsBits, has_bits}
use Rattle.spec.proofs.RunValues.{Word, of_bytes, Gives}

-- the temporary n holds bytes that, masked, are those of x
pub record Wrote (w n x : ℕ) (M : Memory) (u : Unit {0}) (n' : ℕ) (M' : Memory) : Type 0 where
  pub later : suc n ≤ n'
  pub found : List ℕ
  pub left : Left n n 0 (size w) M M' found
  pub word : mask_last (w % 8) found ≡ bytes_of (size w) x

-- storage n, as a location of its own
abbrev pub at_next : ℕ → ℕ → Location
at_next ty n = record { storage = n; offset = 0; ty = ty; is_bit = false }

module _ (G : Given) (T : Tables) where
  -- a temporary is the next storage (where the size is 0: refused)
  allocates_sized : {n : ℕ} {M : Memory} (k : ℕ) → From G n M (allocate_sized k) (Is n (suc n) M)
  unfolding allocate_sized
  allocates_sized zero = from_refuse G
  allocates_sized (suc zero) = allocates G _ _ _
  allocates_sized (suc (suc k)) = allocates G _ _ _

  pub temporary_at : {n : ℕ} {M : Memory} (ty : ℕ) → From G n M (allocate_temporary T (suc ty)) (Is (at_next (suc ty) n) (suc n) M)
  unfolding allocate_temporary
  temporary_at ty = ◌then◌ G (allocates_sized (type_size T (suc ty))) (at_it G (purely G _))

  module _ {w : ℕ} where
    pub temporary : {n : ℕ} {M : Memory} (ty : ℕ) → IsBits T ty w → From G n M (allocate_temporary T ty) (Is (at_next ty n) (suc n) M)
    temporary zero B = absurd (omega (arith, B.not_bool))
    temporary (suc ty) B = temporary_at ty

    pub destinations : {n : ℕ} {M : Memory} (ty D : ℕ) → IsBits T ty w → From G n M (location_bytes T (at_next ty D)) (Is (bytes_from D 0 (size w)) n M)
    unfolding location_bytes bytes_at type_size
    destinations ty D B = rw B.sized (purely G _)

    pub width_is : {n : ℕ} {M : Memory} (ty : ℕ) → IsBits T ty w → From G n M (integer_width T ty) (Is w n M)
    unfolding integer_width
    width_is ty B = rw (B.word, B.wide) (got G 23 w)

    masked_at : {n : ℕ} {M : Memory} (ty D : ℕ) → IsBits T ty w
        → From G n M (mask_location T (at_next ty D)) (Is tt n (effects G (masks (w % 8) (bytes_from D 0 (size w))) M))
    unfolding mask_location odd_bits bytes_at type_size
    masked_at ty D B = rw (B.word, B.wide, B.sized) (emitting G _ (total_masks (w % 8) _))

    pub read_back : {n : ℕ} {M : Memory} (ty D : ℕ) → IsBits T ty w
        → From G n M (read_location T (at_next ty D)) (Is (value ty (bytes_value (map stored (bytes_from D 0 (size w))))) n M)
    unfolding read_location read_bytes_as_type read_word read_plain type_size
    read_back ty D B = rw (B.word, B.sized) (purely G _)

    -- the mask, and reading back: the value is the number written
    pub finish : {n x : ℕ} {M : Memory} (ty : ℕ) → IsBits T ty w → x < 2 ^ w
        → After G (Wrote w n x M) (λ _. ◌>>◌ (mask_location T (at_next ty n)) (read_location T (at_next ty n))) (Gives T n M ty (number (size w) x))
    finish {n} {x} {M} ty B h =
        record {
          go = λ u n' M₁ W. ◌next◌ G (masked_at ty n B) (at_it G (ending G (read_back ty n B) (
              let L = left_then W.left (mask_run G n n (le_refl n) (w % 8) (size w) 0 M₁) in
              record {
                later = omega (arith, W.later);
                agree = L.agree;
                typed = refl;
                has = has_bits T B h;
                denotes = of_bytes (fixed_stored n' n W.later (size w) 0 _ _ (L.written ∙ ap (mask_last (w % 8)) W.left.written ∙ W.word));
              })));
        }

-- ---------------------------------------------------------------- what the instructions read and write

-- the number of all bytes of an operand list
pub amount_is : {w n a : ℕ} {M : Memory} {bs : List ByteOperand} → Word w n M bs a → le (operands M bs) ≡ a
amount_is {w} {n} {a} {M} h = ap le (h.fixed.holds M agree_refl) ∙ le_exact (size w) a (le_trans h.fits (room_le w))

-- what an instruction that cites the numerics reads
pub number_is : {w n a : ℕ} {M : Memory} {bs : List ByteOperand} → Word w n M bs a → le (operands M bs) % 2 ^ w ≡ a
number_is {w} h = ap (λ (x : ℕ). x % 2 ^ w) (amount_is h) ∙ mod-eq_of_lt h.fits

-- a chain of instructions, byte by byte
pub looped : (G : Given) {w n x : ℕ} {M : Memory} {ls rs : List ByteOperand} {ins : ℕ → ByteStorage → ByteOperand → ByteOperand → InstructionKind}
    {f g : ℕ → ℕ → ℕ → ℕ} {cin cout : ℕ → Option ℕ} (a b n' : ℕ)
    → Loop G n (length (bytes_from n 0 (size w))) ins f g cin cout → Fixed n M ls (bytes_of (size w) a) → Fixed n M rs (bytes_of (size w) b)
    → suc n ≤ n' → carry_of M (cin 0) ≡ 0 → mask_last (w % 8) (ripple f g 0 (bytes_of (size w) a) (bytes_of (size w) b)) ≡ bytes_of (size w) x
    → Wrote w n x M tt n' (effects G (zip3 ins 0 (bytes_from n 0 (size w)) ls rs) M)
looped G {w} {n} {x} {M} {ls} {rs} a b n' L hl hr h c e =
    record {
      later = h;
      found = _;
      left = loop_run G L (le_refl n) (size w) 0 0 0 _ _ ls rs M (omega (arith, length_bytes_from n 0 (size w))) hl hr
          (length_bytes_of (size w) a) (length_bytes_of (size w) b) (λ _. c);
      word = e;
    }

-- one instruction, a number's bytes at once
pub spreads : {w n x : ℕ} {M : Memory} → x < 2 ^ w → Wrote w n x M tt (suc n) (spread (bytes_from n 0 (size w)) x M)
spreads {w} {n} {x} {M} h =
    record {
      later = omega arith;
      found = bytes_of (size w) x;
      left = rw (length_bytes_from n 0 (size w)) (set_bytes_left n n (le_refl n) (size w) 0 (bytes_of (size w) x) M (length_bytes_of (size w) x));
      word = masked_fits w x h;
    }
