-- What follows a value whose type is known: its bytes as a word, or its bit.
use Prim.Native.Nat.{ℕ, ◌≤◌, ◌<◌}
use mathlib.Core.List.{List}
use mathlib.Core.Path.{◌≡◌, ◌∙◌}
use Rattle.spec.specs.Ticket.{Tables}
use Rattle.spec.specs.Readable.{TypesRight}
use Rattle.spec.specs.Lir.{ByteOperand, BitOperand, Value, value, bit_value, bytes_value}
use Rattle.spec.specs.Monad.{Lower}
use Rattle.spec.specs.Operands.{value_type, value_repr}
use Rattle.spec.specs.Machine.{Memory, Given, bytes_of}
use Rattle.spec.specs.Eval.{Data, flag, number, number_in}
use Rattle.spec.proofs.RunFrames.{Agree, Fixed}
use Rattle.spec.proofs.RunHoare.{From, After, weaken}
use Rattle.spec.proofs.RunTyping.{IsBits, bits_data, flag_data, pointer_data, pointer_size}
use Rattle.spec.proofs.RunValues.{FixedBit, Word, Denotes, of_bit, of_bytes, Gives}

module _ (G : Given) (T : Tables) where
  bytes_then : {n' ty k a : ℕ} {M' : Memory} {B : Type 0} (f : Value → Lower B) {Q : B → ℕ → Memory → Type 0} (v : Value) → value_type v ≡ ty
      → Denotes n' M' (value_repr v) (number k a) → ((bs : List ByteOperand) → Fixed n' M' bs (bytes_of k a) → From G n' M' (f (value ty (bytes_value bs))) Q)
      → From G n' M' (f v) Q
  bytes_then f (value t (bytes_value bs)) e (of_bytes p) c = rw e (c bs p)
  bytes_then f (value t Rattle.spec.specs.Lir.unit) e x c = elim x [ ]
  bytes_then f (value t (bit_value b)) e x c = elim x [ ]
  bytes_then f (value t (Rattle.spec.specs.Lir.aggregate vs)) e x c = elim x [ ]

  bit_then : {n' ty x : ℕ} {M' : Memory} {B : Type 0} (f : Value → Lower B) {Q : B → ℕ → Memory → Type 0} (v : Value) → value_type v ≡ ty
      → Denotes n' M' (value_repr v) (flag x) → ((b : BitOperand) → FixedBit n' M' b x → From G n' M' (f (value ty (bit_value b))) Q)
      → From G n' M' (f v) Q
  bit_then f (value t (bit_value b)) e (of_bit p) c = rw e (c b p)
  bit_then f (value t Rattle.spec.specs.Lir.unit) e x c = elim x [ ]
  bit_then f (value t (bytes_value bs)) e x c = elim x [ ]
  bit_then f (value t (Rattle.spec.specs.Lir.aggregate vs)) e x c = elim x [ ]

  -- the bytes of a number of a bits type
  pub number_after : {t ty w n : ℕ} {M : Memory} {d : Data} {B : Type 0} {f : Value → Lower B} {Q : B → ℕ → Memory → Type 0} → t ≡ ty → IsBits T ty w
      → ((bs : List ByteOperand) (n' : ℕ) (M' : Memory) → n ≤ n' → Agree n M M' → Word w n' M' bs (number_in d) → From G n' M' (f (value ty (bytes_value bs))) Q)
      → After G (Gives T n M t d) f Q
  number_after {f = f} e I c =
      record {
        go = λ v n' M' g. (
            let k = bits_data T I (rw e at g.has) in
            bytes_then f v (g.typed ∙ e) (rw k.0 at g.denotes) (λ bs p. c bs n' M' g.later g.agree (record { fixed = p; fits = k.1 })));
      }

  pub pointer_after : TypesRight T → {t n : ℕ} {M : Memory} {d : Data} {B : Type 0} {f : Value → Lower B} {Q : B → ℕ → Memory → Type 0} → t ≡ 1
      → ((bs : List ByteOperand) (n' : ℕ) (M' : Memory) → n ≤ n' → Agree n M M' → Word 16 n' M' bs (number_in d) → From G n' M' (f (value 1 (bytes_value bs))) Q)
      → After G (Gives T n M t d) f Q
  pointer_after R {f = f} e c =
      record {
        go = λ v n' M' g. (
            let k = pointer_data T R.pointer_second (pointer_size T R) (rw e at g.has) in
            bytes_then f v (g.typed ∙ e) (rw k.0 at g.denotes) (λ bs p. c bs n' M' g.later g.agree (record { fixed = p; fits = k.1 })));
      }

  -- the bit of a bool
  pub flag_after : TypesRight T → {t n : ℕ} {M : Memory} {d : Data} {B : Type 0} {f : Value → Lower B} {Q : B → ℕ → Memory → Type 0} → t ≡ 0
      → ((b : BitOperand) (n' : ℕ) (M' : Memory) → n ≤ n' → Agree n M M' → number_in d < 2 → FixedBit n' M' b (number_in d) → From G n' M' (f (value 0 (bit_value b))) Q)
      → After G (Gives T n M t d) f Q
  flag_after R {f = f} e c =
      record {
        go = λ v n' M' g. (
            let k = flag_data T R.bool_first (rw e at g.has) in
            bit_then f v (g.typed ∙ e) (rw k.0 at g.denotes) (λ b p. c b n' M' g.later g.agree k.1 p));
      }

  -- the same step, under an equal type
  pub retyped : {n t ty : ℕ} {M : Memory} {d : Data} {m : Lower Value} → t ≡ ty → From G n M m (Gives T n M t d) → From G n M m (Gives T n M ty d)
  retyped e p = weaken G p (λ v n' M' g. record { later = g.later; agree = g.agree; typed = g.typed ∙ e; has = rw e at g.has; denotes = g.denotes })
