-- What a lowered value's pieces stand for, as long as older storages stay; and that this is what the memory holds.
use Prim.Native.Nat.{ℕ, suc, ◌^◌, ◌≤◌, ◌<◌}
use mathlib.Core.List.{List, [], ◌∷◌}
use mathlib.Core.Path.{◌≡◌, refl, ap, ap₂, ◌∙◌}
use native.Mathlib.Omega.{arith}
use native.Mathlib.Nat.{le_refl, le_trans}
use lib.ListN.{length}
use Rattle.spec.specs.Ticket.{Tables}
use Rattle.spec.specs.Readable.{TypesRight}
use Rattle.spec.specs.Lir.{ByteOperand, BitOperand, Value, value, Repr, unit, bit_value, bytes_value, Values, no_values, ◌∷ᵛ◌, stored_bit}
use Rattle.spec.specs.Lir as lir
use Rattle.spec.specs.Monad.{Lower, ◌>>=◌, pure}
use Rattle.spec.specs.Operands.{value_type, value_repr}
use Rattle.spec.specs.Machine.{Memory, Given, le, bytes_of, operands, bit_of, set_bit}
use Rattle.spec.specs.Eval.{Data, empty, flag, number, parts, Datas, no_data, part, data_of, repr_data, datas_of}
use Rattle.spec.proofs.RunWords.{size, length_bytes_of, le_exact}
use Rattle.spec.proofs.RunFrames.{Agree, agree_refl, agree_trans, agree_bit, bit_here, Fixed}
use Rattle.spec.proofs.RunHoare.{From, After, ◌then◌, weaken, ending, purely}
use Rattle.spec.proofs.RunTyping.{Has, HasAll, has_none, has_more, has_number, has_array, has_struct, has_tuple, plain_room}

pub record FixedBit (b : ℕ) (M : Memory) (o : BitOperand) (x : ℕ) : Type 0 where
  pub holds : (M' : Memory) → Agree b M M' → bit_of M' o ≡ x

-- operand bytes that are those of a, a number of width w, as long as storages below n stay
pub record Word (w n : ℕ) (M : Memory) (bs : List ByteOperand) (a : ℕ) : Type 0 where
  pub fixed : Fixed n M bs (bytes_of (size w) a)
  pub fits : a < 2 ^ w

mutual
  pub data Denotes (n : ℕ) (M : Memory) : Repr → Data → Type 0 where
    of_unit : Denotes n M unit empty
    of_bit : {b : BitOperand} {x : ℕ} → FixedBit n M b x → Denotes n M (bit_value b) (flag x)
    of_bytes : {bs : List ByteOperand} {k x : ℕ} → Fixed n M bs (bytes_of k x) → Denotes n M (bytes_value bs) (number k x)
    of_parts : {vs : Values} {ds : Datas} → DenoteAll n M vs ds → Denotes n M (lir.aggregate vs) (parts ds)

  pub data DenoteAll (n : ℕ) (M : Memory) : Values → Datas → Type 0 where
    of_none : DenoteAll n M no_values no_data
    of_more : {v : Value} {vs : Values} {t : ℕ} {d : Data} {ds : Datas} → value_type v ≡ t → Denotes n M (value_repr v) d → DenoteAll n M vs ds
        → DenoteAll n M (v ∷ᵛ vs) (part t d ds)

-- ---------------------------------------------------------------- later memories

pub bit_later : {n n' x : ℕ} {M M' : Memory} {b : BitOperand} → n ≤ n' → Agree n M M' → FixedBit n M b x → FixedBit n' M' b x
bit_later h a f = record { holds = λ M'' q. f.holds M'' (agree_trans h a q) }

pub word_later : {n n' w x : ℕ} {M M' : Memory} {bs : List ByteOperand} → n ≤ n' → Agree n M M' → Word w n M bs x → Word w n' M' bs x
word_later h a p = record { fixed = record { holds = λ M'' q. p.fixed.holds M'' (agree_trans h a q) }; fits = p.fits }

mutual
  pub denotes_later : {n n' : ℕ} {M M' : Memory} {r : Repr} {d : Data} → n ≤ n' → Agree n M M' → Denotes n M r d → Denotes n' M' r d
  denotes_later h a of_unit = of_unit
  denotes_later h a (of_bit f) = of_bit (bit_later h a f)
  denotes_later h a (of_bytes f) = of_bytes (record { holds = λ M'' q. f.holds M'' (agree_trans h a q) })
  denotes_later h a (of_parts ps) = of_parts (all_later h a ps)

  pub all_later : {n n' : ℕ} {M M' : Memory} {vs : Values} {ds : Datas} → n ≤ n' → Agree n M M' → DenoteAll n M vs ds → DenoteAll n' M' vs ds
  all_later h a of_none = of_none
  all_later h a (of_more e p ps) = of_more e (denotes_later h a p) (all_later h a ps)

-- ---------------------------------------------------------------- what a step gives

-- after a step from n and M: older storages are as they were, and the value, of type ty, denotes d, data of that type
pub record Gives (T : Tables) (n : ℕ) (M : Memory) (ty : ℕ) (d : Data) (v : Value) (n' : ℕ) (M' : Memory) : Type 0 where
  pub later : n ≤ n'
  pub agree : Agree n M M'
  pub typed : value_type v ≡ ty
  pub has : Has T ty d
  pub denotes : Denotes n' M' (value_repr v) d

pub record GivesAll (T : Tables) (n : ℕ) (M : Memory) (ts : List ℕ) (ds : Datas) (vs : Values) (n' : ℕ) (M' : Memory) : Type 0 where
  pub later : n ≤ n'
  pub agree : Agree n M M'
  pub has : HasAll T ts ds
  pub denote : DenoteAll n' M' vs ds

-- the value is there already
pub here : {T : Tables} {n ty : ℕ} {M : Memory} {d : Data} {r : Repr} → Has T ty d → Denotes n M r d → Gives T n M ty d (value ty r) n M
here {n = n} q p = record { later = le_refl n; agree = agree_refl; typed = refl; has = q; denotes = p }

-- the same step, seen from an earlier memory
pub rebased : (G : Given) {T : Tables} {n n₁ ty : ℕ} {M M₁ : Memory} {d : Data} {m : Lower Value}
    → n ≤ n₁ → Agree n M M₁ → From G n₁ M₁ m (Gives T n₁ M₁ ty d) → From G n₁ M₁ m (Gives T n M ty d)
rebased G l a p =
    weaken G p (λ v n' M' g. record { later = le_trans l g.later; agree = agree_trans l a g.agree; typed = g.typed; has = g.has; denotes = g.denotes })

-- a bit, written to the next storage
pub sets : {T : Tables} {n ty : ℕ} {M : Memory} (x : ℕ) → Has T ty (flag x) → Gives T n M ty (flag x) (value ty (bit_value (stored_bit n))) (suc n) (set_bit n x M)
sets {n = n} {M = M} x q =
    record {
      later = omega arith;
      agree = agree_bit n x M (le_refl n);
      typed = refl;
      has = q;
      denotes = of_bit (record { holds = λ M' p. p.bits n (omega arith) ∙ bit_here n x M });
    }

-- ---------------------------------------------------------------- parts, one after the other

module _ (G : Given) (T : Tables) where
  pub gathered : {n ty : ℕ} {M : Memory} {ts : List ℕ} {ds : Datas} → (HasAll T ts ds → Has T ty (parts ds))
      → After G (GivesAll T n M ts ds) (λ vs. pure (value ty (lir.aggregate vs))) (Gives T n M ty (parts ds))
  gathered k = record {
    go = λ vs n₁ M₁ g. ending G (purely G _)
        (record { later = g.later; agree = g.agree; typed = refl; has = k g.has; denotes = of_parts g.denote });
  }

  pub nothing_read : {n : ℕ} {M : Memory} → From G n M (pure no_values) (GivesAll T n M [] no_data)
  nothing_read {n} = ending G (purely G _) (record { later = le_refl n; agree = agree_refl; has = has_none; denote = of_none })

  pub one_more : {n t : ℕ} {M : Memory} {d : Data} {ts : List ℕ} {ds : Datas} {rest : Lower Values}
      → ((n₁ : ℕ) (M₁ : Memory) → n ≤ n₁ → Agree n M M₁ → From G n₁ M₁ rest (GivesAll T n₁ M₁ ts ds))
      → After G (Gives T n M t d) (λ v. rest >>= (λ vs. pure (v ∷ᵛ vs))) (GivesAll T n M (t ∷ ts) (part t d ds))
  one_more k =
      record {
        go = λ v n₁ M₁ g. ◌then◌ G (k n₁ M₁ g.later g.agree) (record {
          go = λ vs n₂ M₂ q. ending G (purely G _)
              (record {
                later = le_trans g.later q.later;
                agree = agree_trans g.later g.agree q.agree;
                has = has_more g.has q.has;
                denote = of_more g.typed (denotes_later q.later q.agree g.denotes) q.denote;
              });
        });
      }

-- ---------------------------------------------------------------- the memory holds what the pieces denote

-- the meaning's own count of a value's bytes
abbrev count : List ByteOperand → ℕ
count [] = 0
count (b ∷ bs) = suc (count bs)

counted : (M : Memory) (bs : List ByteOperand) → count bs ≡ length (operands M bs)
counted M [] = refl
counted M (b ∷ bs) = ap suc (counted M bs)

number_holds : (M : Memory) (bs : List ByteOperand) (k x : ℕ) → operands M bs ≡ bytes_of k x → x < 256 ^ k → repr_data M (bytes_value bs) ≡ number k x
unfolding repr_data
number_holds M bs k x e l = ap₂ number (counted M bs ∙ ap length e ∙ length_bytes_of k x) (ap le e ∙ le_exact k x l)

holds_more : {t : ℕ} {d : Data} {ds : Datas} (M : Memory) (v : Value) (vs : Values) → value_type v ≡ t → repr_data M (value_repr v) ≡ d → datas_of M vs ≡ ds
    → datas_of M (v ∷ᵛ vs) ≡ part t d ds
unfolding data_of datas_of
holds_more M (value ty r) vs e p q = rw (e, p, q) refl

module _ (T : Tables) (R : TypesRight T) where
  mutual
    unfolding data_of repr_data datas_of

    pub holds_repr : {n ty : ℕ} {M : Memory} {r : Repr} {d : Data} → Denotes n M r d → Has T ty d → repr_data M r ≡ d
    holds_repr of_unit q = refl
    holds_repr {M = M} (of_bit f) q = ap flag (f.holds M agree_refl)
    holds_repr {M = M} (of_bytes {bs = bs} f) (has_number {k = k} {x = x} q z) = number_holds M bs k x (f.holds M agree_refl) (rw z at (plain_room T R q))
    holds_repr (of_parts ps) (has_array e qs) = ap parts (holds_all ps qs)
    holds_repr (of_parts ps) (has_struct e qs) = ap parts (holds_all ps qs)
    holds_repr (of_parts ps) (has_tuple e qs) = ap parts (holds_all ps qs)

    pub holds_all : {n : ℕ} {M : Memory} {ts : List ℕ} {vs : Values} {ds : Datas} → DenoteAll n M vs ds → HasAll T ts ds → datas_of M vs ≡ ds
    holds_all of_none has_none = refl
    holds_all {M = M} (of_more {v = v} {vs = vs} e p ps) (has_more q qs) = holds_more M v vs e (holds_repr p q) (holds_all ps qs)

  pub holds_value : {n n' ty : ℕ} {M M' : Memory} {d : Data} (v : Value) → Gives T n M ty d v n' M' → data_of M' v ≡ d
  unfolding data_of
  holds_value (value ty r) g = holds_repr g.denotes g.has
