-- THE STEP of select, of any type: the pieces are chosen one by one, and read back as the type.
use Prim.Native.Nat.{ℕ, zero, suc, ◌≤◌, ◌<◌}
use mathlib.Core.Bool.{Bool, true, false, ◌&&◌}
use mathlib.Core.List.{List, [], ◌∷◌, ◌++◌, map}
use mathlib.Core.Path.{◌≡◌, refl, sym, ap, ap₂, ◌∙◌}
use native.Mathlib.Omega.{arith}
use native.Mathlib.Nat.{le_refl, le_trans}
use lib.Dec.{eqb}
use lib.ListN.{length}
use Rattle.spec.specs.Limits.{type_depth_limit}
use Rattle.spec.specs.Ticket.{Tables, type_at}
use Rattle.spec.specs.Readable.{TypesRight}
use Rattle.spec.specs.Lir.{Value, value, Repr, Values, ByteOperand, BitOperand, ValueOperand, bit_operand, byte_operand, bit_storage, byte_storage, flatten_repr, flatten_values, flatten_value_operands, select_byte, select_bit, bit_to_byte, stored_bit, select_bool}
use Rattle.spec.specs.Operands.{value_type, value_repr}
use Rattle.spec.specs.Allocation.{type_size, allocate_temporary, bytes_from, bytes_at, location_value_storages}
use Rattle.spec.specs.ReadBytes.{read_location}
use Rattle.spec.specs.Select.{select_as_byte, select_piece, select_pieces, select_to_location, lower_select}
use Rattle.spec.specs.Machine.{Memory, Given, operand, operands, bit_of, pick, set_bit, defined, effect}
use Rattle.spec.specs.Eval.{Data, flag, Datas, number_in}
use Rattle.spec.proofs.RunFrames.{Agree, agree_refl, agree_trans, agree_byte, agree_bit, bit_here, Left, left_cons, set_beside, set_here, at, heads, tails, nil_cons}
use Rattle.spec.proofs.RunHoare.{From, After, ◌then◌, ◌next◌, weaken, ending, Is, emitting_one, purely, at_it, requiring, allocates, allocates_bit, from_refuse, never}
use Rattle.spec.proofs.RunTyping.{Has, flag_data, image, images, has_size}
use Rattle.spec.proofs.RunValues.{FixedBit, Denotes, of_unit, of_bit, of_bytes, of_parts, DenoteAll, of_none, of_more, Gives, sets}
use Rattle.spec.proofs.RunSteps.{at_next, temporary_at}
use Rattle.spec.proofs.RunReading.{type_read}
use Rattle.spec.proofs.RunStanding.{image_stands}

abbrev pub piece : Memory → ValueOperand → ℕ
piece M (bit_operand b) = bit_of M b
piece M (byte_operand b) = operand M b

abbrev pub pieces : Memory → List ValueOperand → List ℕ
pieces M [] = []
pieces M (p ∷ ps) = piece M p ∷ pieces M ps

pieces_append : (M : Memory) (ps qs : List ValueOperand) → pieces M (ps ++ qs) ≡ pieces M ps ++ pieces M qs
pieces_append M [] qs = refl
pieces_append M (p ∷ ps) qs = ap (λ (l : List ℕ). piece M p ∷ l) (pieces_append M ps qs)

pieces_bytes : (M : Memory) (bs : List ByteOperand) → pieces M (map byte_operand bs) ≡ operands M bs
pieces_bytes M [] = refl
pieces_bytes M (b ∷ bs) = ap (λ (l : List ℕ). operand M b ∷ l) (pieces_bytes M bs)

pub record FixedPieces (b : ℕ) (M : Memory) (ps : List ValueOperand) (xs : List ℕ) : Type 0 where
  pub holds : (M' : Memory) → Agree b M M' → pieces M' ps ≡ xs

flat : (v : Value) → flatten_value_operands v ≡ flatten_repr (value_repr v)
unfolding flatten_repr
flat (value ty r) = refl

mutual
  unfolding flatten_repr

  pieces_of : {n : ℕ} {M : Memory} {r : Repr} {d : Data} → Denotes n M r d → (M' : Memory) → Agree n M M' → pieces M' (flatten_repr r) ≡ image d
  pieces_of of_unit M' a = refl
  pieces_of (of_bit f) M' a = ap (λ (x : ℕ). x ∷ []) (f.holds M' a)
  pieces_of (of_bytes {bs = bs} f) M' a = pieces_bytes M' bs ∙ f.holds M' a
  pieces_of (of_parts ps) M' a = pieces_all ps M' a

  pieces_all : {n : ℕ} {M : Memory} {vs : Values} {ds : Datas} → DenoteAll n M vs ds → (M' : Memory) → Agree n M M' → pieces M' (flatten_values vs) ≡ images ds
  pieces_all of_none M' a = refl
  pieces_all (of_more {v = v} {vs = vs} e p ps) M' a =
      pieces_append M' (flatten_value_operands v) (flatten_values vs) ∙ ap₂ (λ (x y : List ℕ). x ++ y) (ap (pieces M') (flat v) ∙ pieces_of p M' a) (pieces_all ps M' a)

pick_nil : (t : Bool) → pick {A = List ℕ} t [] [] ≡ []
pick_nil true = refl
pick_nil false = refl

pick_cons : (t : Bool) (x y : ℕ) (xs ys : List ℕ) → pick t (x ∷ xs) (y ∷ ys) ≡ pick t x y ∷ pick t xs ys
pick_cons true x y xs ys = refl
pick_cons false x y xs ys = refl

-- a byte of D holds v, and those before it are as they were
record Chosen (b D o n v : ℕ) (M : Memory) (u : Unit {0}) (n' : ℕ) (M' : Memory) : Type 0 where
  later : n ≤ n'
  agree : Agree b M M'
  below : (p : ℕ) → p < o → M'.byte D p ≡ M.byte D p
  written : M'.byte D o ≡ v

pub record Picked (b D o k n : ℕ) (M : Memory) (xs : List ℕ) (u : Unit {0}) (n' : ℕ) (M' : Memory) : Type 0 where
  pub later : n ≤ n'
  pub left : Left b D o k M M' xs

module _ (G : Given) (T : Tables) (R : TypesRight T) where
  module _ {b D x : ℕ} {c : BitOperand} (h : b ≤ D) where
    -- two bytes, or two bits through a new bit
    piece_run : {o n y z : ℕ} {M : Memory} (t f : ValueOperand) → b ≤ n → FixedBit b M c x → piece M t ≡ z → piece M f ≡ y
        → From G n M (select_piece c (byte_storage (at D o)) t f) (Chosen b D o n (pick (eqb x 0) y z) M)
    unfolding select_piece select_as_byte defined effect set_bit
    piece_run {o} {n} {M = M} (byte_operand t) (byte_operand f) hn hc ht hf =
        ending G (emitting_one G (select_byte (at D o) c t f) refl)
        (record {
          later = le_refl n;
          agree = agree_byte (at D o) _ M h;
          below = λ p l. set_beside (at D o) _ M p (λ e. omega arith);
          written = set_here (at D o) _ M ∙ rw (hc.holds M agree_refl, ht, hf);
        })
    piece_run (byte_operand t) (bit_operand f) hn hc ht hf = from_refuse G
    piece_run {o} {n} {M = M} (bit_operand t) (bit_operand f) hn hc ht hf =
        ◌then◌ G (allocates_bit G select_bool) (at_it G (◌next◌ G (emitting_one G (select_bit n c t f) refl) (at_it G (
        ending G (emitting_one G (bit_to_byte (at D o) (stored_bit n)) refl)
        (record {
          later = omega arith;
          agree = agree_trans {b = b} (omega arith) (agree_bit n v M hn) (agree_byte (at D o) _ (set_bit n v M) h);
          below = λ p l. set_beside (at D o) _ (set_bit n v M) p (λ e. omega arith);
          written = set_here (at D o) _ (set_bit n v M) ∙ bit_here n v M ∙ rw (hc.holds M agree_refl, ht, hf);
        })))))
      where
        v : ℕ
        v = pick (eqb (bit_of M c) 0) (bit_of M f) (bit_of M t)
    piece_run (bit_operand t) (byte_operand f) hn hc ht hf = from_refuse G

    pieces_run : (k o n : ℕ) (ts fs : List ValueOperand) (xs ys : List ℕ) (M : Memory) → b ≤ n → FixedBit b M c x → FixedPieces b M ts xs → FixedPieces b M fs ys → length xs ≡ k → length ys ≡ k
        → From G n M (select_pieces c (map byte_storage (bytes_from D o k)) ts fs) (Picked b D o k n M (pick (eqb x 0) ys xs))
    unfolding select_pieces bytes_from
    pieces_run zero o n ts fs [] [] M hn hc ht hf ex ey = ending G (purely G tt) (record { later = le_refl n; left = record { agree = agree_refl; below = λ p _. refl; written = sym (pick_nil (eqb x 0)) } })
    pieces_run zero o n ts fs [] (y ∷ ys) M hn hc ht hf ex ey = absurd (omega arith)
    pieces_run zero o n ts fs (z ∷ xs) ys M hn hc ht hf ex ey = absurd (omega arith)
    pieces_run (suc k) o n ts fs [] ys M hn hc ht hf ex ey = absurd (omega arith)
    pieces_run (suc k) o n ts fs (z ∷ xs) [] M hn hc ht hf ex ey = absurd (omega arith)
    pieces_run (suc k) o n [] fs (z ∷ xs) (y ∷ ys) M hn hc ht hf ex ey = absurd (nil_cons (ht.holds M agree_refl))
    pieces_run (suc k) o n (t ∷ ts) [] (z ∷ xs) (y ∷ ys) M hn hc ht hf ex ey = absurd (nil_cons (hf.holds M agree_refl))
    pieces_run (suc k) o n (t ∷ ts) (f ∷ fs) (z ∷ xs) (y ∷ ys) M hn hc ht hf ex ey =
        ◌next◌ G (piece_run t f hn hc (heads (ht.holds M agree_refl)) (heads (hf.holds M agree_refl))) (record {
          go = λ u n₁ M₁ C. weaken G
              (pieces_run k (suc o) n₁ ts fs xs ys M₁ (le_trans hn C.later) (record { holds = λ M' q. hc.holds M' (agree_trans {b = b} (omega arith) C.agree q) })
              (record { holds = λ M' q. tails (ht.holds M' (agree_trans {b = b} (omega arith) C.agree q)) }) (record { holds = λ M' q. tails (hf.holds M' (agree_trans {b = b} (omega arith) C.agree q)) })
              (omega arith) (omega arith))
              (λ w n' M' P. record {
                later = le_trans C.later P.later;
                left = rw (pick_cons (eqb x 0) y z ys xs) (left_cons C.agree C.below C.written P.left);
              });
        })

  fixed_pieces : {n : ℕ} {M : Memory} {d : Data} (v : Value) → Denotes n M (value_repr v) d → FixedPieces n M (flatten_value_operands v) (image d)
  fixed_pieces v p = record { holds = λ M' a. ap (pieces M') (flat v) ∙ pieces_of p M' a }

  pick_image : (t : Bool) (d e : Data) → pick t (image d) (image e) ≡ image (pick t d e)
  pick_image true d e = refl
  pick_image false d e = refl

  pick_has : {ty : ℕ} (t : Bool) (d e : Data) → Has T ty d → Has T ty e → Has T ty (pick t d e)
  pick_has true d e p q = p
  pick_has false d e p q = q

  -- ------------------------------------------------------------ bytes

  chosen : {n x : ℕ} {M : Memory} {c : BitOperand} {d e : Data} (ty : ℕ) (v u : Value) → FixedBit n M c x
      → Denotes n M (value_repr v) d → Denotes n M (value_repr u) e → Has T ty d → Has T ty e
      → From G (suc n) M (select_to_location T (at_next ty n) c v u) (Picked n n 0 (type_at T ty).size (suc n) M (pick (eqb x 0) (image e) (image d)))
  unfolding select_to_location location_value_storages bytes_at type_size
  chosen {n} {x} {M} {c} {d} {e} ty v u hc hv hu qd qe =
      ◌next◌ G (requiring G 22 (eqb (value_type v) (value_type u) && eqb (value_type v) ty)) (at_it G
      (pieces_run (le_refl n) (type_at T ty).size 0 (suc n) (flatten_value_operands v) (flatten_value_operands u) (image d) (image e) M (omega arith) hc
      (fixed_pieces v hv) (fixed_pieces u hu) (has_size T R qd) (has_size T R qe)))

  chosen_back : {n : ℕ} {M : Memory} {d : Data} {xs : List ℕ} (ty : ℕ) → Has T ty d → xs ≡ image d
      → After G (Picked n n 0 (type_at T ty).size (suc n) M xs) (λ _. read_location T (at_next ty n)) (Gives T n M ty d)
  unfolding read_location
  chosen_back {n} {M} {d} {xs} ty q e =
      record {
        go = λ _ n' M' P. weaken G
            (type_read T n G type_depth_limit ty 0 n' M' d P.later (image_stands M' n T R q type_depth_limit 0 (record { found = rw (has_size T R q) (P.left.written ∙ e) })))
            (λ v n'' M'' g. record {
              later = omega (arith, P.later, g.later);
              agree = agree_trans {b = n} (omega (arith, P.later)) P.left.agree g.agree;
              typed = g.typed;
              has = g.has;
              denotes = g.denotes;
            });
      }

  -- ------------------------------------------------------------ one bit

  bit_chosen : {n x y z : ℕ} {M : Memory} {c : BitOperand} (ps qs : List ValueOperand) → FixedBit n M c x → FixedPieces n M ps (y ∷ []) → FixedPieces n M qs (z ∷ [])
      → From G (suc n) M (select_pieces c (bit_storage n ∷ []) ps qs) (Is tt (suc n) (set_bit n (pick (eqb x 0) z y) M))
  unfolding select_pieces select_piece defined effect
  bit_chosen {n} {x} {y} {z} {M} {c} [] qs hc hp hq = absurd (nil_cons (hp.holds M agree_refl))
  bit_chosen {n} {x} {y} {z} {M} {c} (p ∷ ps) [] hc hp hq = absurd (nil_cons (hq.holds M agree_refl))
  bit_chosen {n} {x} {y} {z} {M} {c} (byte_operand p ∷ ps) (q ∷ qs) hc hp hq = ◌next◌ G (from_refuse G) (never G)
  bit_chosen {n} {x} {y} {z} {M} {c} (bit_operand p ∷ ps) (byte_operand q ∷ qs) hc hp hq = ◌next◌ G (from_refuse G) (never G)
  bit_chosen {n} {x} {y} {z} {M} {c} (bit_operand p ∷ ps) (bit_operand q ∷ qs) hc hp hq =
      ◌next◌ G (emitting_one G (select_bit n c p q) refl)
      (at_it G (rw (sym (hc.holds M agree_refl), sym (heads (hp.holds M agree_refl)), sym (heads (hq.holds M agree_refl))) (purely G tt)))

  select_one_bit : {n x y z : ℕ} {M : Memory} {c : BitOperand} (v u : Value) → FixedBit n M c x → Denotes n M (value_repr v) (flag y) → Denotes n M (value_repr u) (flag z)
      → Has T 0 (flag (pick (eqb x 0) z y)) → From G n M (lower_select T c v u 0) (Gives T n M 0 (flag (pick (eqb x 0) z y)))
  unfolding lower_select allocate_temporary select_to_location location_value_storages read_location
  select_one_bit {n} {x} {y} {z} {M} {c} v u hc hv hu q =
      ◌then◌ G {Q = Is (record { storage = n; offset = 0; ty = 0; is_bit = true }) (suc n) M} (◌then◌ G (allocates G _ _ _) (at_it G (purely G _)))
      (at_it G (◌next◌ G (◌next◌ G (requiring G 22 (eqb (value_type v) (value_type u) && eqb (value_type v) 0))
      (at_it G (bit_chosen (flatten_value_operands v) (flatten_value_operands u) hc (fixed_pieces v hv) (fixed_pieces u hu))))
      (at_it G (ending G (purely G _) (sets _ q)))))

  -- ------------------------------------------------------------ any type

  pick_flag : (t : Bool) {d e : Data} → d ≡ flag (number_in d) → e ≡ flag (number_in e) → flag (pick t (number_in e) (number_in d)) ≡ pick t e d
  pick_flag true p q = sym q
  pick_flag false p q = sym p

  -- a condition that denotes x, choices that denote d and e: the value denotes e where x is 0, else d
  pub select_step : {n x : ℕ} {M : Memory} {c : BitOperand} {d e : Data} (ty : ℕ) (v u : Value) → FixedBit n M c x
      → Denotes n M (value_repr v) d → Denotes n M (value_repr u) e → Has T ty d → Has T ty e
      → From G n M (lower_select T c v u ty) (Gives T n M ty (pick (eqb x 0) e d))
  unfolding lower_select
  select_step {x = x} {d = d} {e = e} zero v u hc hv hu qd qe =
      let kd = (flag_data T R.bool_first qd).0 in
      let ke = (flag_data T R.bool_first qe).0 in
      let k = pick_flag (eqb x 0) kd ke in
      rw k at (select_one_bit v u hc (rw kd at hv) (rw ke at hu) (rw k (pick_has (eqb x 0) e d qe qd)))
  select_step {n} {x} {M} {c} {d} {e} (suc ty) v u hc hv hu qd qe =
      ◌then◌ G (temporary_at G T ty) (at_it G (◌next◌ G (chosen (suc ty) v u hc hv hu qd qe)
      (chosen_back (suc ty) (pick_has (eqb x 0) e d qe qd) (pick_image (eqb x 0) e d))))
