-- What the pieces of a select leave, one after another and byte by byte.
use Rattle.std.specs.Prelude.{◌≡◌, false, List, ◌∷◌, [], map, ℕ, zero, suc, ◌+◌, ◌-◌, ◌*◌, ◌≤◌, ◌<◌, min, length, Result, Ok, Err}
use Rattle.std.proofs.Common.{refl, ◌∙◌, arith, add-one, append-nil}
use Rattle.answers.specs.declared.Refusal.{Refusal}
use Rattle.answers.specs.Refusals.{refusal_number}
use Rattle.spec.specs.Hir.{At}
use Rattle.spec.specs.Lir as spec
use Rattle.spec.specs.Lir.{BitOperand, stored_bit, ByteOperand, ValueOperand, byte_operand, InstructionKind, select_byte, select_bit, bit_to_byte, select_bool, ValueStorage}
use Rattle.spec.specs.Monad.{Lower, done, refused, nothing, ◌>>◌, refuse, emit, emits}
use Rattle.spec.specs.Monad as monad
use Rattle.spec.specs.Allocation.{allocate_bit_temporary}
use Rattle.spec.specs.Select.{select_as_byte, select_piece, select_pieces}
use Rattle.lir.specs.declared.Bytes.{Bytes}
use Rattle.lir.specs.Abstract.{tab, byte_at, bytes_of}
use Rattle.lir.specs.Tab.{spot, length_tab}
use Rattle.emission.specs.declared.emitter.Emitter.{Emitter}
use Rattle.emission.specs.Appends.{counters_of, Room, append_none, keeps_all, keeps_then, room_less}
use Rattle.emission.specs.Emits.{Emits, Allocates, emits_then}
use Rattle.emission.specs.Does.{Does, Meets, MeetsBy, meets_done, meets_refused, does_next, does_more, does_emits, does_allocating, does_keeps, room_done}
use Rattle.values.specs.declared.Value.{Value as Val}
use Rattle.values.specs.declared.Repr.{Repr as Rep}
use Rattle.values.specs.Heads.{head_of, operands_of}
use Rattle.values.specs.Stack.{values_in}
use Rattle.parts.specs.Records.{heads_in}
use Rattle.selects.specs.Selecting.{target, byte_selected}

-- ---------------------------------------------------------------- steps that append to the code alone

-- a step that appends nothing
pub meets_nothing : {n : ℕ} {e : Emitter} {m : Lower Unit} → ((h : At) (d : monad.Counters) → m h d ≡ done tt d nothing) → Meets n e m e (Ok tt)
meets_nothing {e = e} g =
    record {
      shown = record {
        storages = [];
        kinds = [];
        is = λ h. g h (counters_of e);
        appends = λ h p. append_none e;
        node = refl;
        few_storages = omega arith;
        few_kinds = omega arith;
      };
    }

-- a refusal
pub meets_stop : {n : ℕ} {e : Emitter} {m : Lower Unit} (r : Refusal) → ((h : At) (d : monad.Counters) → m h d ≡ refused (refusal_number r) h.line) → Meets n e m e (Err r)
meets_stop {e = e} r g = record { shown = (record { is = λ h. g h (counters_of e) }, keeps_all e) }

same_by : (n k : ℕ) (e e1 : Emitter) (m m1 : Lower Unit) → k ≤ n → ((h : At) (d : monad.Counters) → m h d ≡ m1 h d) → (r : Result Unit Refusal) → MeetsBy k e m1 e1 r → MeetsBy n e m e1 r
same_by n k e e1 m m1 f g (Ok u) x =
    does_more f
    (record {
      storages = x.storages;
      kinds = x.kinds;
      is = λ h. g h (counters_of e) ∙ x.is h;
      appends = x.appends;
      node = x.node;
      few_storages = x.few_storages;
      few_kinds = x.few_kinds;
    })
same_by n k e e1 m m1 f g (Err j) x = (record { is = λ h. g h (counters_of e) ∙ x.0.is h }, x.1)

-- the same of a step that answers the same
pub meets_same : {n k : ℕ} {e e1 : Emitter} {m m1 : Lower Unit} {r : Result Unit Refusal} → k ≤ n → ((h : At) (d : monad.Counters) → m h d ≡ m1 h d) → Meets k e m1 e1 r → Meets n e m e1 r
meets_same {n} {k} {e} {e1} {m} {m1} {r} f g w = record { shown = same_by n k e e1 m m1 f g r w.shown }

more_by : (j k : ℕ) (e e1 e2 : Emitter) (p m : Lower Unit) → Does j e p tt e1 → (r : Result Unit Refusal) → MeetsBy k e1 m e2 r → MeetsBy (j + k) e (p >> m) e2 r
unfolding ◌>>◌
more_by j k e e1 e2 p m a (Ok u) x = does_next a x
more_by j k e e1 e2 p m a (Err i) x = (record { is = λ h. rw (a.is h, x.0.is h) refl }, keeps_then (does_keeps a) x.1)

-- a step, and then another
pub meets_more : {j k : ℕ} {e e1 e2 : Emitter} {p m : Lower Unit} {r : Result Unit Refusal} → Does j e p tt e1 → Meets k e1 m e2 r → Meets (j + k) e (p >> m) e2 r
meets_more {j} {k} {e} {e1} {e2} {p} {m} {r} a w = record { shown = more_by j k e e1 e2 p m a r w.shown }

-- what is refused first is refused
pub meets_first : {j n : ℕ} {e e1 : Emitter} {p : Lower Unit} (m : Lower Unit) {r : Refusal} → Meets j e p e1 (Err r) → Meets n e (p >> m) e1 (Err r)
unfolding ◌>>◌
meets_first m w = let x = meets_refused w refl in record { shown = (record { is = λ h. rw (x.0.is h) refl }, x.1) }

-- the same that is done
pub does_same : {n : ℕ} {e e1 : Emitter} {m m1 : Lower Unit} → ((h : At) (d : monad.Counters) → m h d ≡ m1 h d) → Does n e m1 tt e1 → Does n e m tt e1
does_same {n} {e} {e1} {m} {m1} g x = same_by n n e e1 m m1 (omega arith) g (Ok tt) x

-- ---------------------------------------------------------------- one piece

-- a new bit, the choice into it, and the byte that it becomes
pub bit_chosen : {q : BitOperand} {d : spec.ByteStorage} {x y : BitOperand} {b : ℕ} {e e1 e2 e3 : Emitter} → Allocates e (allocate_bit_temporary select_bool) b e1
    → Emits e1 (select_bit b q x y ∷ []) e2 → Emits e2 (bit_to_byte d (stored_bit b) ∷ []) e3 → Does 2 e (select_as_byte q d x y) tt e3
unfolding select_as_byte ◌>>◌
bit_chosen {q} {d} {x} {y} a f g =
    does_allocating {n = 2} (λ b. emit (select_bit b q x y) >> emit (bit_to_byte d (stored_bit b))) (omega arith) (omega arith) a (emits_then f g) (λ h m. refl)

-- an instruction, or none
pub piece_made : {e e1 : Emitter} {k : InstructionKind} → Emits e (k ∷ []) e1 → Meets 2 e (emit k) e1 (Ok tt)
piece_made a = record { shown = does_emits {n = 2} (omega arith) a }

pub piece_done : {e e1 : Emitter} {m : Lower Unit} → Does 2 e m tt e1 → Meets 2 e m e1 (Ok tt)
piece_done x = record { shown = x }

pub piece_unlike : {e : Emitter} → Meets 2 e (refuse 24) e (Err Refusal.UnsupportedExpression)
piece_unlike = meets_stop Refusal.UnsupportedExpression (λ h d. refl)

-- ---------------------------------------------------------------- all pieces

tab_first : {A : Type 0} (g : ℕ → A) (i n : ℕ) → i < n → tab g i (n - i) ≡ g i ∷ tab g (i + 1) (n - (i + 1))
unfolding tab
tab_first g i n h = let e : n - i ≡ suc (n - (i + 1)) = omega arith in rw (e, add-one)

-- of the n pieces those from i on are left: what these leave, the whole leaves
pub record Rest (q : BitOperand) (g : ℕ → ValueStorage) (n : ℕ) (e : Emitter) (ts fs : List ValueOperand) (i : ℕ) (e1 : Emitter) (ts1 fs1 : List ValueOperand) : Type 0 where
  pub room : Room (2 * (n - i)) e1
  pub whole : {e2 : Emitter} {r : Result Unit Refusal} → Meets (2 * (n - i)) e1 (select_pieces q (tab g i (n - i)) ts1 fs1) e2 r → Meets (2 * n) e (select_pieces q (tab g 0 n) ts fs) e2 r

module _ {q : BitOperand} {g : ℕ → ValueStorage} {n : ℕ} {e : Emitter} {ts fs : List ValueOperand} where
  -- before the first piece
  pub rest_all : Room (2 * n) e → Rest q g n e ts fs 0 e ts fs
  rest_all r = let z : n - 0 ≡ n = omega arith in record { room = rw z r; whole = λ x. rw z at x }

  module _ {i : ℕ} {e1 : Emitter} {ts1 fs1 : List ValueOperand} (k : Rest q g n e ts fs i e1 ts1 fs1) where
    -- behind the last piece
    pub rest_none : n ≤ i → Meets (2 * n) e (select_pieces q (tab g 0 n) ts fs) e1 (Ok tt)
    unfolding select_pieces tab
    rest_none h = let z : n - i ≡ 0 = omega arith in k.whole (meets_nothing (λ a d. rw z))

    module _ (h : i < n) where
      pub rest_room : Room 2 e1
      rest_room = room_less (omega arith) k.room

      -- a side is over
      pub first_over : ts1 ≡ [] → Meets (2 * n) e (select_pieces q (tab g 0 n) ts fs) e1 (Ok tt)
      unfolding select_pieces
      first_over z = k.whole (meets_nothing (λ a d. rw (tab_first g i n h, z)))

      pub second_over : {x : ValueOperand} {ts2 : List ValueOperand} → ts1 ≡ x ∷ ts2 → fs1 ≡ [] → Meets (2 * n) e (select_pieces q (tab g 0 n) ts fs) e1 (Ok tt)
      unfolding select_pieces
      second_over z w = k.whole (meets_nothing (λ a d. rw (tab_first g i n h, z, w)))

      module _ {x y : ValueOperand} {ts2 fs2 : List ValueOperand} (z : ts1 ≡ x ∷ ts2) (w : fs1 ≡ y ∷ fs2) {e2 : Emitter} {r : Result Unit Refusal} (p : Meets 2 e1 (select_piece q (g i) x y) e2 r) where
        -- a piece, and then the others
        piece_then : {e3 : Emitter} {r3 : Result Unit Refusal} → Meets (2 * (n - i)) e1 (select_piece q (g i) x y >> select_pieces q (tab g (i + 1) (n - (i + 1))) ts2 fs2) e3 r3
            → Meets (2 * n) e (select_pieces q (tab g 0 n) ts fs) e3 r3
        unfolding select_pieces
        piece_then m = k.whole (meets_same (omega arith) (λ a d. rw (tab_first g i n h, z, w)) m)

        pub piece_refused : {f : Refusal} → r ≡ Err f → Meets (2 * n) e (select_pieces q (tab g 0 n) ts fs) e2 (Err f)
        piece_refused f = piece_then (meets_first _ (rw f at p))

        -- a piece more
        pub piece_more : {t : Unit {0}} → r ≡ Ok t → Rest q g n e ts fs (i + 1) e2 ts2 fs2
        piece_more f =
            let d = meets_done p f in
            let s : 2 * (n - i) ≡ 2 + 2 * (n - (i + 1)) = omega arith in
            record { room = room_done {n = 2} (rw s at k.room) d; whole = λ v. piece_then (rw s (meets_more d v)) }

-- ---------------------------------------------------------------- bytes alone

-- pieces of bytes stop at the shortest list
pieces_from : (q : BitOperand) (s : ℕ) (x y : ℕ → ByteOperand) (i n m k : ℕ) (h : At) (d : monad.Counters)
    → select_pieces q (tab (target s false) i n) (map byte_operand (tab x i m)) (map byte_operand (tab y i k)) h d ≡ emits (tab (λ j. select_byte (spot s j) q (x j) (y j)) i (min n (min m k))) h d
unfolding select_pieces select_piece tab ◌>>◌
pieces_from q s x y i zero m k h d = let e : min 0 (min m k) ≡ 0 = omega arith in rw e
pieces_from q s x y i (suc n) zero k h d = let e : min (suc n) (min 0 k) ≡ 0 = omega arith in rw e
pieces_from q s x y i (suc n) (suc m) zero h d = let e : min (suc n) (min (suc m) 0) ≡ 0 = omega arith in rw e
pieces_from q s x y i (suc n) (suc m) (suc k) h d =
    let e : min (suc n) (min (suc m) (suc k)) ≡ suc (min n (min m k)) = omega arith in
    rw (e, pieces_from q s x y (suc i) n m k h d)

-- byte by byte, as far as both sides go
pub pieces_bytes : (q : BitOperand) (s n : ℕ) (x y : Bytes) {m : ℕ} {e e1 : Emitter} → m ≡ min n (min x.total y.total) → Emits e (tab (byte_selected s q x y) 0 m) e1
    → Meets (2 * n) e (select_pieces q (tab (target s false) 0 n) (map byte_operand (bytes_of x)) (map byte_operand (bytes_of y))) e1 (Ok tt)
unfolding bytes_of
pieces_bytes q s n x y {m} p a =
    meets_same {k = n} (omega arith) (λ h d. rw p (pieces_from q s (byte_at x) (byte_at y) 0 n x.total y.total h d))
    (record { shown = does_emits (rw length_tab (omega (arith, p))) a })

-- the operands of a value of bytes with no records behind it
pub bytes_alone : (v : Val) (ws : List ℕ) {b : Bytes} → v.repr ≡ Rep.Bytes b → length ws ≡ 0 → operands_of (head_of v ∷ heads_in ws) ≡ map byte_operand (bytes_of b)
unfolding values_in
bytes_alone v [] {b} e h = rw e (append-nil (map byte_operand (bytes_of b)))
bytes_alone v (w ∷ ws) e h = absurd (omega arith)

pub shortest : (n x y : ℕ) {k m : ℕ} → k ≡ min n x → m ≡ min k y → m ≡ min n (min x y)
shortest n x y e f = rw (f, e) (omega arith)
