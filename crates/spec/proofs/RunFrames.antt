-- What a run leaves as it was, and what it writes.
use Prim.Native.Nat.{ℕ, zero, suc, ◌+◌, ◌≤◌, ◌<◌}
use mathlib.Core.Bool.{Bool, true, false, cond}
use mathlib.Core.List.{List, [], ◌∷◌, map}
use Rattle.std.specs.Prelude.{Option, None, Some}
use mathlib.Core.Logic.{◌≢◌}
use mathlib.Core.Path.{◌≡◌, refl, ap, ap₂, ◌∙◌}
use native.Mathlib.Omega.{arith}
use native.Mathlib.Nat.{le_trans}
use lib.Dec.{eqb}
use borrow.Author.Tests.{ne_eqb, eq-eqb}
use lib.ListN.{length, replicate}
use Rattle.spec.specs.Lir.{InstructionKind, ByteStorage, ByteOperand, immediate, stored, add, subtract, byte_binary, not_byte, copy_byte, ByteBinaryOp, RotateDirection}
use Rattle.spec.specs.Operands.{resize}
use Rattle.spec.specs.Allocation.{bytes_from}
use Rattle.spec.specs.Arithmetic.{zip2, zip3, masks, carry_in, carry_out, rotates}
use Rattle.spec.specs.Machine.{Memory, Given, set_byte, set_bit, set_bytes, set_carry, operand, operands, carry_of, defined, effect, rotated, bytes_of, le}
use Rattle.spec.proofs.RunRuns.{effects}
use Rattle.spec.proofs.RunWords.{ripple, mask_last, add_low, add_out, sub_low, sub_out, bitwise_low, same, not_low, copy_low, iterate, resize_list}

abbrev pub at : ℕ → ℕ → ByteStorage
at s o = record { storage = s; offset = o }

-- storages below b are as they were
pub record Agree (b : ℕ) (M M' : Memory) : Type 0 where
  pub bytes : (s o : ℕ) → s < b → M'.byte s o ≡ M.byte s o
  pub bits : (s : ℕ) → s < b → M'.bit s ≡ M.bit s

pub agree_refl : {b : ℕ} {M : Memory} → Agree b M M
agree_refl = record { bytes = λ s o h. refl; bits = λ s h. refl }

pub agree_trans : {b c : ℕ} {M M' M'' : Memory} → b ≤ c → Agree b M M' → Agree c M' M'' → Agree b M M''
agree_trans h p q = record { bytes = λ s o l. q.bytes s o (le_trans l h) ∙ p.bytes s o l; bits = λ s l. q.bits s (le_trans l h) ∙ p.bits s l }

-- what holds of operands as long as storages below b stay: no list of the storages mentioned is needed
pub record Fixed (b : ℕ) (M : Memory) (bs : List ByteOperand) (xs : List ℕ) : Type 0 where
  pub holds : (M' : Memory) → Agree b M M' → operands M' bs ≡ xs

-- ---------------------------------------------------------------- one byte, one bit

pub set_elsewhere : (d : ByteStorage) (v : ℕ) (M : Memory) (s o : ℕ) → s ≢ d.storage → (set_byte d v M).byte s o ≡ M.byte s o
unfolding set_byte
set_elsewhere d v M s o h = rw (ne_eqb s d.storage h)

pub set_beside : (d : ByteStorage) (v : ℕ) (M : Memory) (o : ℕ) → o ≢ d.offset → (set_byte d v M).byte d.storage o ≡ M.byte d.storage o
unfolding set_byte
set_beside d v M o h = rw (eq-eqb d.storage d.storage refl, ne_eqb o d.offset h)

pub set_here : (d : ByteStorage) (v : ℕ) (M : Memory) → (set_byte d v M).byte d.storage d.offset ≡ v
unfolding set_byte
set_here d v M = rw (eq-eqb d.storage d.storage refl, eq-eqb d.offset d.offset refl)

pub bit_here : (d v : ℕ) (M : Memory) → (set_bit d v M).bit d ≡ v
unfolding set_bit
bit_here d v M = rw (eq-eqb d d refl)

pub agree_byte : {b : ℕ} (d : ByteStorage) (v : ℕ) (M : Memory) → b ≤ d.storage → Agree b M (set_byte d v M)
unfolding set_byte
agree_byte d v M h = record { bytes = λ s o l. set_elsewhere d v M s o (λ e. omega arith); bits = λ s l. refl }

pub agree_bit : {b : ℕ} (d v : ℕ) (M : Memory) → b ≤ d → Agree b M (set_bit d v M)
unfolding set_bit
agree_bit d v M h = record { bytes = λ s o l. refl; bits = λ s l. rw (ne_eqb s d (λ e. omega arith)) }

pub carry_bytes : (c : Option ℕ) (v : ℕ) (M : Memory) (s o : ℕ) → (set_carry c v M).byte s o ≡ M.byte s o
unfolding set_carry set_bit
carry_bytes None v M s o = refl
carry_bytes (Some c) v M s o = refl

-- ---------------------------------------------------------------- bytes o and on of storage D

pub record Left (b D o n : ℕ) (M M' : Memory) (vs : List ℕ) : Type 0 where
  pub agree : Agree b M M'
  pub below : (p : ℕ) → p < o → M'.byte D p ≡ M.byte D p
  pub written : operands M' (map stored (bytes_from D o n)) ≡ vs

-- a byte written at o, then the rest behind it
pub left_cons : {b D o n v : ℕ} {M M₁ M' : Memory} {vs : List ℕ}
    → Agree b M M₁ → ((p : ℕ) → p < o → M₁.byte D p ≡ M.byte D p) → M₁.byte D o ≡ v → Left b D (suc o) n M₁ M' vs → Left b D o (suc n) M M' (v ∷ vs)
unfolding bytes_from
left_cons {b} {D} {o} a f e L =
    record {
      agree = agree_trans {b = b} (omega arith) a L.agree;
      below = λ p h. L.below p (omega arith) ∙ f p h;
      written = ap₂ (λ (x : ℕ) (l : List ℕ). x ∷ l) (L.below o (omega arith) ∙ e) L.written;
    }

pub set_bytes_left : (b D : ℕ) → b ≤ D → (n o : ℕ) (vs : List ℕ) (M : Memory) → length vs ≡ n → Left b D o n M (set_bytes (bytes_from D o n) vs M) vs
unfolding set_bytes bytes_from
set_bytes_left b D h zero o [] M e = record { agree = agree_refl; below = λ p _. refl; written = refl }
set_bytes_left b D h zero o (v ∷ vs) M e = absurd (omega arith)
set_bytes_left b D h (suc n) o [] M e = absurd (omega arith)
set_bytes_left b D h (suc n) o (v ∷ vs) M e =
    left_cons (agree_byte (at D o) v M h) (λ p l. set_beside (at D o) v M p (λ q. omega arith)) (set_here (at D o) v M)
    (set_bytes_left b D h n (suc o) vs (set_byte (at D o) v M) (omega arith))

pub left_then : {b D o n : ℕ} {M M₁ M₂ : Memory} {vs ws : List ℕ} → Left b D o n M M₁ vs → Left b D o n M₁ M₂ ws → Left b D o n M M₂ ws
left_then {b} p q = record { agree = agree_trans {b = b} (omega arith) p.agree q.agree; below = λ x h. q.below x h ∙ p.below x h; written = q.written }

pub tails : {x y : ℕ} {xs ys : List ℕ} → x ∷ xs ≡ y ∷ ys → xs ≡ ys
tails e = cc

pub heads : {x y : ℕ} {xs ys : List ℕ} → x ∷ xs ≡ y ∷ ys → x ≡ y
heads e = cc

pub nil_cons : {x : ℕ} {xs : List ℕ} → ◌≡◌ {A = List ℕ} [] (x ∷ xs) → ⊥
nil_cons e = let z : ◌≡◌ {A = ℕ} 0 1 = cc in omega arith

-- ---------------------------------------------------------------- instructions byte by byte, a carry between them

module _ (G : Given) where
  pub record Loop (b N : ℕ) (ins : ℕ → ByteStorage → ByteOperand → ByteOperand → InstructionKind) (f g : ℕ → ℕ → ℕ → ℕ) (cin cout : ℕ → Option ℕ) : Type 0 where
    pub total : (i : ℕ) (d : ByteStorage) (l r : ByteOperand) (M : Memory) → defined (ins i d l r) M ≡ true
    pub does : (i : ℕ) (d : ByteStorage) (l r : ByteOperand) (M : Memory) → effect G (ins i d l r) M
        ≡ set_carry (cout i) (g (carry_of M (cin i)) (operand M l) (operand M r)) (set_byte d (f (carry_of M (cin i)) (operand M l) (operand M r)) M)
    pub next : (i c x y : ℕ) (M M' : Memory) → suc i < N → carry_of M (cin i) ≡ c → carry_of (set_carry (cout i) (g c x y) M') (cin (suc i)) ≡ g c x y
    pub fresh : (i v : ℕ) (M : Memory) → Agree b M (set_carry (cout i) v M)

  module _ {b N D : ℕ} {ins : ℕ → ByteStorage → ByteOperand → ByteOperand → InstructionKind} {f g : ℕ → ℕ → ℕ → ℕ} {cin cout : ℕ → Option ℕ}
      (L : Loop b N ins f g cin cout) (h : b ≤ D) where
    pub loop_run : (n i o c : ℕ) (xs ys : List ℕ) (ls rs : List ByteOperand) (M : Memory)
        → i + n ≡ N → Fixed b M ls xs → Fixed b M rs ys → length xs ≡ n → length ys ≡ n → (0 < n → carry_of M (cin i) ≡ c)
        → Left b D o n M (effects G (zip3 ins i (bytes_from D o n) ls rs) M) (ripple f g c xs ys)
    unfolding ripple bytes_from zip3
    loop_run zero i o c [] ys ls rs M hN hl hr ex ey ec = record { agree = agree_refl; below = λ p _. refl; written = refl }
    loop_run zero i o c (x ∷ xs) ys ls rs M hN hl hr ex ey ec = absurd (omega arith)
    loop_run (suc n) i o c [] ys ls rs M hN hl hr ex ey ec = absurd (omega arith)
    loop_run (suc n) i o c (x ∷ xs) [] ls rs M hN hl hr ex ey ec = absurd (omega arith)
    loop_run (suc n) i o c (x ∷ xs) (y ∷ ys) [] rs M hN hl hr ex ey ec = absurd (nil_cons (hl.holds M agree_refl))
    loop_run (suc n) i o c (x ∷ xs) (y ∷ ys) (l ∷ ls) [] M hN hl hr ex ey ec = absurd (nil_cons (hr.holds M agree_refl))
    loop_run (suc n) i o c (x ∷ xs) (y ∷ ys) (l ∷ ls) (r ∷ rs) M hN hl hr ex ey ec =
        rw (e_m, effects)
        (left_cons a₂ (λ p q. carry_bytes (cout i) _ _ D p ∙ set_beside (at D o) _ M p (λ z. omega arith)) (carry_bytes (cout i) _ _ D o ∙ set_here (at D o) _ M)
        (loop_run n (suc i) (suc o) (g c x y) xs ys ls rs M₂ (omega arith)
        (record { holds = λ M' q. tails (hl.holds M' (agree_trans {b = b} (omega arith) a₂ q)) }) (record { holds = λ M' q. tails (hr.holds M' (agree_trans {b = b} (omega arith) a₂ q)) })
        (omega arith) (omega arith) (λ z. L.next i c x y M _ (omega arith) (ec (omega arith)))))
      where
        M₂ : Memory
        M₂ = set_carry (cout i) (g c x y) (set_byte (at D o) (f c x y) M)

        e_m : effect G (ins i (at D o) l r) M ≡ M₂
        e_m = L.does i (at D o) l r M ∙ rw (ec (omega arith), heads (hl.holds M agree_refl), heads (hr.holds M agree_refl))

        a₂ : Agree b M M₂
        a₂ = agree_trans {b = b} (omega arith) (agree_byte (at D o) (f c x y) M h) (L.fresh i (g c x y) _)

  -- the mask's instruction, where there is one
  pub mask_run : (b D : ℕ) → b ≤ D → (r k o : ℕ) (M : Memory)
      → Left b D o k M (effects G (masks r (bytes_from D o k)) M) (mask_last r (operands M (map stored (bytes_from D o k))))
  unfolding mask_last masks effect bytes_from
  mask_run b D h zero k o M = record { agree = agree_refl; below = λ p _. refl; written = refl }
  mask_run b D h (suc r) zero o M = record { agree = agree_refl; below = λ p _. refl; written = refl }
  mask_run b D h (suc r) (suc zero) o M =
      left_cons (agree_byte (at D o) _ M h) (λ p l. set_beside (at D o) _ M p (λ q. omega arith)) (set_here (at D o) _ M)
      (record { agree = agree_refl; below = λ p _. refl; written = refl })
  mask_run b D h (suc r) (suc (suc k)) o M = left_cons agree_refl (λ p _. refl) refl (mask_run b D h (suc r) (suc k) (suc o) M)

  -- ------------------------------------------------------------ the instructions

  carried : (b C N i v : ℕ) (M : Memory) → b ≤ C → (t : Bool) → Agree b M (set_carry (cond t None (Some C)) v M)
  unfolding set_carry
  carried b C N i v M h true = agree_refl
  carried b C N i v M h false = agree_bit C v M h

  goes_on : (C N i v : ℕ) (M : Memory) → suc i < N → carry_of (set_carry (carry_out C N i) v M) (Some C) ≡ v
  unfolding set_carry
  goes_on C N i v M h = rw (ne_eqb (suc i) N (λ e. omega arith)) (bit_here C v M)

  pub add_loop : (b N C : ℕ) → b ≤ C → Loop b N (λ i d l r. add d l r (carry_in C i) (carry_out C N i)) add_low add_out (carry_in C) (carry_out C N)
  unfolding effect defined
  add_loop b N C h = record { total = λ i d l r M. refl; does = λ i d l r M. refl; next = λ i c x y M M' l e. goes_on C N i _ M' l; fresh = λ i v M. carried b C N i v M h (eqb (suc i) N) }

  pub sub_loop : (b N C : ℕ) → b ≤ C → Loop b N (λ i d l r. subtract d l r (carry_in C i) (carry_out C N i)) sub_low sub_out (carry_in C) (carry_out C N)
  unfolding effect defined
  sub_loop b N C h = record { total = λ i d l r M. refl; does = λ i d l r M. refl; next = λ i c x y M M' l e. goes_on C N i _ M' l; fresh = λ i v M. carried b C N i v M h (eqb (suc i) N) }

  pub neg_loop : (b N C : ℕ) → b ≤ C
      → Loop b N (λ i d l r. subtract d (immediate 0) l (carry_in C i) (carry_out C N i)) (λ c x y. sub_low c 0 x) (λ c x y. sub_out c 0 x) (carry_in C) (carry_out C N)
  unfolding effect defined
  neg_loop b N C h = record { total = λ i d l r M. refl; does = λ i d l r M. refl; next = λ i c x y M M' l e. goes_on C N i _ M' l; fresh = λ i v M. carried b C N i v M h (eqb (suc i) N) }

  abbrev pub no_carry : ℕ → Option ℕ
  no_carry i = None

  pub bitwise_loop : (b N : ℕ) (op : ByteBinaryOp) → Loop b N (λ i d l r. byte_binary op d l r) (bitwise_low op) same no_carry no_carry
  unfolding effect defined set_carry
  bitwise_loop b N op = record { total = λ i d l r M. refl; does = λ i d l r M. refl; next = λ i c x y M M' l e. e; fresh = λ i v M. agree_refl }

  pub not_loop : (b N : ℕ) → Loop b N (λ i d l r. not_byte d l) not_low same no_carry no_carry
  unfolding effect defined set_carry
  not_loop b N = record { total = λ i d l r M. refl; does = λ i d l r M. refl; next = λ i c x y M M' l e. e; fresh = λ i v M. agree_refl }

  pub copy_loop : (b N : ℕ) → Loop b N (λ i d l r. copy_byte d l) copy_low same no_carry no_carry
  unfolding effect defined set_carry
  copy_loop b N = record { total = λ i d l r M. refl; does = λ i d l r M. refl; next = λ i c x y M M' l e. e; fresh = λ i v M. agree_refl }

  -- ------------------------------------------------------------ one byte rotated place by place

  one_byte : {b D v : ℕ} {M : Memory} → b ≤ D → Left b D 0 1 M (set_byte (at D 0) v M) (v ∷ [])
  unfolding bytes_from
  one_byte {b} {D} {v} {M} h =
      left_cons (agree_byte (at D 0) v M h) (λ p l. absurd (omega arith)) (set_here (at D 0) v M) (record { agree = agree_refl; below = λ p _. refl; written = refl })

  pub rotates_run : (b D : ℕ) → b ≤ D → (dir : RotateDirection) (n : ℕ) (x : ByteOperand) (M : Memory)
      → Left b D 0 1 M (effects G (rotates dir (at D 0) x (suc n)) M) (iterate (suc n) (rotated dir) (operand M x) ∷ [])
  unfolding effect defined rotates
  rotates_run b D h dir zero x M = one_byte h
  rotates_run b D h dir (suc n) x M =
      left_then (one_byte h)
      (rw (set_here (at D 0) (rotated dir (operand M x)) M) at (rotates_run b D h dir n (stored (at D 0)) (set_byte (at D 0) (rotated dir (operand M x)) M)))

  pub copy_run : (b D : ℕ) → b ≤ D → (x : ByteOperand) (M : Memory) → Left b D 0 1 M (effects G (copy_byte (at D 0) x ∷ []) M) (operand M x ∷ [])
  unfolding effect defined
  copy_run b D h x M = one_byte h

  -- zeros behind a bit's byte
  pub zeros_run : (b D : ℕ) → b ≤ D → (k o : ℕ) (M : Memory) → Left b D o k M (effects G (map (λ e. copy_byte e (immediate 0)) (bytes_from D o k)) M) (bytes_of k 0)
  unfolding effect bytes_of bytes_from
  zeros_run b D h zero o M = record { agree = agree_refl; below = λ p _. refl; written = refl }
  zeros_run b D h (suc k) o M =
      left_cons (agree_byte (at D o) 0 M h) (λ p l. set_beside (at D o) 0 M p (λ q. omega arith)) (set_here (at D o) 0 M) (zeros_run b D h k (suc o) (set_byte (at D o) 0 M))

pub zip2_zip3 : (f : ℕ → ByteStorage → ByteOperand → InstructionKind) (i : ℕ) (ds : List ByteStorage) (bs : List ByteOperand) → zip2 f i ds bs ≡ zip3 (λ j d l r. f j d l) i ds bs bs
unfolding zip2 zip3
zip2_zip3 f i [] bs = refl
zip2_zip3 f i (d ∷ ds) [] = refl
zip2_zip3 f i (d ∷ ds) (b ∷ bs) = ap (λ (l : List InstructionKind). f i d b ∷ l) (zip2_zip3 f (suc i) ds bs)

-- what stands in a storage below b stays there
pub fixed_stored : (b D : ℕ) → D < b → (n o : ℕ) (M : Memory) (vs : List ℕ) → operands M (map stored (bytes_from D o n)) ≡ vs → Fixed b M (map stored (bytes_from D o n)) vs
unfolding bytes_from
fixed_stored b D h n o M vs e = record { holds = λ M' a. unmoved n o M' a ∙ e }
  where
    unmoved : (n o : ℕ) (M' : Memory) → Agree b M M' → operands M' (map stored (bytes_from D o n)) ≡ operands M (map stored (bytes_from D o n))
    unmoved zero o M' a = refl
    unmoved (suc n) o M' a = ap₂ (λ (x : ℕ) (l : List ℕ). x ∷ l) (a.bytes D o h) (unmoved n (suc o) M' a)

pub resize_run : (k : ℕ) (M : Memory) (bs : List ByteOperand) → operands M (resize k bs) ≡ resize_list k (operands M bs)
unfolding resize_list resize
resize_run zero M bs = refl
resize_run (suc k) M [] = ap (λ (l : List ℕ). 0 ∷ l) (resize_run k M [])
resize_run (suc k) M (b ∷ bs) = ap (λ (l : List ℕ). operand M b ∷ l) (resize_run k M bs)

pub zeros_le : (k : ℕ) (M : Memory) → le (operands M (replicate k (immediate 0))) ≡ 0
unfolding le
zeros_le zero M = refl
zeros_le (suc k) M = let h = zeros_le k M in omega arith
