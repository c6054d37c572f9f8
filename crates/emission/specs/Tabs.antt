-- The definitions' loops over a temporary's bytes and one or two values, as tables: entry j is made of byte j of each.
use Rattle.std.specs.Prelude.{◌≡◌, refl, Bool, true, false, List, ◌∷◌, map, [], ℕ, zero, suc, ◌+◌, ◌-◌, ◌^◌, ◌≤◌, ◌<◌, min, eqb}
use Rattle.std.proofs.Common.{ap, arith, add-zero, ne_eqb}
use Rattle.spec.specs.Lir.{ByteStorage, ByteOperand, BitOperand, immediate, stored, InstructionKind, RotateDirection, rotate, byte_binary, bit_to_byte, copy_byte}
use Rattle.spec.specs.Lir as lir
use Rattle.spec.specs.Allocation.{bytes_from}
use Rattle.spec.specs.Arithmetic.{zip2, zip3, masks, rotates}
use Rattle.spec.specs.Conversions.{bit_to_bytes}
use Rattle.lir.specs.Abstract.{tab, pick}
use Rattle.lir.specs.Tab.{spot}

-- two tables that agree from j on
pub tab_same : {A : Type 0} (f g : ℕ → A) (j n : ℕ) → ((i : ℕ) → j ≤ i → f i ≡ g i) → tab f j n ≡ tab g j n
unfolding tab
tab_same f g j zero h = refl
tab_same f g j (suc n) h = rw (h j (omega arith), tab_same f g (suc j) n (λ i k. h i (omega arith)))

-- ---------------------------------------------------------------- zips stop at the shortest list

zip2_from : (f : ℕ → ByteStorage → ByteOperand → InstructionKind) (l : ℕ → ByteOperand) (s i n m : ℕ)
    → zip2 f i (bytes_from s i n) (tab l i m) ≡ tab (λ j. f j (spot s j) (l j)) i (min n m)
unfolding zip2 bytes_from tab
zip2_from f l s i zero m = let e : min 0 m ≡ 0 = omega arith in rw e
zip2_from f l s i (suc n) zero = let e : min (suc n) 0 ≡ 0 = omega arith in rw e
zip2_from f l s i (suc n) (suc m) = let e : min (suc n) (suc m) ≡ suc (min n m) = omega arith in rw (e, zip2_from f l s (suc i) n m)

pub zip2_tab : (f : ℕ → ByteStorage → ByteOperand → InstructionKind) (l : ℕ → ByteOperand) (s n m : ℕ)
    → zip2 f 0 (bytes_from s 0 n) (tab l 0 m) ≡ tab (λ j. f j (spot s j) (l j)) 0 (min n m)
zip2_tab f l s n m = zip2_from f l s 0 n m

zip3_from : (f : ℕ → ByteStorage → ByteOperand → ByteOperand → InstructionKind) (l r : ℕ → ByteOperand) (s i n m k : ℕ)
    → zip3 f i (bytes_from s i n) (tab l i m) (tab r i k) ≡ tab (λ j. f j (spot s j) (l j) (r j)) i (min n (min m k))
unfolding zip3 bytes_from tab
zip3_from f l r s i zero m k = let e : min 0 (min m k) ≡ 0 = omega arith in rw e
zip3_from f l r s i (suc n) zero k = let e : min (suc n) (min 0 k) ≡ 0 = omega arith in rw e
zip3_from f l r s i (suc n) (suc m) zero = let e : min (suc n) (min (suc m) 0) ≡ 0 = omega arith in rw e
zip3_from f l r s i (suc n) (suc m) (suc k) =
    let e : min (suc n) (min (suc m) (suc k)) ≡ suc (min n (min m k)) = omega arith in
    rw (e, zip3_from f l r s (suc i) n m k)

pub zip3_tab : (f : ℕ → ByteStorage → ByteOperand → ByteOperand → InstructionKind) (l r : ℕ → ByteOperand) (s n m k : ℕ)
    → zip3 f 0 (bytes_from s 0 n) (tab l 0 m) (tab r 0 k) ≡ tab (λ j. f j (spot s j) (l j) (r j)) 0 (min n (min m k))
zip3_tab f l r s n m k = zip3_from f l r s 0 n m k

-- ---------------------------------------------------------------- a bit, a mask, turns

-- the first byte gets the bit, the others 0
abbrev pub bit_byte : Bool → ByteStorage → BitOperand → InstructionKind
bit_byte true d b = bit_to_byte d b
bit_byte false d b = copy_byte d (immediate 0)

zeros_tab : (s i n : ℕ) → map (λ e. copy_byte e (immediate 0)) (bytes_from s i n) ≡ tab (λ j. copy_byte (spot s j) (immediate 0)) i n
unfolding bytes_from tab
zeros_tab s i zero = refl
zeros_tab s i (suc n) = rw (zeros_tab s (suc i) n)

pub bit_tab : (s n : ℕ) (b : BitOperand) → bit_to_bytes (bytes_from s 0 n) b ≡ tab (λ j. bit_byte (eqb j 0) (spot s j) b) 0 n
unfolding bit_to_bytes bytes_from tab
bit_tab s zero b = refl
bit_tab s (suc n) b =
    rw (zeros_tab s 1 n)
    (ap (λ (ks : List InstructionKind). bit_to_byte (spot s 0) b ∷ ks)
    (tab_same (λ j. copy_byte (spot s j) (immediate 0)) (λ j. bit_byte (eqb j 0) (spot s j) b) 1 n (λ i h. rw (ne_eqb i 0 (λ e. omega arith)))))

-- the first turn reads the operand, the others the destination
rotates_stored : (dir : RotateDirection) (d : ByteStorage) (x : ByteOperand) (i n : ℕ) → 1 ≤ i
    → rotates dir d (stored d) n ≡ tab (λ j. rotate dir d (pick (eqb j 0) x (stored d))) i n
unfolding rotates tab
rotates_stored dir d x i zero h = refl
rotates_stored dir d x i (suc n) h = rw (ne_eqb i 0 (λ e. omega arith), rotates_stored dir d x (suc i) n (omega arith))

pub rotates_tab : (dir : RotateDirection) (d : ByteStorage) (x : ByteOperand) (n : ℕ)
    → rotates dir d x n ≡ tab (λ j. rotate dir d (pick (eqb j 0) x (stored d))) 0 n
unfolding rotates tab
rotates_tab dir d x zero = refl
rotates_tab dir d x (suc n) = rw (rotates_stored dir d x 1 n (omega arith))

-- the last byte keeps its k lowest bits
abbrev pub mask : ℕ → ByteStorage → InstructionKind
mask k d = byte_binary lir.and d (stored d) (immediate (2 ^ k - 1))

masks_from : (k s i n : ℕ) → masks (suc k) (bytes_from s i (suc n)) ≡ mask (suc k) (spot s (i + n)) ∷ []
unfolding masks bytes_from
masks_from k s i zero = rw add-zero
masks_from k s i (suc n) = let e : i + suc n ≡ suc i + n = omega arith in rw e (masks_from k s (suc i) n)

pub masks_last : (k s n : ℕ) → 0 < k → 0 < n → masks k (bytes_from s 0 n) ≡ mask k (spot s (n - 1)) ∷ []
masks_last (suc k) s (suc n) h g = let e : suc n - 1 ≡ 0 + n = omega arith in rw e (masks_from k s 0 n)
masks_last zero s n h g = elim h [ ]
masks_last (suc k) s zero h g = elim g [ ]

pub masks_whole : (ds : List ByteStorage) → masks 0 ds ≡ []
unfolding masks
masks_whole ds = refl

pub masks_none : (k s : ℕ) → masks k (bytes_from s 0 0) ≡ []
unfolding masks bytes_from
masks_none zero s = refl
masks_none (suc k) s = refl
