-- What the definitions ask of a list of operands, of a value's bytes: a run, and zeros behind it.
use Rattle.std.specs.Prelude.{◌≡◌, refl, Bool, true, false, List, ◌∷◌, ℕ, zero, suc, ◌/◌, ◌%◌, ◌^◌, ◌<◌, ltb, length, get_or, replicate}
use Rattle.std.proofs.Common.{sym, ◌∙◌, arith, ltb-false, le-ltb}
use Rattle.spec.specs.Lir.{ByteOperand, immediate, stored}
use Rattle.spec.specs.Operands.{all_immediate, lowest_byte}
use Rattle.spec.specs.Arithmetic.{first_operand}
use Rattle.lir.specs.Abstract.{tab, pick, byte_at, source_byte, bytes_of}
use Rattle.lir.specs.declared.Bytes.{Bytes}
use Rattle.lir.specs.declared.Source.{Source}
use Rattle.lir.specs.Tab.{length_tab}
use Rattle.emission.specs.Kinds.{zero_bytes}

abbrev pub is_immediate : ByteOperand → Bool
is_immediate (immediate n) = true
is_immediate (stored s) = false

abbrev pub number_of : ByteOperand → ℕ
number_of (immediate n) = n
number_of (stored s) = 0

pub length_bytes : (b : Bytes) → length (bytes_of b) ≡ b.total
unfolding bytes_of
length_bytes b = length_tab (byte_at b) 0 b.total

-- ---------------------------------------------------------------- no bytes

pub all_empty : (b : Bytes) → b.total ≡ 0 → all_immediate (bytes_of b) ≡ true
unfolding bytes_of tab all_immediate
all_empty b e = rw e

pub lowest_empty : (b : Bytes) → b.total ≡ 0 → lowest_byte (bytes_of b) ≡ 0
unfolding bytes_of tab lowest_byte
lowest_empty b e = rw e

-- ---------------------------------------------------------------- some bytes: the first decides

first_tab : (f : ℕ → ByteOperand) (n : ℕ) → 0 < n → get_or (tab f 0 n) 0 (immediate 0) ≡ f 0
unfolding tab
first_tab f (suc n) h = refl
first_tab f zero h = elim h [ ]

pub first_byte : (b : Bytes) → 0 < b.total → first_operand (bytes_of b) ≡ byte_at b 0
unfolding bytes_of first_operand
first_byte b h = first_tab (byte_at b) b.total h

lowest_of : (x : ByteOperand) (xs : List ByteOperand) → lowest_byte (x ∷ xs) ≡ number_of x
unfolding lowest_byte
lowest_of (immediate n) xs = refl
lowest_of (stored s) xs = refl

lowest_tab : (f : ℕ → ByteOperand) (n : ℕ) → 0 < n → lowest_byte (tab f 0 n) ≡ number_of (f 0)
unfolding tab
lowest_tab f (suc n) h = lowest_of (f 0) (tab f 1 n)
lowest_tab f zero h = elim h [ ]

pub lowest_first : (b : Bytes) → 0 < b.total → lowest_byte (bytes_of b) ≡ number_of (byte_at b 0)
unfolding bytes_of
lowest_first b h = lowest_tab (byte_at b) b.total h

all_tab : (f : ℕ → ByteOperand) (i n : ℕ) → ((j : ℕ) → is_immediate (f j) ≡ true) → all_immediate (tab f i n) ≡ true
unfolding tab all_immediate
all_tab f i zero h = refl
all_tab f i (suc n) h = all_more (f i) (tab f (suc i) n) (h i) (all_tab f (suc i) n h)
  where
    all_more : (x : ByteOperand) (xs : List ByteOperand) → is_immediate x ≡ true → all_immediate xs ≡ true → all_immediate (x ∷ xs) ≡ true
    all_more (immediate n) xs h k = k
    all_more (stored s) xs h k = h

not_tab : (f : ℕ → ByteOperand) (n : ℕ) → 0 < n → is_immediate (f 0) ≡ false → all_immediate (tab f 0 n) ≡ false
unfolding tab all_immediate
not_tab f (suc n) h e = not_more (f 0) (tab f 1 n) e
  where
    not_more : (x : ByteOperand) (xs : List ByteOperand) → is_immediate x ≡ false → all_immediate (x ∷ xs) ≡ false
    not_more (immediate n) xs h = cc
    not_more (stored s) xs h = refl
not_tab f zero h e = elim h [ ]

either_immediate : (t : Bool) (n m : ℕ) → is_immediate (pick t (immediate n) (immediate m)) ≡ true
either_immediate true n m = refl
either_immediate false n m = refl

run_first : (s : Source) (c n : ℕ) → 0 < n
    → all_immediate (tab (λ j. pick (ltb j c) (source_byte s j) (immediate 0)) 0 n) ≡ is_immediate (pick (ltb 0 c) (source_byte s 0) (immediate 0))
run_first (Source.Constant k) c n h =
    all_tab (λ j. pick (ltb j c) (immediate (k / 256 ^ j % 256)) (immediate 0)) 0 n (λ j. either_immediate (ltb j c) (k / 256 ^ j % 256) 0)
    ∙ sym (either_immediate (ltb 0 c) (k / 256 ^ 0 % 256) 0)
run_first (Source.Storage b) c n h = go (ltb 0 c) refl
  where
    f : ℕ → ByteOperand
    f j = pick (ltb j c) (source_byte (Source.Storage b) j) (immediate 0)

    go : (t : Bool) → ltb 0 c ≡ t → all_immediate (tab f 0 n) ≡ is_immediate (f 0)
    go true e = not_tab f n h (rw e) ∙ sym (rw e)
    go false e = let g = ltb-false 0 c e in all_tab f 0 n (λ j. rw (le-ltb j c (omega arith))) ∙ sym (rw e)

-- a run of a storage's bytes begins with one: where the first byte is a constant, all are
pub all_first : (b : Bytes) → 0 < b.total → all_immediate (bytes_of b) ≡ is_immediate (byte_at b 0)
unfolding bytes_of
all_first b h = run_first b.source b.count b.total h

-- ---------------------------------------------------------------- zeros

zeros_from : (f : ℕ → ByteOperand) (i n : ℕ) → ((j : ℕ) → f j ≡ immediate 0) → tab f i n ≡ replicate n (immediate 0)
unfolding tab
zeros_from f i zero h = refl
zeros_from f i (suc n) h = rw (h i, zeros_from f (suc i) n h)

pub zeros : (n : ℕ) → bytes_of (zero_bytes n) ≡ replicate n (immediate 0)
unfolding bytes_of
zeros n = zeros_from (λ j. pick (ltb j 0) (immediate (0 / 256 ^ j % 256)) (immediate 0)) 0 n (λ j. rw (le-ltb j 0 (omega arith)))
