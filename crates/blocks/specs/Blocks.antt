-- Valve weeks (change request E10): a block is eight masks of eight bytes, one for each day, valve v + 1 as bit v of its mask. Transposed,
-- byte v of the block has valve v + 1, day d as bit d.
use Rattle.std.specs.Prelude.{ℕ, zero, suc, ◌+◌, ◌-◌, ◌*◌, ◌/◌, ◌%◌, ◌^◌, ◌<◌, ◌≡◌, List, ◌∷◌, map, [], length, get_or}

abbrev pub block_length : ℕ
block_length = 64

unfoldable pub bit : ℕ → ℕ → ℕ
bit x i = x / 2 ^ i % 2

-- the number whose n digits in a base, the lowest first, are f i, f (i + 1) ..
unfoldable pub packed : ℕ → ℕ → ℕ → (ℕ → ℕ) → ℕ
packed base zero i f = 0
packed base (suc n) i f = f i + base * packed base n (suc i) f

-- the byte whose bit i is f i
abbrev pub byte : (ℕ → ℕ) → ℕ
byte f = packed 2 8 0 f

-- f i, f (i + 1) .., n of them
unfoldable pub listed : ℕ → ℕ → (ℕ → ℕ) → List ℕ
listed zero i f = []
listed (suc n) i f = f i ∷ listed n (suc i) f

-- the byte whose bit i is bit b of the byte at from + step * i
unfoldable pub gathered_byte : List ℕ → ℕ → ℕ → ℕ → ℕ
gathered_byte xs from step b = byte (λ (i : ℕ). bit (get_or xs (from + step * i) 0) b)

-- in every block, bit i of byte v is bit `number v` of that block's byte `first v` + step * i
unfoldable pub rearranged : (ℕ → ℕ) → ℕ → (ℕ → ℕ) → List ℕ → List ℕ
rearranged first step number xs =
    listed (length xs) 0 (λ (k : ℕ). gathered_byte xs (k / block_length * block_length + first (k % block_length)) step (number (k % block_length)))

-- bit d of byte v is bit v % 8 of byte 8 * d + v / 8
unfoldable pub transposed : List ℕ → List ℕ
transposed xs = rearranged (λ (v : ℕ). v / 8) 8 (λ (v : ℕ). v % 8) xs

-- byte w is that of the valves 8 * (w % 8) + 1 and up on day w / 8: its bit i is bit w / 8 of byte 8 * (w % 8) + i
unfoldable pub transposed_back : List ℕ → List ℕ
transposed_back xs = rearranged (λ (w : ℕ). w % 8 * 8) 1 (λ (w : ℕ). w / 8) xs

-- bit i of a mirrored byte is bit 7 - i of the byte
unfoldable pub mirrored : ℕ → ℕ
mirrored x = byte (λ (i : ℕ). bit x (7 - i))

-- entry x of a table of 256 bytes is x mirrored
pub record Mirrors (table : List ℕ) : Type 0 where
  pub entry : (x : ℕ) → x < 256 → get_or table x 0 ≡ mirrored x

unfoldable pub all_mirrored : List ℕ → List ℕ
all_mirrored xs = map mirrored xs

-- what a slice of bytes holds
pub record Bytes (xs : List ℕ) : Type 0 where
  pub below : (i : ℕ) → get_or xs i 0 < 256
