-- Eight bytes as a word of 64 bits, and the steps by which the code transposes it as a square of eight by eight bits.
use Rattle.std.specs.Prelude.{ℕ, ◌+◌, ◌*◌, ◌/◌, ◌%◌, ◌^◌, ◌<◌, ◌≡◌, List, length, get_or}
use Rattle.std.specs.Int.Bits.{bit_and, bit_xor}
use Rattle.blocks.specs.declared.Places.{Places}
use Rattle.blocks.specs.declared.Direction.{Direction}
use Rattle.blocks.specs.declared.Direction.TheVariants.{ToValves, ToDays}
use Rattle.blocks.specs.Blocks.{packed}

-- the bits of the mask where the word and the word so much farther on differ
unfoldable pub apart : ℕ → ℕ → ℕ → ℕ
apart word distance mask = bit_and (bit_xor word (word / 2 ^ distance)) mask

-- each bit p that the mask has changes places with bit p + distance
unfoldable pub exchanged : ℕ → ℕ → ℕ → ℕ
exchanged word distance mask = bit_xor (bit_xor word (apart word distance mask)) (apart word distance mask * 2 ^ distance % 2 ^ 64)

-- squares of two by two bits, of four by four, and the whole
unfoldable pub transposed_word : ℕ → ℕ
transposed_word word = exchanged (exchanged (exchanged word 7 0x00aa00aa00aa00aa) 14 0x0000cccc0000cccc) 28 0x00000000f0f0f0f0

-- the bytes at from, from + step .., the first lowest
unfoldable pub word_at : List ℕ → ℕ → ℕ → ℕ
word_at xs from step = packed 256 8 0 (λ (i : ℕ). get_or xs (from + step * i) 0)

-- the n lowest bytes of a word stand at to, to + step .., and all other bytes are as before
pub record Spread (word to step n : ℕ) (before after : List ℕ) : Type 0 where
  pub long : length after ≡ length before
  pub there : (i : ℕ) → i < n → get_or after (to + step * i) 0 ≡ word / 2 ^ (8 * i) % 256
  pub kept : (j : ℕ) → ((i : ℕ) → i < n → j ≡ to + step * i → ⊥) → get_or after j 0 ≡ get_or before j 0

-- where square t is read and where it is written: a byte of each of eight days, 8 apart, and those of eight valves, one behind the other
abbrev pub places_of : Direction → ℕ → Places × Places
places_of ToValves t = (record { first = t / 8 * 64 + t % 8; step = 8 }, record { first = t * 8; step = 1 })
places_of ToDays t = (record { first = t * 8; step = 1 }, record { first = t / 8 * 64 + t % 8; step = 8 })
