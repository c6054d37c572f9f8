-- Worked blocks, bytes and refusals, by computation.
use Prim.Native.Nat.{ℕ}
use mathlib.Core.Path.{◌≡◌, refl}
use mathlib.Core.List.{List, ◌∷◌, ◌++◌, []}
use lib.ListN.{replicate}
use Rattle.spec.specs.Answer.{refused, accepted}
use Rattle.blocks.specs.Blocks.{bit, packed, listed, gathered_byte, rearranged, transposed, transposed_back, mirrored, all_mirrored}
use Rattle.blocks.specs.Shown.{of_tests, answer}

abbrev zeros : ℕ → List ℕ
zeros n = replicate n 0

-- valve 12 on day 3 alone: bit 3 of byte 1 of its mask, and bit 3 of byte 11
pub one_valve : transposed (zeros 25 ++ 8 ∷ zeros 38) ≡ zeros 11 ++ 8 ∷ zeros 52
unfolding bit packed listed gathered_byte rearranged transposed
one_valve = refl

-- valve 64 on day 0 alone
pub last_valve : transposed (zeros 7 ++ 128 ∷ zeros 56) ≡ zeros 63 ++ 1 ∷ []
unfolding bit packed listed gathered_byte rearranged transposed
last_valve = refl

-- every valve on day 7 alone
pub one_day : transposed (zeros 56 ++ replicate 8 255) ≡ replicate 64 128
unfolding bit packed listed gathered_byte rearranged transposed
one_day = refl

-- two blocks: valve 1 on each day of the second
pub second_block : transposed_back (zeros 64 ++ 255 ∷ zeros 63)
    ≡ zeros 64 ++ 1 ∷ zeros 7 ++ 1 ∷ zeros 7 ++ 1 ∷ zeros 7 ++ 1 ∷ zeros 7 ++ 1 ∷ zeros 7 ++ 1 ∷ zeros 7 ++ 1 ∷ zeros 7 ++ 1 ∷ zeros 7
unfolding bit packed listed gathered_byte rearranged transposed_back
second_block = refl

pub mirrored_bytes : all_mirrored (0 ∷ 1 ∷ 2 ∷ 22 ∷ 128 ∷ 170 ∷ 255 ∷ []) ≡ 0 ∷ 128 ∷ 64 ∷ 104 ∷ 1 ∷ 85 ∷ 255 ∷ []
unfolding bit packed mirrored all_mirrored
mirrored_bytes = refl

-- 39 comes first, whatever the room
pub uneven_first : answer transposed (zeros 65) 0 ≡ refused 39 0
unfolding of_tests answer
uneven_first = refl

pub one_short : answer all_mirrored (zeros 64) 63 ≡ refused 40 0
unfolding of_tests answer
one_short = refl

pub just_fits : answer all_mirrored (replicate 64 1) 64 ≡ accepted (replicate 64 128)
unfolding bit packed mirrored all_mirrored of_tests answer
just_fits = refl

-- no block at all is accepted
pub nothing : answer transposed [] 0 ≡ accepted []
unfolding listed rearranged transposed of_tests answer
nothing = refl
