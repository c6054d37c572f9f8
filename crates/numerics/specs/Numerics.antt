-- WebAssembly Core Specification, chapter Numerics, "Integer Operations", at a width N. The operands i and j are numbers
-- below 2 ^ N; so is every result but a truth value, which is 0 or 1. Where the specification leaves a result undefined, it is `none`.
use Rattle.std.specs.Prelude.{ℕ, zero, suc, ◌+◌, ◌-◌, ◌*◌, ◌/◌, ◌%◌, ◌^◌, min, Bool, true, false, not, ℤ, pos, negsuc, ◌+ℤ◌, ◌-ℤ◌, ◌==◌, bit_and, bit_or, bit_xor, int_div, int_le, int_lt, int_rem, nat_le, nat_lt}
use Rattle.std.specs.Prelude.{Option, None, Some}
use Rattle.std.proofs.Math.IntN.{sub_ℕ}

-- a condition as a number: 1 if it holds, 0 if not
abbrev pub truth : Bool → ℕ
truth true = 1
truth false = 0

-- undefined where the condition holds
abbrev pub undefined_if : Bool → Option ℕ → Option ℕ
undefined_if true r = None
undefined_if false r = r

-- ---------------------------------------------------------------- signed readings

abbrev signed_by : Bool → ℕ → ℕ → ℤ
signed_by true N i = pos i
signed_by false N i = sub_ℕ i (2 ^ N)

-- signed_N(i): i below 2 ^ (N - 1), else i - 2 ^ N
unfoldable pub signed : ℕ → ℕ → ℤ
signed N i = signed_by (nat_lt (i * 2) (2 ^ N)) N i

-- signed_N's inverse; of any other integer, the number below 2 ^ N that is congruent to it
unfoldable pub unsigned : ℕ → ℤ → ℕ
unsigned N (pos n) = n % 2 ^ N
unsigned N (negsuc n) = 2 ^ N - 1 - n % 2 ^ N

-- sat_u_N: the number from 0 to 2 ^ N - 1 that is nearest
unfoldable pub sat_u : ℕ → ℤ → ℕ
sat_u N (pos n) = min n (2 ^ N - 1)
sat_u N (negsuc n) = 0

-- sat_s_N: signed_N's inverse of the integer from - 2 ^ (N - 1) to 2 ^ (N - 1) - 1 that is nearest (negsuc n is - 1 - n)
unfoldable pub sat_s : ℕ → ℤ → ℕ
sat_s N (pos n) = unsigned N (pos (min n (2 ^ (N - 1) - 1)))
sat_s N (negsuc n) = unsigned N (negsuc (min n (2 ^ (N - 1) - 1)))

abbrev equals : ℤ → ℕ → Bool
equals (pos n) m = n == m
equals (negsuc n) m = false

-- ---------------------------------------------------------------- arithmetic

unfoldable pub iadd : ℕ → ℕ → ℕ → ℕ
iadd N i j = (i + j) % 2 ^ N

unfoldable pub isub : ℕ → ℕ → ℕ → ℕ
isub N i j = (i + 2 ^ N - j) % 2 ^ N

unfoldable pub imul : ℕ → ℕ → ℕ → ℕ
imul N i j = (i * j) % 2 ^ N

unfoldable pub idiv_u : ℕ → ℕ → ℕ → Option ℕ
idiv_u N i j = undefined_if (j == 0) (Some (i / j))

-- undefined also for the quotient 2 ^ (N - 1), which has no signed reading
unfoldable pub idiv_s : ℕ → ℕ → ℕ → Option ℕ
idiv_s N i j =
    let q : ℤ = int_div (signed N i) (signed N j) in
    undefined_if (j == 0) (undefined_if (equals q (2 ^ (N - 1))) (Some (unsigned N q)))

unfoldable pub irem_u : ℕ → ℕ → ℕ → Option ℕ
irem_u N i j = undefined_if (j == 0) (Some (i % j))

-- with the dividend's sign
unfoldable pub irem_s : ℕ → ℕ → ℕ → Option ℕ
irem_s N i j = undefined_if (j == 0) (Some (unsigned N (int_rem (signed N i) (signed N j))))

unfoldable pub ineg : ℕ → ℕ → ℕ
ineg N i = (2 ^ N - i) % 2 ^ N

unfoldable pub iadd_sat_u : ℕ → ℕ → ℕ → ℕ
iadd_sat_u N i j = sat_u N (pos (i + j))

unfoldable pub iadd_sat_s : ℕ → ℕ → ℕ → ℕ
iadd_sat_s N i j = sat_s N (signed N i +ℤ signed N j)

unfoldable pub isub_sat_u : ℕ → ℕ → ℕ → ℕ
isub_sat_u N i j = sat_u N (sub_ℕ i j)

unfoldable pub isub_sat_s : ℕ → ℕ → ℕ → ℕ
isub_sat_s N i j = sat_s N (signed N i -ℤ signed N j)

-- ---------------------------------------------------------------- bits

unfoldable pub inot : ℕ → ℕ → ℕ
inot N i = 2 ^ N - 1 - i

unfoldable pub iand : ℕ → ℕ → ℕ → ℕ
iand N i j = bit_and i j

unfoldable pub ior : ℕ → ℕ → ℕ → ℕ
ior N i j = bit_or i j

unfoldable pub ixor : ℕ → ℕ → ℕ → ℕ
ixor N i j = bit_xor i j

-- the bits of i moved by k places, k below N: those that leave are lost ..
unfoldable pub shifted_left : ℕ → ℕ → ℕ → ℕ
shifted_left N i k = (i * 2 ^ k) % 2 ^ N

unfoldable pub shifted_right : ℕ → ℕ → ℕ → ℕ
shifted_right N i k = i / 2 ^ k

-- .. or come in at the other end
unfoldable pub rotated_left : ℕ → ℕ → ℕ → ℕ
rotated_left N i k = (i * 2 ^ k) % 2 ^ N + i / 2 ^ (N - k)

unfoldable pub rotated_right : ℕ → ℕ → ℕ → ℕ
rotated_right N i k = i / 2 ^ k + (i * 2 ^ (N - k)) % 2 ^ N

-- the k highest of N bits, all set
unfoldable pub top_bits : ℕ → ℕ → ℕ
top_bits N k = 2 ^ N - 2 ^ (N - k)

-- the most significant bit
unfoldable pub sign_bit : ℕ → ℕ → ℕ
sign_bit N i = truth (nat_le (2 ^ N) (i * 2))

-- every shift and rotate takes its distance modulo N
unfoldable pub ishl : ℕ → ℕ → ℕ → ℕ
ishl N i j = shifted_left N i (j % N)

unfoldable pub ishr_u : ℕ → ℕ → ℕ → ℕ
ishr_u N i j = shifted_right N i (j % N)

unfoldable pub ishr_s : ℕ → ℕ → ℕ → ℕ
ishr_s N i j = shifted_right N i (j % N) + sign_bit N i * top_bits N (j % N)

unfoldable pub irotl : ℕ → ℕ → ℕ → ℕ
irotl N i j = rotated_left N i (j % N)

unfoldable pub irotr : ℕ → ℕ → ℕ → ℕ
irotr N i j = rotated_right N i (j % N)

-- of the n lowest bits of i: how many are left once the leading zeros are gone, the trailing zeros, the ones
unfoldable pub significant : ℕ → ℕ → ℕ
significant zero i = 0
significant (suc n) i = elim (i == 0) [ true ↦ 0 | false ↦ suc (significant n (i / 2)) ]

unfoldable pub trailing : ℕ → ℕ → ℕ
trailing zero i = 0
trailing (suc n) i = elim (i % 2 == 0) [ true ↦ suc (trailing n (i / 2)) | false ↦ 0 ]

unfoldable pub ones : ℕ → ℕ → ℕ
ones zero i = 0
ones (suc n) i = i % 2 + ones n (i / 2)

-- all N where i is 0
unfoldable pub iclz : ℕ → ℕ → ℕ
iclz N i = N - significant N i

unfoldable pub ictz : ℕ → ℕ → ℕ
ictz N i = trailing N i

unfoldable pub ipopcnt : ℕ → ℕ → ℕ
ipopcnt N i = ones N i

-- ---------------------------------------------------------------- tests and comparisons

unfoldable pub ieqz : ℕ → ℕ → ℕ
ieqz N i = truth (i == 0)

unfoldable pub ieq : ℕ → ℕ → ℕ → ℕ
ieq N i j = truth (i == j)

unfoldable pub ine : ℕ → ℕ → ℕ → ℕ
ine N i j = truth (not (i == j))

unfoldable pub ilt_u : ℕ → ℕ → ℕ → ℕ
ilt_u N i j = truth (nat_lt i j)

unfoldable pub ilt_s : ℕ → ℕ → ℕ → ℕ
ilt_s N i j = truth (int_lt (signed N i) (signed N j))

unfoldable pub igt_u : ℕ → ℕ → ℕ → ℕ
igt_u N i j = truth (nat_lt j i)

unfoldable pub igt_s : ℕ → ℕ → ℕ → ℕ
igt_s N i j = truth (int_lt (signed N j) (signed N i))

unfoldable pub ile_u : ℕ → ℕ → ℕ → ℕ
ile_u N i j = truth (nat_le i j)

unfoldable pub ile_s : ℕ → ℕ → ℕ → ℕ
ile_s N i j = truth (int_le (signed N i) (signed N j))

unfoldable pub ige_u : ℕ → ℕ → ℕ → ℕ
ige_u N i j = truth (nat_le j i)

unfoldable pub ige_s : ℕ → ℕ → ℕ → ℕ
ige_s N i j = truth (int_le (signed N j) (signed N i))

-- ---------------------------------------------------------------- conversions from width M to width N

-- extend_u: N is no smaller
unfoldable pub extend_u : ℕ → ℕ → ℕ → ℕ
extend_u M N i = i

-- extend_s: N is no smaller
unfoldable pub extend_s : ℕ → ℕ → ℕ → ℕ
extend_s M N i = unsigned N (signed M i)

-- wrap: N is no larger
unfoldable pub wrap : ℕ → ℕ → ℕ → ℕ
wrap M N i = i % 2 ^ N
