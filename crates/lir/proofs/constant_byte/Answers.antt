-- A shift by eight bits is a division by 256; none of the eight bytes of a number is behind the eighth.
use Rattle.std.proofs.Common.{◌≡◌, ℕ, zero, suc, ◌+◌, ◌*◌, ◌/◌, ◌^◌, ◌<◌, ◌≤◌, refl, arith}
use Rattle.std.proofs.Math.Nat.{pow-suc, pow-le-pow_right, div-eq_of_lt}
use Rattle.std.proofs.lemmas.Nat.{pow-add}
use Rattle.lir.proofs.constant_byte.Goals as goal

bytes_bits : (i : ℕ) → 256 ^ i ≡ 2 ^ (8 * i)
bytes_bits zero = refl
bytes_bits (suc i) = let e : 8 * suc i ≡ 8 * i + 8 = omega arith in rw (pow-suc, e, pow-add, bytes_bits i)

behind_last : (n i : ℕ) → n < 2 ^ 64 → 8 ≤ i → n / 256 ^ i ≡ 0
behind_last n i h k = let g : 256 ^ 8 ≤ 256 ^ i = pow-le-pow_right (omega arith) k in div-eq_of_lt (omega arith)

pub returns-then-i-lt8 : goal.returns-then-i-lt8
returns-then-i-lt8 c = rw (bytes_bits c.args.i)

pub returns-else-i-lt8 : goal.returns-else-i-lt8
returns-else-i-lt8 c = rw (behind_last c.args.n c.args.i (omega arith) c.if-i-lt8.false)
