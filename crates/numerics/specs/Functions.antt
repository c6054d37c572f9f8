-- What the functions answer, whatever they are handed: at a width from 1 to 64 the specification's operation, of the operands modulo 2 ^ N;
-- at any other width 0, or `None` where the operation itself can be undefined.
use Rattle.std.specs.Prelude.{ℕ, ◌%◌, ◌^◌, ◌≤◌, Bool, ◌&&◌, if◌then◌else◌, nat_le}
use Rattle.std.specs.Prelude.{Option, None}

pub record IsWidth (N : ℕ) : Type 0 where
  pub positive : 1 ≤ N
  pub fits : N ≤ 64

-- 1 ≤ L ≤ H ≤ 64
abbrev pub widths : ℕ → ℕ → Bool
widths L H = nat_le 1 L && (nat_le L H && nat_le H 64)

unfoldable pub unary_at : (ℕ → ℕ → ℕ) → ℕ → ℕ → ℕ
unary_at f N a = if widths N N then f N (a % 2 ^ N) else 0

unfoldable pub binary_at : (ℕ → ℕ → ℕ → ℕ) → ℕ → ℕ → ℕ → ℕ
binary_at f N a b = if widths N N then f N (a % 2 ^ N) (b % 2 ^ N) else 0

unfoldable pub quotient_at : (ℕ → ℕ → ℕ → Option ℕ) → ℕ → ℕ → ℕ → Option ℕ
quotient_at f N a b = if widths N N then f N (a % 2 ^ N) (b % 2 ^ N) else None

-- from width M to a width N that is no smaller, and to one that is no larger
unfoldable pub widening_at : (ℕ → ℕ → ℕ → ℕ) → ℕ → ℕ → ℕ → ℕ
widening_at f M N a = if widths M N then f M N (a % 2 ^ M) else 0

unfoldable pub narrowing_at : (ℕ → ℕ → ℕ → ℕ) → ℕ → ℕ → ℕ → ℕ
narrowing_at f M N a = if widths N M then f M N (a % 2 ^ M) else 0
