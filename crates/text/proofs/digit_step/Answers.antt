-- A checked product and a checked sum.
use native.Mathlib.Omega.{arith}
use mathlib.Core.Path.{sym}
use Rattle.text.proofs.Steps.{bad_large, summed}
use Rattle.text.proofs.digit_step.Goals as goal

pub returns-in_err-checked_mul : goal.returns-in_err-checked_mul
returns-in_err-checked_mul c = rw c.from_residual-in_err-checked_mul.ensures (bad_large _ _ c.in_ok-digit.digit (sym c.in_ok-digit.ensures) (omega (arith, c.in_err-checked_mul.ensures)))

pub returns : goal.returns
returns c = summed _ _ _ _ _ c.in_ok-digit.ensures (omega arith) c.in_ok-checked_mul.ensures.1 c.checked_add.ensures
