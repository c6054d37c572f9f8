-- Its own arrays are enough for every ticket.
use Rattle.std.specs.Prelude.{◌≡◌, ℕ, Err, length}
use Rattle.std.proofs.Common.{arith, rules}
use Rattle.ticket.specs.declared.ReadError.{ReadError}
use lib.ListN.{replicate, length-replicate}
use Rattle.line_checks.specs.Rows.{rows_length}
use Rattle.compiler.specs.Lent.{lists_length, marks_length, stack_length}
use Rattle.compiler.proofs.Laws.{tried_short, never_short}
use Rattle.compiler.proofs.lower_large.Goals as goal

pub returns-in-Err-NoRoom : goal.returns-in-Err-NoRoom
returns-in-Err-NoRoom c =
    let e : c.lower_in.result ≡ Err ReadError.NoRoom = search rules in
    absurd
    (never_short c.args.ticket.now (length {A = ℕ} (replicate rows_length 0)) (length {A = ℕ} (replicate lists_length 0)) (length {A = ℕ} (replicate marks_length 0)) (length {A = ℕ} (replicate stack_length 0)) (omega (arith, length-replicate {A = ℕ} rows_length 0)) (omega (arith, length-replicate {A = ℕ} lists_length 0)) (omega (arith, length-replicate {A = ℕ} marks_length 0)) (omega (arith, length-replicate {A = ℕ} stack_length 0)) (tried_short c.lower_in.ensures e))
