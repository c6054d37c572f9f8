-- `steps::odd_bits` meets its contract: what the width leaves of whole bytes.
use Rattle.std.specs.Prelude.{◌≡◌, ℕ, ◌%◌, None, Some}
use Rattle.std.proofs.Common.{◌∙◌, rules}
use Rattle.emission.specs.Forms.{odd_width}
use Rattle.steps.proofs.Temporaries.{odd_in}
use Rattle.steps.proofs.odd_bits.Goals as goal

pub returns-clause-is : goal.returns-clause-is
returns-clause-is c =
    let o = c.integer_width.result in
    let none : o ≡ None → c.map_or.result ≡ 0 = λ e. (let p = rw e at c.map_or.ensures in search rules) in
    let some : (w : ℕ) → o ≡ Some w → c.map_or.result ≡ w % 8 = λ w e. (let p = rw e at c.map_or.ensures in search rules) in
    odd_width c.integer_width.ensures ∙ odd_in o none some
