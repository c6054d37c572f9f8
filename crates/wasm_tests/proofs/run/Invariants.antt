-- A turn runs one case.
use Rattle.std.proofs.Common.{◌≡◌}
use Rattle.wasm_tests.proofs.run.Given as goal

abbrev pub invariant-loop : goal.invariant-loop
invariant-loop g l = l.tally.ran ≡ l.counter
