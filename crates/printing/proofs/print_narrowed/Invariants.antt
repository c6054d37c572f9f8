use Rattle.std.specs.Prelude.{◌≡◌}
use Rattle.printing.proofs.Laws.{Marking}
use Rattle.printing.proofs.print_narrowed.Given as goal

abbrev pub invariant-loop-k : goal.invariant-loop-k
invariant-loop-k l =
    let i = l.k-iterator in
    (i.a.end ≡ l.n) × Marking l.fn.w l.n l.narrowed l.w i.a.start i.b.rest.now
