use Rattle.std.specs.Slice.Iter.{chunks_exact_rest, chunks_exact_size}
use Rattle.std.specs.Prelude.{◌≡◌, ◌∷◌}
use Rattle.values.specs.Heads.{head_of}
use Rattle.parts.specs.Records.{heads_in}
use Rattle.printing.specs.Lines.{head_lines}
use Rattle.printing.proofs.Laws.{Printing}
use Rattle.printing.proofs.print_value.Given as goal

abbrev pub invariant-loop-record : goal.invariant-loop-record
invariant-loop-record l =
    (chunks_exact_size l.record-iterator ≡ 8)
    × Printing l.fn.w (head_lines (head_of l.fn.v ∷ heads_in l.fn.records)) l.w (chunks_exact_rest l.record-iterator)
