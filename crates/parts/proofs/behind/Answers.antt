-- Its records are those that its head counts, or all that stand there.
use Rattle.std.specs.Prelude.{◌≡◌}
use Rattle.std.proofs.Common.{ap, ◌∙◌, arith}
use Rattle.values.specs.declared.Value.{Value as Val}
use Rattle.values.specs.Heads.{head_of, records}
use Rattle.values.specs.Stack.{value_at}
use Rattle.parts.proofs.Skips.{passed}
use Rattle.parts.proofs.behind.Goals as goal

pub returns : goal.returns
returns c =
    let e : c.records_of-own.result ≡ records (head_of (value_at c.args.stack.now c.args.at)) =
    c.records_of-own.ensures ∙ ap (λ (z : Val). records (head_of z)) c.value_at.ensures in
    passed c.requires.2 c.requires.0 c.requires.1 _ (omega arith)
