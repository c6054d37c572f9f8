-- The line written is the instruction's.
use Rattle.std.proofs.Common.{refl}
use Rattle.text.specs.Writes.{writes_none}
use Rattle.lir.specs.Abstract.{kind_of}
use Rattle.emission.specs.Appends.{writes_long, writes_at}
use Rattle.emission.specs.Emits.{emits_one}
use Rattle.emission.proofs.emitter.Emitter.emit.Goals as goal

pub invariant_of-self : goal.invariant_of-self
invariant_of-self c =
    let e = c.args.self.now in
    record {
      code_long = writes_long c.print_instruction.ensures;
      code_at = writes_at c.print_instruction.ensures;
      store_long = e.store_long;
      store_at = e.store_at;
    }

pub returns : goal.returns
returns c =
    let e = c.args.self.now in
    emits_one (kind_of c.args.kind) c.print_instruction.ensures (writes_none e.store e.store_long e.store_at) refl refl refl refl
