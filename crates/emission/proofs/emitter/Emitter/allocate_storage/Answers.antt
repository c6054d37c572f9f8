-- The line written is the new storage's.
use Rattle.std.proofs.Common.{refl}
use Rattle.spec.specs.Allocation.{allocate_storage}
use Rattle.text.specs.Writes.{writes_none}
use Rattle.lir.specs.Abstract.{storage_kind_of, purpose_of}
use Rattle.emission.specs.Appends.{writes_long, writes_at}
use Rattle.emission.proofs.emitter.Emitter.allocate_storage.Goals as goal

pub invariant_of-self : goal.invariant_of-self
invariant_of-self c =
    let e = c.args.self.now in
    record {
      code_long = e.code_long;
      code_at = e.code_at;
      store_long = writes_long c.print_storage.ensures;
      store_at = writes_at c.print_storage.ensures;
    }

pub returns : goal.returns
unfolding allocate_storage
returns c =
    let e = c.args.self.now in
    record {
      new = record { id = e.storage; kind = storage_kind_of c.args.kind; purpose = purpose_of c.args.purpose; number = e.temporary; regions = c.args.regions };
      is = λ h. refl;
      coded = writes_none e.code e.code_long e.code_at;
      stored = c.print_storage.ensures;
      counted = refl;
      storage = refl;
      temporary = refl;
      node = refl;
    }
