-- The type's kind and size are the table's.
use Rattle.spec.specs.Allocation.{type_size}
use Rattle.tables.proofs.Laws.{size_here, word_here, args_here}
use Rattle.places.proofs.Facts.{held_line}
use Rattle.places.proofs.typed_base.Goals as goal

pub invariant_of-result : goal.invariant_of-result
unfolding type_size
invariant_of-result c = record {
  offset_most = c.requires;
  size_most = rw (c.type_size.ensures, ← size_here c.args.tables.now.lines.rows.now c.args.tables.now.lines.lists.now c.args.tables.now.lines.counts c.args.ty) (c.args.tables.now.readable.types.size_most c.args.ty);
}

pub returns-clause-base : goal.returns-clause-base
returns-clause-base c = rw (word_here, args_here _ _ _ c.args.tables.now.readable.types, size_here, c.type_at.ensures, c.type_size.ensures)

pub returns-clause-held : goal.returns-clause-held
returns-clause-held c = rw (c.type_at.ensures, ← word_here _ _ _ _, ← args_here _ _ _ c.args.tables.now.readable.types _) (held_line _ c.args.tables.now.readable c.args.ty)
