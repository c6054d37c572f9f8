-- Where a line was counted, both columns are sound.
use Rattle.figures.proofs.Gathered.{held_some}
use Rattle.figures.proofs.annex.Annex.new.Goals as goal

pub invariant_of-result : goal.invariant_of-result
invariant_of-result c = let h = held_some _ c.requires c.if-columns-eq0.false in record { instructions = h.0; storages = h.1 }
