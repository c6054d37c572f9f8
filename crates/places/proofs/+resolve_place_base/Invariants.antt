use Rattle.places.proofs.+resolve_place_base.Given as goal

abbrev pub decreases-resolve_place_base : goal.decreases-resolve_place_base
decreases-resolve_place_base l = l.depth
