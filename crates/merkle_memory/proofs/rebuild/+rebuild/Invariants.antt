use Rattle.merkle_memory.proofs.rebuild.+rebuild.Given as goal

abbrev pub decreases-rebuild : goal.decreases-rebuild
decreases-rebuild g l = l.place.height
