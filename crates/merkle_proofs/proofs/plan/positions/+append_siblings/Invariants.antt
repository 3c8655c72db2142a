use Rattle.merkle_proofs.proofs.plan.positions.+append_siblings.Given as goal

abbrev pub decreases-append_siblings : goal.decreases-append_siblings
decreases-append_siblings g l = l.subtree.height
