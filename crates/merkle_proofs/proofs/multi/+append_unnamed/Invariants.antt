use Rattle.merkle_proofs.proofs.multi.+append_unnamed.Given as goal

abbrev pub decreases-append_unnamed : goal.decreases-append_unnamed
decreases-append_unnamed g l = l.subtree.height
