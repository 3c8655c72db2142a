use Rattle.merkle_proofs.proofs.extraction.+append_told.Given as goal

abbrev pub decreases-append_told : goal.decreases-append_told
decreases-append_told g l = l.subtree.height
