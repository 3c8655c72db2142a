use Rattle.merkle_proofs.proofs.pinned.+digest_before.Given as goal

abbrev pub decreases-digest_before : goal.decreases-digest_before
decreases-digest_before g l = l.subtree.height
