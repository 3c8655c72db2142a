use Rattle.merkle_proofs.proofs.multi.tree.+shown_digest.Given as goal

abbrev pub decreases-shown_digest : goal.decreases-shown_digest
decreases-shown_digest g l = l.subtree.height
