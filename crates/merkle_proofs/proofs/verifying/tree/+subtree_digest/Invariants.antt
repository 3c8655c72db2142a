use Rattle.merkle_proofs.proofs.verifying.tree.+subtree_digest.Given as goal

abbrev pub decreases-subtree_digest : goal.decreases-subtree_digest
decreases-subtree_digest g l = l.subtree.height
