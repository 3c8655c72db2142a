use Rattle.merkle_proofs.proofs.pinned.+append_nodes_before.Given as goal

abbrev pub decreases-append_nodes_before : goal.decreases-append_nodes_before
decreases-append_nodes_before g l = l.subtree.height
