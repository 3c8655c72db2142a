use Rattle.state_proofs_parts.proofs.grafting.storage.Storage.+reconstruct_grafted_node.Given as goal

abbrev pub decreases-reconstruct_grafted_node : goal.decreases-reconstruct_grafted_node
decreases-reconstruct_grafted_node g l = l.height
