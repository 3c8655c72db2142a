use Rattle.merkle_theory.proofs.Lookups.{lookup_of_nodes}
use Rattle.merkle_proofs.proofs.laws.nodes_of_a_tree_are_those_of_its_list.Goals as goal

pub returns : goal.returns
returns g c node leaf_digests nodes are = (are.counted, lookup_of_nodes node g.F.Family.merge_rule leaf_digests nodes are)
