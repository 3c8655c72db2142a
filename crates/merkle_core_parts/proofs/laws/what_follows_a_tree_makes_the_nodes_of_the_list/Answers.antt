use Rattle.merkle_core_parts.specs.Laws.Layers.{layers-nodes}
use Rattle.merkle_core_parts.proofs.laws.what_follows_a_tree_makes_the_nodes_of_the_list.Goals as goal

pub returns : goal.returns
returns g c node below earlier list stage count nodes led is are =
    layers-nodes g.F.Family.merge_rule g.met.F.Family.merges_equals node below earlier list stage count nodes led is are
