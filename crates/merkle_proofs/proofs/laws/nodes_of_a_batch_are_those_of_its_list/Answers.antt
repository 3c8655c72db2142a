use Rattle.std.proofs.Common.{◌∷◌}
use Rattle.merkle_core_parts.specs.Mem.{own_layer}
use Rattle.merkle_core_parts.specs.Laws.Layers.{layers-right}
use Rattle.merkle_proofs.proofs.laws.nodes_of_a_batch_are_those_of_its_list.Goals as goal

pub returns : goal.returns
returns g c node leaf_digests earlier batch led first tree digest stands is =
    layers-right g.F.Family.merge_rule g.met.F.Family.merges_equals node (own_layer batch ∷ batch.below) earlier leaf_digests
    first tree digest led stands is
