use Rattle.merkle_core_parts.specs.Mem.{own_layer}
use Rattle.merkle_core_parts.specs.Laws.Batches.{led-nodes}
use Rattle.merkle_core_parts.proofs.laws.a_batch_makes_the_nodes_of_its_list.Goals as goal

pub returns : goal.returns
returns g c node before after nodes batch led are =
    led-nodes g.F.Family.merge_rule g.met.F.Family.merges_equals node (own_layer batch) before after nodes led are
