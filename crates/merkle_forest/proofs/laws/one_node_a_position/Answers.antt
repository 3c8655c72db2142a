use Rattle.merkle_forest.specs.Laws.NodeGrowth.{one-node}
use Rattle.merkle_forest.proofs.laws.one_node_a_position.Goals as goal

pub returns : goal.returns
returns g c n m first other a b = one-node g.F.Family.merge_rule g.met.F.Family.merges_equals n m first other a b
