use Rattle.merkle_forest.specs.Laws.MaximalMeaning.{maximal-meaning}
use Rattle.merkle_forest.proofs.laws.maximal_nodes_are_maximal.Goals as goal

pub returns : goal.returns
returns c from to first node peaks = maximal-meaning from to first node peaks
