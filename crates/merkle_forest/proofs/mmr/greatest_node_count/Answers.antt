use Rattle.merkle_forest.specs.Laws.Mmr.{size-limit}
use Rattle.merkle_forest.proofs.mmr.greatest_node_count.Goals as goal

pub returns : goal.returns
returns c = size-limit
