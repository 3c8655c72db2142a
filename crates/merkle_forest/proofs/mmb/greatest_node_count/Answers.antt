use Rattle.merkle_forest.specs.Laws.Mmb.{size-limit}
use Rattle.merkle_forest.proofs.mmb.greatest_node_count.Goals as goal

pub returns : goal.returns
returns c = size-limit
