use Rattle.merkle_forest.specs.Laws.Mmr.{size-mmr}
use Rattle.merkle_forest.proofs.mmr.position_of_a_leaf.Goals as goal

pub returns : goal.returns
returns c n few = size-mmr n
