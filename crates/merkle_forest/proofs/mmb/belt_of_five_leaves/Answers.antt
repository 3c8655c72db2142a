use Rattle.merkle_forest.specs.Laws.Mmb.{five-leaves}
use Rattle.merkle_forest.proofs.mmb.belt_of_five_leaves.Goals as goal

pub returns : goal.returns
returns c = five-leaves
