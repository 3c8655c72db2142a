use Rattle.merkle_forest.specs.Laws.MmbPositions.{subtree-mmb}
use Rattle.merkle_forest.proofs.mmb.FamilyGraftable.subtree_root.Goals as goal

pub root_position-requires : goal.root_position-requires
root_position-requires c = subtree-mmb c.args.first c.args.height c.requires
