use Rattle.merkle_forest.specs.Forest.{mmr_rule}
use Rattle.merkle_forest.specs.Laws.Rules.{mmr_merges_equals}
use Rattle.merkle_forest.specs.Laws.Nodes.{subtree-low}
use Rattle.merkle_forest.proofs.mmr.FamilyGraftable.subtree_root.Goals as goal

pub root_position-requires : goal.root_position-requires
root_position-requires c = (subtree-low mmr_rule mmr_merges_equals c.args.first c.args.height c.requires).0
