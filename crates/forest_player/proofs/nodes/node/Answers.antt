use Rattle.merkle_forest.specs.Laws.Nodes.{subtree-at}
use Rattle.forest_player.proofs.nodes.node.Goals as goal

pub subtree_root_position-again-requires : goal.subtree_root_position-again-requires
subtree_root_position-again-requires g c =
    subtree-at _ c.new-at.result c.pos_to_height-height.result c.leftmost_leaf-first.result
    c.pos_to_height-height.ensures.there c.leftmost_leaf-first.ensures
