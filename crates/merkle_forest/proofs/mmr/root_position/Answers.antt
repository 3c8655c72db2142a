use Rattle.std.proofs.Common.{arith}
use Rattle.merkle_forest.specs.Laws.ForestGrowth.{height_fits}
use Rattle.merkle_forest.proofs.mmr.root_position.Goals as goal

pub overflow_shl-nodes_after : goal.overflow_shl-nodes_after
overflow_shl-nodes_after c = omega (arith, height_fits 62 c.args.height (omega arith))
