use Rattle.std.proofs.Common.{arith}
use Rattle.merkle_forest.specs.Shape.{shape}
use Rattle.merkle_forest.specs.Laws.ForestGrowth.{height_below}
use Rattle.state_proofs_parts.proofs.grafting.+nodes_of_height.Goals as goal

pub returns-then-height_of-level-clause-few : goal.returns-then-height_of-level-clause-few
returns-then-height_of-level-clause-few t c = omega (arith, height_below (shape c.args.tree.now))
