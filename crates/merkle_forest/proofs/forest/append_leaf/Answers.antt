use Rattle.std.proofs.Common.{map, arith}
use Rattle.merkle_forest.specs.Shape.{shape}
use Rattle.merkle_forest.proofs.ForestLemmas.{size_bound}
use Rattle.merkle_forest.proofs.forest.append_leaf.Goals as goal

pub overflow_add-nodes : goal.overflow_add-nodes
overflow_add-nodes g c = omega (arith, size_bound (map shape c.args.peaks.now.items))
