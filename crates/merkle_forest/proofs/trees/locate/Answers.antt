use Rattle.std.proofs.Common.{arith}
use Rattle.merkle_forest.proofs.ForestLemmas.{leaves_before}
use Rattle.merkle_forest.proofs.trees.locate.Goals as goal

pub leaf_count_of-start-requires : goal.leaf_count_of-start-requires
leaf_count_of-start-requires c =
    omega (
      arith,
      leaves_before c.args.peaks.now c.loop-index.index c.loop-index.start c.index-peaks-index.result
          c.loop-index-test.true (omega arith) c.index-peaks-index.is c.loop-index.invariant.start,
    )

pub overflow_add-start : goal.overflow_add-start
overflow_add-start c =
    omega (
      arith,
      c.leaf_count_of-start.ensures,
      leaves_before c.args.peaks.now c.loop-index.index c.loop-index.start
          c.index-peaks-index.result c.loop-index-test.true (omega arith) c.index-peaks-index.is c.loop-index.invariant.start,
    )
