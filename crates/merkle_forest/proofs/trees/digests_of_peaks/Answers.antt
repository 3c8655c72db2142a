use Rattle.std.proofs.Common.{arith}
use Rattle.merkle_forest.proofs.ForestLemmas.{leaves_before}
use Rattle.merkle_forest.proofs.trees.digests_of_peaks.Goals as goal

pub digest-requires : goal.digest-requires
digest-requires g c =
    omega (
      arith,
      c.requires.within,
      leaves_before c.args.peaks.now c.loop-index.index c.loop-index.start
          c.index-peaks-index.result c.loop-index-test.true (omega arith) c.index-peaks-index.is c.loop-index.invariant.start,
    )

pub leaf_count_of-start-requires : goal.leaf_count_of-start-requires
leaf_count_of-start-requires g c =
    omega (
      arith,
      leaves_before c.args.peaks.now c.loop-index.index c.loop-index.start c.index-peaks-index.result
          c.loop-index-test.true (omega arith) c.index-peaks-index.is c.loop-index.invariant.start,
    )

pub overflow_add-start : goal.overflow_add-start
overflow_add-start g c =
    omega (
      arith,
      c.leaf_count_of-start.ensures,
      leaves_before c.args.peaks.now c.loop-index.index c.loop-index.start
          c.index-peaks-index.result c.loop-index-test.true (omega arith) c.index-peaks-index.is c.loop-index.invariant.start,
    )
