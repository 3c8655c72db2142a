use Rattle.std.proofs.Common.{arith}
use Rattle.merkle_forest.proofs.ForestLemmas.{leaves_at}
use Rattle.merkle_forest.proofs.forest.heights_of.Goals as goal

pub height_of-requires : goal.height_of-requires
height_of-requires c =
    omega (arith, leaves_at c.args.peaks.now c.loop-peak.peak-index c.peak-item.result c.loop-peak-test.true c.peak-item.is)
