use Rattle.merkle_forest.specs.Forest.{forest_of}
use Rattle.merkle_forest.specs.Laws.Peaks.{cut-zero}
use Rattle.merkle_memory.proofs.peaks.have_all_peaks.Goals as goal

pub have_peaks-requires-clause-cut : goal.have_peaks-requires-clause-cut
have_peaks-requires-clause-cut g c = cut-zero (forest_of g.F.Family.merge_rule c.args.leaves)
