use Rattle.merkle_forest.specs.Forest.{forest_of}
use Rattle.merkle_forest.specs.Laws.Peaks.{cut-zero}
use Rattle.merkle_memory.proofs.peaks.peaks_of.Goals as goal

pub append_peaks-requires-clause-cut : goal.append_peaks-requires-clause-cut
append_peaks-requires-clause-cut g c = cut-zero (forest_of g.F.Family.merge_rule c.args.leaves)
