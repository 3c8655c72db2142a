use Rattle.merkle_memory.proofs.peaks.+fold_onto_peaks.Given as goal

abbrev pub decreases-fold_onto_peaks : goal.decreases-fold_onto_peaks
decreases-fold_onto_peaks g l = l.count
