use Rattle.std.proofs.Common.{◌-◌}
use Rattle.merkle_memory.proofs.peaks.+fold_peaks_backward.Given as goal

abbrev pub decreases-fold_peaks_backward : goal.decreases-fold_peaks_backward
decreases-fold_peaks_backward g l = l.leaves - l.first
