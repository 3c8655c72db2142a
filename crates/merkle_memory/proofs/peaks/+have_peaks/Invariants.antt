use Rattle.std.proofs.Common.{◌-◌}
use Rattle.merkle_memory.proofs.peaks.+have_peaks.Given as goal

abbrev pub decreases-have_peaks : goal.decreases-have_peaks
decreases-have_peaks g l = l.leaves - l.first
