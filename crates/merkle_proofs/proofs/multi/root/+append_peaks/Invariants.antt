use Rattle.std.proofs.Common.{◌-◌}
use Rattle.merkle_proofs.proofs.multi.root.+append_peaks.Given as goal

abbrev pub decreases-append_peaks : goal.decreases-append_peaks
decreases-append_peaks g l = l.leaves - l.first
