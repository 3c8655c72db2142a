use Rattle.std.proofs.Common.{◌-◌}
use Rattle.merkle_proofs.proofs.multi.+append_unnamed_peaks.Given as goal

abbrev pub decreases-append_unnamed_peaks : goal.decreases-append_unnamed_peaks
decreases-append_unnamed_peaks g l = l.leaves - l.first
