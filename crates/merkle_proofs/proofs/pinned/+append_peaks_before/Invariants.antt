use Rattle.std.specs.Prelude.{◌-◌}
use Rattle.merkle_proofs.proofs.pinned.+append_peaks_before.Given as goal

abbrev pub decreases-append_peaks_before : goal.decreases-append_peaks_before
decreases-append_peaks_before g l = l.leaves - l.first
