use Rattle.std.specs.Prelude.{◌-◌}
use Rattle.merkle_proofs.proofs.extraction.+append_told_peaks.Given as goal

abbrev pub decreases-append_told_peaks : goal.decreases-append_told_peaks
decreases-append_told_peaks g l = l.reader.now.leaves - l.first
