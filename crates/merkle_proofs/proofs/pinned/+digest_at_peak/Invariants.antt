use Rattle.std.specs.Prelude.{◌-◌}
use Rattle.merkle_proofs.proofs.pinned.+digest_at_peak.Given as goal

abbrev pub decreases-digest_at_peak : goal.decreases-digest_at_peak
decreases-digest_at_peak g l = l.leaves - l.first
