use Rattle.std.proofs.Common.{◌-◌}
use Rattle.merkle_proofs.proofs.subtree.+peaks_from.Given as goal

abbrev pub decreases-peaks_from : goal.decreases-peaks_from
decreases-peaks_from g l = l.leaves - l.first
