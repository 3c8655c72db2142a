use Rattle.std.specs.Prelude.{◌-◌}
use Rattle.merkle_proofs.proofs.verifying.counts.+sides_of.Given as goal

abbrev pub decreases-sides_of : goal.decreases-sides_of
decreases-sides_of g l = l.leaves - l.first
