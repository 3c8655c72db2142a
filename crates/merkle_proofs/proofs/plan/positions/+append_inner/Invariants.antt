use Rattle.std.proofs.Common.{◌-◌}
use Rattle.merkle_proofs.proofs.plan.positions.+append_inner.Given as goal

abbrev pub decreases-append_inner : goal.decreases-append_inner
decreases-append_inner g l = l.leaves - l.first
