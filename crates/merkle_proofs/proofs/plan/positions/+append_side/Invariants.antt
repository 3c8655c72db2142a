use Rattle.std.proofs.Common.{◌-◌}
use Rattle.merkle_proofs.proofs.plan.positions.+append_side.Given as goal

abbrev pub decreases-append_side : goal.decreases-append_side
decreases-append_side g l = l.leaves - l.first
