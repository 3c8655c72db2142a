use Rattle.std.proofs.Common.{◌-◌}
use Rattle.state_proofs_parts.proofs.grafting.counts.+aligned_from.Given as goal

abbrev pub decreases-aligned_from : goal.decreases-aligned_from
decreases-aligned_from g l = l.leaves - l.first
