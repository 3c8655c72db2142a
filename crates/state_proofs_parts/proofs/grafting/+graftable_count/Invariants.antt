use Rattle.std.proofs.Common.{length}
use Rattle.state_proofs_parts.proofs.grafting.+graftable_count.Given as goal

abbrev pub decreases-graftable_count : goal.decreases-graftable_count
decreases-graftable_count l = length l.peaks.now
