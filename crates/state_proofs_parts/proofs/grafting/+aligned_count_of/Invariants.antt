use Rattle.std.proofs.Common.{length}
use Rattle.state_proofs_parts.proofs.grafting.+aligned_count_of.Given as goal

abbrev pub decreases-aligned_count_of : goal.decreases-aligned_count_of
decreases-aligned_count_of l = length l.peaks.now
