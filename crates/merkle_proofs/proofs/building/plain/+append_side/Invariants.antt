use Rattle.std.proofs.Common.{length}
use Rattle.merkle_proofs.proofs.building.plain.+append_side.Given as goal

abbrev pub decreases-append_side : goal.decreases-append_side
decreases-append_side g l = length l.peaks.now
