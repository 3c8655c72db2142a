use Rattle.std.proofs.Common.{length}
use Rattle.merkle_proofs.proofs.building.plain.+append_inner.Given as goal

abbrev pub decreases-append_inner : goal.decreases-append_inner
decreases-append_inner g l = length l.peaks.now
