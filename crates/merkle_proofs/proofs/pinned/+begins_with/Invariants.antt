use Rattle.std.proofs.Common.{length}
use Rattle.merkle_proofs.proofs.pinned.+begins_with.Given as goal

abbrev pub decreases-begins_with : goal.decreases-begins_with
decreases-begins_with g l = length l.digests.now
