use Rattle.std.proofs.Common.{length}
use Rattle.state_proofs.proofs.proof.verifying.+are_wide.Given as goal

abbrev pub decreases-are_wide : goal.decreases-are_wide
decreases-are_wide g l = length l.chunks.now
