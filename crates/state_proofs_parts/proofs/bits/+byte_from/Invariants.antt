use Rattle.std.proofs.Common.{length}
use Rattle.state_proofs_parts.proofs.bits.+byte_from.Given as goal

abbrev pub decreases-byte_from : goal.decreases-byte_from
decreases-byte_from l = length l.bits.now
