use Rattle.std.proofs.Common.{◌≡◌, ◌++◌, map, length}
use Rattle.state_proofs.proofs.proof.extracting.lent_chunks.Given as goal

abbrev pub invariant-loop-rest : goal.invariant-loop-rest
invariant-loop-rest g l = map (λ chunk. chunk.now) l.found.items ++ l.rest ≡ l.chunks

abbrev pub decreases-loop-rest : goal.decreases-loop-rest
decreases-loop-rest g l = length l.rest
