use Rattle.std.proofs.Common.{◌≡◌, ◌++◌, map, length}
use Rattle.std.specs.List.{AllByRecursion, flat_map}
use Rattle.auth_store_client.proofs.range.split_chunks.Given as goal

abbrev pub invariant-loop-rest : goal.invariant-loop-rest
invariant-loop-rest l = (AllByRecursion (λ chunk. length chunk ≡ l.width) (map (λ chunk. chunk.now) l.chunks.items))
    × (flat_map (λ chunk. chunk) (map (λ chunk. chunk.now) l.chunks.items) ++ l.rest ≡ l.bytes)

abbrev pub decreases-loop-rest : goal.decreases-loop-rest
decreases-loop-rest l = length l.rest
