use Rattle.std.proofs.Common.{◌≡◌, ◌+◌, ◌≤◌, ◌↔◌, map, length}
use Rattle.std.specs.List.{range_with_len}
use Rattle.auth_store_client.specs.Claims.{bit_over, bits_over}
use Rattle.auth_store_client.proofs.range.are_bits.Given as goal

abbrev pub invariant-loop-rest : goal.invariant-loop-rest
invariant-loop-rest l = (l.start ≤ l.location) × (l.location + length l.rest ≡ l.start + length l.bits)
    × ((l.rest ≡ map (bit_over l.chunk_size.width l.start (map (λ chunk. chunk.now) l.chunks)) (range_with_len l.location (length l.rest)))
    ↔ (l.bits ≡ bits_over l.chunk_size.width l.start (map (λ chunk. chunk.now) l.chunks) (length l.bits)))

abbrev pub decreases-loop-rest : goal.decreases-loop-rest
decreases-loop-rest l = length l.rest
