use Rattle.std.proofs.Common.{◌≡◌, ◌-◌, ◌++◌, map}
use Rattle.state_theory.specs.Bits.{chunks_of}
use Rattle.state_proofs_parts.proofs.bits.chunks_from.Given as goal

abbrev pub invariant-loop : goal.invariant-loop
invariant-loop l = map (λ chunk. chunk.items) l.chunks.items ++ chunks_of l.chunk_size.width
    (l.count - l.counter) l.rest ≡ chunks_of l.chunk_size.width l.count l.bits
