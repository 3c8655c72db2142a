use Rattle.std.proofs.Common.{◌≡◌, ◌-◌, ◌++◌}
use Rattle.state_theory.specs.Bits.{chunk_of}
use Rattle.state_proofs_parts.proofs.bits.chunk_from.Given as goal

abbrev pub invariant-loop : goal.invariant-loop
invariant-loop l = l.chunk.items ++ chunk_of (l.width - l.counter) l.rest ≡ chunk_of l.width l.bits
