use Rattle.std.proofs.Common.{◌≡◌, ◌-◌, ◌++◌, take, length}
use Rattle.state_theory.specs.Bits.{chunk_of}
use Rattle.state_proofs_parts.proofs.bits.chunk_array.Given as goal

abbrev pub invariant-loop-index : goal.invariant-loop-index
invariant-loop-index g l =
    (length l.chunk ≡ g.row.N) × (take l.index l.chunk ++ chunk_of (g.row.N - l.index) l.rest ≡ chunk_of g.row.N l.bits)
