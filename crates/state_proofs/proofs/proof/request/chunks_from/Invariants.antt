use Rattle.std.proofs.Common.{◌≡◌, ◌+◌, ◌-◌, ◌*◌, ◌++◌, drop}
use Rattle.state_theory.specs.Bits.{chunks_of}
use Rattle.state_proofs.proofs.proof.request.chunks_from.Given as goal

abbrev pub invariant-loop-index : goal.invariant-loop-index
invariant-loop-index g l =
    l.chunks.items ++ chunks_of g.row.N (l.first + l.count - l.index) (drop (8 * g.row.N * l.index) (g.B.BitmapReadable.bits l.status))
    ≡ chunks_of g.row.N l.count (drop (8 * g.row.N * l.first) (g.B.BitmapReadable.bits l.status))
