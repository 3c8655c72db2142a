use Rattle.std.proofs.Common.{◌≡◌, take}
use Rattle.state_theory.specs.MapsCode.{leaves_at}
use Rattle.state_proofs_parts.proofs.tree.update_chunks.Given as goal

abbrev pub invariant-loop-chunk : goal.invariant-loop-chunk
invariant-loop-chunk g l =
    l.batch ≡ record l.fn.batch { updates = leaves_at (g.H.Hasher.leaf_of l.hasher) g.row.N l.bits (take l.chunk-index l.chunks) }
