use Rattle.std.proofs.Common.{◌≡◌, ◌-◌}
use Rattle.state_theory.specs.MapsCode.{leaves_from}
use Rattle.state_proofs_parts.proofs.tree.add_chunks.Given as goal

abbrev pub invariant-loop-chunk : goal.invariant-loop-chunk
invariant-loop-chunk g l =
    l.batch ≡ record l.fn.batch { added = leaves_from (g.H.Hasher.leaf_of l.hasher) g.row.N l.bits l.first (l.chunk - l.first) }
