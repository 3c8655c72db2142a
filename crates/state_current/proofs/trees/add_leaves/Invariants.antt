use Rattle.std.proofs.Common.{◌≡◌, ◌-◌}
use Rattle.state_current.specs.ChunkLeaves.{chunk_leaf, leaves_from}
use Rattle.state_current.proofs.trees.add_leaves.Given as goal

abbrev pub invariant-loop-chunk : goal.invariant-loop-chunk
invariant-loop-chunk g l =
    l.batch ≡ record l.fn.batch {
      added = leaves_from (chunk_leaf g.F.Family.merge_rule g.F.Graftable.root_of g.H.HashFunction.hash_of g.row.N l.height l.tree.after l.bits.after) l.first
          (l.chunk - l.first);
    }
