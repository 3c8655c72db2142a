use Rattle.std.proofs.Common.{◌≡◌, ◌*◌, take}
use Rattle.state_current.specs.ChunkLeaves.{chunk_leaf, leaves_over}
use Rattle.state_current.proofs.trees.update_leaves.Given as goal

abbrev pub invariant-loop-place : goal.invariant-loop-place
invariant-loop-place g l =
    l.batch ≡ record l.fn.batch {
      updates = leaves_over (chunk_leaf g.F.Family.merge_rule g.F.Graftable.root_of g.H.HashFunction.hash_of g.row.N l.height l.tree.after l.bits.after)
          (8 * g.row.N) l.count (take l.place-index l.places);
    }
