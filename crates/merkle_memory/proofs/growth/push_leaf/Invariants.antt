use Rattle.std.proofs.Common.{◌≡◌, ◌+◌, suc, length, map}
use Rattle.merkle_forest.specs.Forest.{leaf}
use Rattle.merkle_core_parts.specs.Mem.{node_count, encoded, known_over}
use Rattle.merkle_core_parts.specs.Laws.Made.{AreMade, IsHashed}
use Rattle.merkle_core_parts.specs.Laws.Rebuilt.{Digests}
use Rattle.merkle_memory.proofs.growth.push_leaf.Given as goal

abbrev pub invariant-loop-index : goal.invariant-loop-index
invariant-loop-index g l = record {
  counted : l.base_size + length l.added.items ≡ suc (node_count g.F.Family.merge_rule l.leaves) + l.index;
  made : (after : Digests) → IsHashed g.F.Family.merge_rule (g.H.Hasher.node_of l.hasher) l.base after
      → after l.leaves (leaf (node_count g.F.Family.merge_rule l.leaves)) ≡ g.H.Digest.Write.encoding l.fn.digest
      → AreMade g.F.Family.merge_rule after l.base l.leaves (node_count g.F.Family.merge_rule l.leaves)
      (known_over l.base_size (encoded g.H.Digest.Write.encoding l.peaks)
      (map g.H.Digest.Write.encoding l.fn.added.items))
      → AreMade g.F.Family.merge_rule after l.base (suc l.leaves) (l.base_size + length l.added.items)
      (known_over l.base_size (encoded g.H.Digest.Write.encoding l.peaks)
      (map g.H.Digest.Write.encoding l.added.items));
}
