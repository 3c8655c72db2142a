use Rattle.std.proofs.Common.{◌≡◌, ◌+◌, ℕ, List, Some, length, map}
use Rattle.std.specs.Prelude.{slice_get}
use Rattle.merkle_forest.specs.Forest.{leaf}
use Rattle.merkle_core_parts.specs.Mem.{node_count, encoded, known_over}
use Rattle.merkle_core_parts.specs.Laws.Made.{AreMade, IsHashed}
use Rattle.merkle_core_parts.specs.Laws.Rebuilt.{Digests}
use Rattle.merkle_memory.proofs.growth.push_leaves.Given as goal

abbrev pub invariant-loop-digest : goal.invariant-loop-digest
invariant-loop-digest g l = record {
  total : l.leaves ≡ l.base + l.digest-index;
  counted : l.base_size + length l.added.items ≡ node_count g.F.Family.merge_rule l.leaves;
  made : (after : Digests) → IsHashed g.F.Family.merge_rule (g.H.Hasher.node_of l.hasher) l.base after
      → ((k : ℕ) (d : List ℕ) → slice_get (map g.H.Digest.Write.encoding l.digests) k ≡ Some d
      → after (l.base + k) (leaf (node_count g.F.Family.merge_rule (l.base + k))) ≡ d)
      → AreMade g.F.Family.merge_rule after l.base l.base (node_count g.F.Family.merge_rule l.base)
      (known_over l.base_size (encoded g.H.Digest.Write.encoding l.peaks)
      (map g.H.Digest.Write.encoding l.fn.added.items))
      → AreMade g.F.Family.merge_rule after l.base l.leaves (node_count g.F.Family.merge_rule l.leaves)
      (known_over l.base_size (encoded g.H.Digest.Write.encoding l.peaks)
      (map g.H.Digest.Write.encoding l.added.items));
}
