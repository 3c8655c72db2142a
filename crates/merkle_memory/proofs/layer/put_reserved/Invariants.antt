use Rattle.std.proofs.Common.{◌≡◌, ◌≤◌, ◌+◌, map, drop, length, vec_len, vec_capacity}
use Rattle.merkle_core_parts.specs.Layers.{oldest_leaves, with_layers}
use Rattle.merkle_core_parts.specs.Mem.{Nodes, encoded, node_count}
use Rattle.merkle_core_parts.specs.Laws.Layers.{leaves_with}
use Rattle.merkle_memory.proofs.layer.put_reserved.Given as goal

abbrev pub invariant-loop-left : goal.invariant-loop-left
invariant-loop-left g l =
    let encoding = g.D.Write.encoding in
    let rule = g.F.Family.merge_rule in
    let all = map (λ layer. layer.value) l.following in
    record {
      within : l.left ≤ length l.following;
      counted : l.start + vec_len l.digests ≡ node_count rule
          (leaves_with (oldest_leaves l.own.base.leaves all) (drop l.left all));
      room : node_count rule l.own.leaves ≤ l.start + vec_capacity l.digests;
      applied : (nodes : Nodes) → l.start ≡ node_count rule nodes.boundary
          → encoded encoding l.fn.pinned.items ≡ nodes.pinned → map encoding l.fn.digests.items ≡ nodes.digests
          → (encoded encoding l.pinned.items ≡ (with_layers rule nodes (drop l.left all)).pinned)
          × (map encoding l.digests.items ≡ (with_layers rule nodes (drop l.left all)).digests);
    }

abbrev pub decreases-loop-left : goal.decreases-loop-left
decreases-loop-left g l = l.left
