use Rattle.std.proofs.Common.{◌≡◌, ◌≤◌, map, drop, length}
use Rattle.std.specs.Option.{option_map}
use Rattle.merkle_core_parts.specs.Layers.{oldest_leaves, with_layers}
use Rattle.merkle_core_parts.specs.Mem.{Nodes, AreKeptNodes, node_at}
use Rattle.merkle_core_parts.specs.Laws.Layers.{AreGrown, leaves_with}
use Rattle.merkle_memory.proofs.layer.node_with_layers.Given as goal

abbrev pub invariant-loop-newer : goal.invariant-loop-newer
invariant-loop-newer g l =
    let encoding = g.D.Write.encoding in
    let rule = g.F.Family.merge_rule in
    let all = map (λ layer. layer.value) l.following in
    let oldest = oldest_leaves l.own.base.leaves all in
    record {
      within : l.newer ≤ length l.following;
      grown : (nodes : Nodes) → AreKeptNodes rule nodes → nodes.leaves ≡ oldest
          → AreGrown rule (leaves_with oldest (drop l.newer all)) (with_layers rule nodes (drop l.newer all));
      found : (nodes : Nodes) → AreKeptNodes rule nodes → nodes.leaves ≡ oldest
          → option_map encoding l.fn.there ≡ node_at rule nodes l.position
          → option_map encoding l.found ≡ node_at rule (with_layers rule nodes (drop l.newer all)) l.position;
    }

abbrev pub decreases-loop-newer : goal.decreases-loop-newer
decreases-loop-newer g l = l.newer
