use Rattle.std.proofs.Common.{map, ap, arith}
use Rattle.merkle_forest.specs.Laws.ForestGrowth.{size-mono}
use Rattle.merkle_core_parts.specs.Layers.{oldest_leaves}
use Rattle.merkle_core_parts.specs.Mem.{node_count}
use Rattle.merkle_core_parts.specs.Laws.Layers.{oldest-least}
use Rattle.merkle_memory.proofs.layer.put_layers.Goals as goal

pub reserve_room-requires-clause-within : goal.reserve_room-requires-clause-within
reserve_room-requires-clause-within g c =
    let rule = g.F.Family.merge_rule in
    let own = c.args.own.now in
    let all = map (λ layer. layer.value) c.args.following.now in
    let least = oldest-least rule own.base.leaves all c.requires.stacked in
    omega (
      arith,
      ap (node_count rule) c.leaves.ensures.leaves,
      c.requires.counted,
      size-mono rule g.met.F.Family.merges_equals (oldest_leaves own.base.leaves all) own.leaves
          (omega (arith, least, c.requires.whole.grown)),
    )
