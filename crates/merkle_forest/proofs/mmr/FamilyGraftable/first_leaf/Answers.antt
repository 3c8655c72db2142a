use Rattle.std.proofs.Common.{◌-◌, ◌*◌, ◌^◌, ◌%◌, arith}
use Rattle.merkle_forest.specs.Laws.MmrBirths.{first_leaf-mmr, room-mmr}
use Rattle.merkle_forest.proofs.mmr.FamilyGraftable.first_leaf.Goals as goal

pub overflow_shl-nodes_after : goal.overflow_shl-nodes_after
overflow_shl-nodes_after c = (room-mmr c.args.position c.args.height c.requires).0

pub overflow_sub-nodes_after : goal.overflow_sub-nodes_after
overflow_sub-nodes_after c = omega (arith, room-mmr c.args.position c.args.height c.requires)

pub overflow_sub-position : goal.overflow_sub-position
overflow_sub-position c = omega (arith, room-mmr c.args.position c.args.height c.requires)

pub returns : goal.returns
returns c =
    let room = room-mmr c.args.position c.args.height c.requires in
    let found = c.greatest_leaf_count.ensures in
    first_leaf-mmr c.args.position c.args.height
    (c.args.position - (2 * 2 ^ c.args.height % 2 ^ 64 - 2)) c.greatest_leaf_count.result
    (omega (arith, room)) found.within found.greatest
