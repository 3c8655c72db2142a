use Rattle.std.proofs.Common.{◌^◌, ◌+◌, ◌*◌, ◌-◌, ◌%◌, ◌<◌, arith}
use Rattle.merkle_forest.specs.Laws.Mmb.{size-most}
use Rattle.merkle_forest.specs.Laws.MmbCounts.{low-birth}
use Rattle.merkle_forest.specs.Laws.MmbPositions.{birth-branch, three_shl}
use Rattle.merkle_forest.proofs.mmb.root_position.Goals as goal

pub overflow_shl-height : goal.overflow_shl-height
overflow_shl-height c = omega (arith, low-birth c.args.first c.args.height (2 ^ 62) (omega arith) c.requires)

pub overflow_add-result : goal.overflow_add-result
overflow_add-result c =
    let some : 0 < c.args.height = omega (arith, c.if-height-eq0.false) in
    let low = low-birth c.args.first c.args.height (2 ^ 62) (omega arith) c.requires in
    omega (
      arith,
      c.position_of-2.ensures,
      size-most (c.args.first + (3 * 2 ^ (c.args.height - 1) % 2 ^ 64 - 2)),
      three_shl c.args.height (omega (arith, low)),
      birth-branch c.args.first c.args.height some,
      c.requires,
    )
